-- Resources with their numbers are written so that they read as the same.
use Rattle.std.proofs.Common.{◌≡◌, ℕ, true, List, [], ◌∷◌, ◌++◌, map, codes, Option, Some, None}
use Rattle.std.proofs.Common.{option_map, Ok, Err, IfOk, refl, ap, ap₂, sym, subst, ◌∙◌, slice_get}
use Rattle.std.proofs.lemmas.Bool.{and_from, and_parts}
use Rattle.std.specs.List.{AllZip, list_all}
use Rattle.cfg_model.specs.declared.kind.Kind.{Kind}
use Rattle.cfg_model.specs.declared.register.Register.{Register}
use Rattle.cfg_model.specs.declared.register.Resource.{Resource}
use Rattle.rule_text.specs.declared.plain.PlainAmount.{PlainAmount}
use Rattle.rule_text.proofs.ForAbove.{amount_text as plain_amount_text}
use Rattle.rule_text.proofs.ForAbove.{amounts_text as plain_amounts_text, is_small, amount_fits}
use Rattle.rule_text.proofs.ForAbove.{amounts_fit}
use Rattle.rule_text.proofs.ForAbove.{spelling_read, terms_read, amount_read, amounts_read}
use Rattle.rule_lang.specs.Binds.{resolved_amount}
use Rattle.rule_lang.specs.Fields.{place_of}
use Rattle.rule_lang.specs.Least.{Checked, each_or_least}
use Rattle.rule_lang.specs.RuleTexts.{amount_text, amounts_text}
use Rattle.rule_lang.specs.Terms.{resolved_sum}
use Rattle.rule_lang.specs.TermTexts.{terms_text}
use Rattle.rule_lang.specs.declared.fault.RuleWhy.TheVariants.{UnknownName}
use Rattle.rule_lang.specs.declared.statement.Sum.{Sum}
use Rattle.rule_lang.specs.declared.terms.Round.{Round}
use Rattle.rule_lang.proofs.NameLemmas.{IfOk-self, IsWritten, place_of-written}
use Rattle.rule_lang.proofs.ScaledLemmas.{scaled_terms, IsSum, resolved_sum-scaled}
use Rattle.rule_lang.proofs.StepLemmas.{step-IfOk, some-IfOk, IfOk-follows, AllZip-follows}
use Rattle.rule_lang.proofs.ZipLemmas.{each-zip, zip-each, zip-map, zip-all, list_text-zip}

-- the scale of what stands at a place, and 0 where there is nothing
abbrev scale_found : Option Resource → ℕ
scale_found None = 0
scale_found (Some resource) = resource.scale

abbrev scale_there : Register → Checked ℕ → ℕ
scale_there register (Ok place) = scale_found (slice_get register.resources place)
scale_there register (Err why) = 0

-- a resource with all the decimals of its scale
abbrev pub scaled_amount : Register → PlainAmount → PlainAmount
scaled_amount register plain = record {
  resource = plain.resource;
  sum = scaled_terms (scale_there register (place_of (λ (r : Resource). r.name) register.resources
      plain.resource)) plain.sum;
}

-- a resource with its number is written so that it reads as the same
pub record IsAmount (kind : Kind) (round : Round) (register : Register) (written : PlainAmount)
    (amount : ℕ × Sum) : Type 0 where
  pub text : amount_text kind register amount.0 amount.1.terms ≡ plain_amount_text written
  pub same : resolved_amount kind round register written ≡ Ok amount
  pub fits : amount_fits is_small written ≡ true

amount-at : (kind : Kind) (round : Round) (register : Register) (plain : PlainAmount) (place : ℕ)
    (resource : Resource) (sum : Sum)
    → place_of (λ (r : Resource). r.name) register.resources plain.resource ≡ Ok place
    → IsWritten (λ (r : Resource). r.name) register.resources plain.resource place
    → slice_get register.resources place ≡ Some resource
    → IsSum kind round resource.scale plain.sum sum
    → IsAmount kind round register
    (record { resource = plain.resource; sum = scaled_terms resource.scale plain.sum })
    (place, sum)
unfolding resolved_amount amount_text plain_amount_text
amount-at kind round register plain place resource sum found written at is = record {
  text = ap₂ (λ a b. a ++ (codes " = " ++ b)) written.name
      (ap (λ r. terms_text kind (option_map (λ (s : Resource). s.scale) r) sum.terms) at ∙ is.text);
  same = rw (found, at, is.same) refl;
  fits = and_from _ _ written.named is.fits;
}

pub resolved_amount-written : (kind : Kind) (round : Round) (register : Register)
    (plain : PlainAmount) → amount_read plain ≡ true
    → IfOk (resolved_amount kind round register plain) (IsAmount kind round register
    (scaled_amount register plain))
unfolding resolved_amount
resolved_amount-written kind round register plain read =
    let parts = and_parts (spelling_read plain.resource) (terms_read plain.sum) read in
    step-IfOk _ _ (place_of (λ (r : Resource). r.name) register.resources plain.resource) _
    (IfOk-self (place_of (λ (r : Resource). r.name) register.resources plain.resource)
    (IsWritten (λ (r : Resource). r.name) register.resources plain.resource)
    (place_of-written (λ (r : Resource). r.name) register.resources plain.resource parts.0))
    (λ place h. some-IfOk _ _ (slice_get register.resources place) UnknownName
    (λ r at. step-IfOk _ _ (resolved_sum kind round (Some r.scale) plain.sum)
    (IsSum kind round r.scale plain.sum) (resolved_sum-scaled kind round r.scale plain.sum
    parts.1)
    (λ sum is. subst (λ s. IsAmount kind round register
    (record { resource = plain.resource; sum = scaled_terms s plain.sum }) (place, sum))
    (sym (ap (scale_there register) h.0 ∙ ap scale_found at))
    (amount-at kind round register plain place r sum h.0 h.1 at is))))

-- resources with their numbers are written so that they read as the same
pub record AreAmounts (kind : Kind) (round : Round) (register : Register)
    (written : List PlainAmount) (sums : List (ℕ × Sum)) : Type 0 where
  pub text : amounts_text kind register sums ≡ plain_amounts_text written
  pub same : each_or_least (resolved_amount kind round register) written ≡ Ok sums
  pub fits : amounts_fit is_small written ≡ true

all_read : (plains : List PlainAmount) → amounts_read plains ≡ true
    → list_all amount_read plains ≡ true
unfolding amounts_read
all_read [] read = refl
all_read (plain ∷ plains) read = read

some-fit : (register : Register) (plains : List PlainAmount) → amounts_read plains ≡ true
    → list_all (amount_fits is_small) (map (scaled_amount register) plains) ≡ true
    → amounts_fit is_small (map (scaled_amount register) plains) ≡ true
unfolding amounts_read amounts_fit
some-fit register [] read all = absurd (cc)
some-fit register (plain ∷ plains) read all = all

amounts-zip : (kind : Kind) (round : Round) (register : Register) (plains : List PlainAmount)
    (sums : List (ℕ × Sum)) → amounts_read plains ≡ true
    → AllZip (IsAmount kind round register) (map (scaled_amount register) plains) sums
    → AreAmounts kind round register (map (scaled_amount register) plains) sums
unfolding amounts_text plain_amounts_text
amounts-zip kind round register plains sums read all =
    let written = map (scaled_amount register) plains in
    record {
      text = list_text-zip (λ _. codes ", ") plain_amount_text (λ _. codes ", ")
          (λ (s : ℕ × Sum). amount_text kind register s.0 s.1.terms) written sums
          (AllZip-follows (IsAmount kind round register)
          (λ p s. (codes ", " ≡ codes ", ") × (amount_text kind register s.0 s.1.terms
          ≡ plain_amount_text p))
          (λ p s is. (refl, is.text)) written sums all);
      same = zip-each (resolved_amount kind round register) written sums
          (AllZip-follows (IsAmount kind round register) (λ p s. resolved_amount kind round register
          p ≡ Ok s) (λ p s is. is.same) written sums all);
      fits = some-fit register plains read (zip-all (amount_fits is_small) written sums
          (AllZip-follows (IsAmount kind round register) (λ p s. amount_fits is_small p ≡ true)
          (λ p s is. is.fits) written sums all));
    }

pub amounts-written : (kind : Kind) (round : Round) (register : Register)
    (plains : List PlainAmount) → amounts_read plains ≡ true
    → IfOk (each_or_least (resolved_amount kind round register) plains)
    (AreAmounts kind round register
    (map (scaled_amount register) plains))
amounts-written kind round register plains read =
    let R : PlainAmount → ℕ × Sum → Type 0 = IsAmount kind round register in
    IfOk-follows (each_or_least (resolved_amount kind round register) plains)
    (AllZip (λ p s. R (scaled_amount register p) s) plains)
    (AreAmounts kind round register (map (scaled_amount register) plains))
    (λ sums all. amounts-zip kind round register plains sums read
    (zip-map (scaled_amount register) R plains sums all))
    (each-zip (resolved_amount kind round register) amount_read (λ p s. R (scaled_amount register p)
    s) (resolved_amount-written kind round register) plains (all_read plains read))
