-- Sums with all the decimals of their scale: they are written so, and read as the same.
use Rattle.std.proofs.Common.{◌≡◌, ℕ, ◌-◌, ◌*◌, ◌^◌, Bool, true, false, not, ◌&&◌, cond, nat_le}
use Rattle.std.proofs.Common.{List, [], ◌∷◌, ◌++◌, map, codes, Option, Some, None, Ok, IfOk, ℤ, pos}
use Rattle.std.proofs.Common.{refl, ap, ap₂, sym, ◌∙◌, arith}
use Rattle.std.proofs.lemmas.Bool.{and_from, and_parts, le-leb}
use Rattle.std.proofs.lemmas.Option.{cond_some}
use Rattle.std.specs.List.{AllZip, list_all}
use Rattle.reg_base.specs.Numbers.{largest_units, sum_text}
use Rattle.cfg_model.specs.declared.kind.Kind.{Kind}
use Rattle.rule_text.specs.declared.plain.PlainPart.{PlainPart}
use Rattle.rule_text.specs.declared.plain.PlainPart.TheVariants.{Number as PlainNumber}
use Rattle.rule_text.specs.declared.plain.PlainPart.TheVariants.{Head as PlainHead}
use Rattle.rule_text.specs.declared.plain.PlainPart.TheVariants.{Line as PlainLine}
use Rattle.rule_text.specs.declared.plain.PlainPart.TheVariants.{Total as PlainTotal}
use Rattle.rule_text.specs.declared.plain.PlainPart.TheVariants.{Cost as PlainCost}
use Rattle.rule_text.specs.declared.plain.PlainTerm.{PlainTerm}
use Rattle.rule_text.specs.declared.token.Literal.{Literal}
use Rattle.rule_text.specs.declared.token.Spelling.{Spelling}
use Rattle.rule_text.proofs.ForAbove.{literal_text, part_text as plain_part_text, sign_text}
use Rattle.rule_text.proofs.ForAbove.{term_text as plain_term_text}
use Rattle.rule_text.proofs.ForAbove.{joint_text as plain_joint_text}
use Rattle.rule_text.proofs.ForAbove.{terms_text as plain_terms_text, is_small, part_fits}
use Rattle.rule_text.proofs.ForAbove.{terms_fit}
use Rattle.rule_text.proofs.ForAbove.{spelling_read, part_read, term_read, terms_read}
use Rattle.rule_lang.specs.Conditions.{scale_of_part, first_scale}
use Rattle.rule_lang.specs.Fields.{fits, resolved_number_field, units_at}
use Rattle.rule_lang.specs.Least.{each_or_least}
use Rattle.rule_lang.specs.Terms.{literal_at, line_part, cost_part, resolved_part, resolved_term}
use Rattle.rule_lang.specs.Terms.{resolved_sum}
use Rattle.rule_lang.specs.TermTexts.{part_text, term_text, joint_text, terms_text, part_scale}
use Rattle.rule_lang.specs.TermTexts.{terms_scale}
use Rattle.rule_lang.specs.declared.fault.RuleWhy.TheVariants.{WrongType, WrongScope}
use Rattle.rule_lang.specs.declared.statement.Part.{Part}
use Rattle.rule_lang.specs.declared.statement.Part.TheVariants.{Number}
use Rattle.rule_lang.specs.declared.statement.Sum.{Sum}
use Rattle.rule_lang.specs.declared.statement.Term.{Term}
use Rattle.rule_lang.specs.declared.terms.Round.{Round}
use Rattle.rule_lang.proofs.NameLemmas.{IfOk-self, IsField, resolved_number_field-written}
use Rattle.rule_lang.proofs.StepLemmas.{step-IfOk, some-IfOk, must-IfOk, IfOk-follows}
use Rattle.rule_lang.proofs.StepLemmas.{AllZip-follows}
use Rattle.rule_lang.proofs.ZipLemmas.{each-zip, zip-each, zip-map, zip-all, list_text-zip}

-- a number with all the decimals of the scale
abbrev pub scaled_literal : ℕ → Literal → Literal
scaled_literal scale literal =
    record { digits = literal.digits * 10 ^ (scale - literal.decimals); decimals = scale }

abbrev pub scaled_part : ℕ → PlainPart → PlainPart
scaled_part scale (PlainNumber literal) = PlainNumber (scaled_literal scale literal)
scaled_part scale (PlainHead spelling) = PlainHead spelling
scaled_part scale (PlainLine spelling) = PlainLine spelling
scaled_part scale (PlainTotal spelling) = PlainTotal spelling
scaled_part scale PlainCost = PlainCost

abbrev pub scaled_term : ℕ → PlainTerm → PlainTerm
scaled_term scale term =
    record { minus = term.minus; negative = term.negative; part = scaled_part scale term.part }

-- a sum, each of whose numbers has all the decimals of the scale
abbrev pub scaled_terms : ℕ → List PlainTerm → List PlainTerm
scaled_terms scale terms = map (scaled_term scale) terms

-- units that were read are those of the digits at the scale
record HasUnits (scale : ℕ) (literal : Literal) (units : ℤ) : Type 0 where
  is : units ≡ pos (scaled_literal scale literal).digits
  fits : is_small (scaled_literal scale literal) ≡ true

units_at-has : (literal : Literal) (scale : ℕ) (units : ℤ) → units_at literal scale ≡ Some units
    → HasUnits scale literal units
unfolding units_at
units_at-has literal scale units e =
    let digits = literal.digits * 10 ^ (scale - literal.decimals) in
    let h = cond_some (nat_le literal.decimals scale && nat_le digits largest_units) (pos digits)
    units e in
    record {
      is = sym h.1;
      fits = (and_parts (nat_le literal.decimals scale)
          (nat_le digits largest_units) h.0).1;
    }

whole : (n scale : ℕ) → n * 10 ^ (scale - scale) ≡ n
whole n scale =
    let none_left : scale - scale ≡ 0 = omega arith in
    let times_one : n * 1 ≡ n = omega arith in
    rw none_left times_one

units_at-scaled : (scale : ℕ) (literal : Literal) (units : ℤ) → HasUnits scale literal units
    → units_at (scaled_literal scale literal) scale ≡ Some units
unfolding units_at
units_at-scaled scale literal units h =
    let digits = literal.digits * 10 ^ (scale - literal.decimals) in
    rw (whole digits scale, le-leb scale scale (omega arith), h.fits) (ap Some (sym h.is))

-- the scale that a part brings, as it is found by name
abbrev pub brought : Option ℕ → Option (Option ℕ)
brought None = None
brought (Some scale) = Some (Some scale)

-- a part is written with all decimals of the scale, and read so as the same
pub record IsPart (kind : Kind) (round : Round) (scale : ℕ) (plain : PlainPart) (part : Part) : Type
    0 where
  pub text : part_text kind (Some scale) part ≡ plain_part_text (scaled_part scale plain)
  pub same : resolved_part kind round (Some scale) (scaled_part scale plain) ≡ Ok part
  pub fits : part_fits is_small (scaled_part scale plain) ≡ true
  pub brings : scale_of_part kind round plain ≡ brought (part_scale kind round.cost part)

-- what is written of a part, and the scale that it brings
record HasText (kind : Kind) (round : Round) (scale : ℕ) (plain : PlainPart) (part : Part) : Type 0
  where
    text : part_text kind (Some scale) part ≡ plain_part_text (scaled_part scale plain)
    fits : part_fits is_small (scaled_part scale plain) ≡ true
    brings : scale_of_part kind round plain ≡ brought (part_scale kind round.cost part)

-- a part that is no number is read again as it was
unchanged : (kind : Kind) (round : Round) (scale : ℕ) (plain : PlainPart)
    → scaled_part scale plain ≡ plain
    → IfOk (resolved_part kind round (Some scale) plain) (HasText kind round scale plain)
    → IfOk (resolved_part kind round (Some scale) plain) (IsPart kind round scale plain)
unchanged kind round scale plain e is = IfOk-follows (resolved_part kind round (Some scale) plain) _
    (IsPart kind round scale plain)
    (λ part h. record {
      text = h.1.text;
      same = ap (resolved_part kind round (Some scale)) e
          ∙ h.0;
      fits = h.1.fits;
      brings = h.1.brings;
    })
    (IfOk-self (resolved_part kind round (Some scale) plain) (HasText kind round scale plain) is)

number-scaled : (kind : Kind) (round : Round) (scale : ℕ) (literal : Literal) (units : ℤ)
    → HasUnits scale literal units
    → IsPart kind round scale (PlainNumber literal) (Number units)
unfolding resolved_part literal_at part_text plain_part_text part_fits scale_of_part part_scale
    literal_text
number-scaled kind round scale literal units has = record {
  text = ap (λ u. sum_text u scale) has.is;
  same = rw (units_at-scaled scale literal units has) refl;
  fits = has.fits;
  brings = refl;
}

head-text : (kind : Kind) (round : Round) (scale : ℕ) (spelling : Spelling)
    → spelling_read spelling ≡ true
    → IfOk (resolved_part kind round (Some scale) (PlainHead spelling)) (HasText kind round scale
    (PlainHead spelling))
unfolding resolved_part part_text plain_part_text part_fits scale_of_part part_scale
head-text kind round scale spelling read =
    step-IfOk _ _ (resolved_number_field kind.head (Some scale) spelling)
    (IsField kind.head spelling (Some scale)) (resolved_number_field-written kind.head scale
    spelling read)
    (λ place is. record {
      text = ap (λ t. codes "head." ++ t) is.written.name;
      fits =
          is.written.named;
      brings = ap Some is.by_name ∙ ap brought (sym is.at_place);
    })

line-text : (kind : Kind) (round : Round) (scale : ℕ) (spelling : Spelling)
    → spelling_read spelling ≡ true
    → IfOk (resolved_part kind round (Some scale) (PlainLine spelling)) (HasText kind round scale
    (PlainLine spelling))
unfolding resolved_part line_part part_text plain_part_text part_fits scale_of_part part_scale
line-text kind round scale spelling read =
    step-IfOk _ _ (resolved_number_field kind.lines (Some scale) spelling)
    (IsField kind.lines spelling (Some scale)) (resolved_number_field-written kind.lines scale
    spelling read)
    (λ place is. must-IfOk _ _ round.each WrongScope
    (λ u on. record {
      text = ap (λ t. codes "line." ++ t) is.written.name;
      fits = is.written.named;
      brings = ap Some is.by_name ∙ ap brought (sym is.at_place);
    }))

total-text : (kind : Kind) (round : Round) (scale : ℕ) (spelling : Spelling)
    → spelling_read spelling ≡ true
    → IfOk (resolved_part kind round (Some scale) (PlainTotal spelling)) (HasText kind round scale
    (PlainTotal spelling))
unfolding resolved_part part_text plain_part_text part_fits scale_of_part part_scale
total-text kind round scale spelling read =
    step-IfOk _ _ (resolved_number_field kind.lines (Some scale) spelling)
    (IsField kind.lines spelling (Some scale)) (resolved_number_field-written kind.lines scale
    spelling read)
    (λ place is. record {
      text = ap (λ t. codes "total." ++ t) is.written.name;
      fits =
          is.written.named;
      brings = ap Some is.by_name ∙ ap brought (sym is.at_place);
    })

cost-text : (kind : Kind) (round : Round) (scale : ℕ)
    → IfOk (resolved_part kind round (Some scale) PlainCost) (HasText kind round scale PlainCost)
unfolding resolved_part cost_part part_text plain_part_text part_fits scale_of_part part_scale
cost-text kind round scale = some-IfOk _ _ round.cost WrongScope
    (λ cost is. must-IfOk _ _ (fits (Some scale) (Some cost)) WrongType
    (λ u fit. record { text = refl; fits = refl; brings = ap Some is ∙ ap brought (sym is) }))

resolved_part-scaled : (kind : Kind) (round : Round) (scale : ℕ) (plain : PlainPart)
    → part_read plain ≡ true
    → IfOk (resolved_part kind round (Some scale) plain) (IsPart kind round scale plain)
unfolding resolved_part literal_at part_read
resolved_part-scaled kind round scale (PlainNumber literal) read = some-IfOk _ _
    (units_at literal scale) WrongType
    (λ units is. number-scaled kind round scale literal units (units_at-has literal scale units is))
resolved_part-scaled kind round scale (PlainHead spelling) read = unchanged kind round scale
    (PlainHead spelling) refl (head-text kind round scale spelling read)
resolved_part-scaled kind round scale (PlainLine spelling) read = unchanged kind round scale
    (PlainLine spelling) refl (line-text kind round scale spelling read)
resolved_part-scaled kind round scale (PlainTotal spelling) read = unchanged kind round scale
    (PlainTotal spelling) refl (total-text kind round scale spelling read)
resolved_part-scaled kind round scale PlainCost read = unchanged kind round scale PlainCost refl
    (cost-text kind round scale)

joint-same : (minus : Bool) → joint_text minus ≡ plain_joint_text minus
joint-same true = refl
joint-same false = refl

sign-same : (negative : Bool) → cond negative (codes "-") [] ≡ sign_text negative
sign-same true = refl
sign-same false = refl

-- a term is written with all decimals of the scale, and read so as the same
record IsTerm (kind : Kind) (round : Round) (scale : ℕ) (plain : PlainTerm) (term : Term) : Type 0
  where
    joint : joint_text term.minus ≡ plain_joint_text plain.minus
    text : term_text kind (Some scale) term ≡ plain_term_text (scaled_term scale plain)
    same : resolved_term kind round (Some scale) (scaled_term scale plain) ≡ Ok term
    fits : part_fits is_small (scaled_part scale plain.part) ≡ true
    brings : scale_of_part kind round plain.part ≡ brought (part_scale kind round.cost term.part)

resolved_term-scaled : (kind : Kind) (round : Round) (scale : ℕ) (plain : PlainTerm)
    → term_read plain ≡ true
    → IfOk (resolved_term kind round (Some scale) plain) (IsTerm kind round scale plain)
unfolding resolved_term term_text plain_term_text
resolved_term-scaled kind round scale plain read =
    step-IfOk _ _ (resolved_part kind round (Some scale) plain.part)
    (IsPart kind round scale plain.part) (resolved_part-scaled kind round scale plain.part read)
    (λ part is. record {
      joint = joint-same plain.minus;
      text = ap₂ ◌++◌ (sign-same plain.negative) is.text;
      same = rw is.same refl;
      fits = is.fits;
      brings = is.brings;
    })

-- the scale that the first of the terms brings is that of the first that are read
scale-first : (kind : Kind) (round : Round) (other : Option ℕ) (plain : PlainTerm)
    (plains : List PlainTerm) (term : Term) (terms : List Term) (scale : Option ℕ)
    → part_scale kind round.cost term.part ≡ scale → scale_of_part kind round plain.part
    ≡ brought scale
    → terms_scale kind round.cost other terms ≡ first_scale kind round other plains
    → terms_scale kind round.cost other (term ∷ terms) ≡ first_scale kind round other
    (plain ∷ plains)
unfolding terms_scale first_scale
scale-first kind round other plain plains term terms None is there rest = rw (is, there) rest
scale-first kind round other plain plains term terms (Some scale) is there rest = rw (is, there)
    refl

scale-zip : (kind : Kind) (round : Round) (scale : ℕ) (other : Option ℕ) (plains : List PlainTerm)
    (terms : List Term)
    → AllZip (IsTerm kind round scale) plains terms
    → terms_scale kind round.cost other terms ≡ first_scale kind round other plains
unfolding terms_scale first_scale
scale-zip kind round scale other [] [] h = refl
scale-zip kind round scale other [] (term ∷ terms) h = absurd h
scale-zip kind round scale other (plain ∷ plains) [] h = absurd h
scale-zip kind round scale other (plain ∷ plains) (term ∷ terms) h =
    scale-first kind round other plain plains term terms (part_scale kind round.cost term.part) refl
    h.0.brings
    (scale-zip kind round scale other plains terms h.1)

-- a sum is written with all decimals of the scale, and read so as the same
pub record IsSum (kind : Kind) (round : Round) (scale : ℕ) (plain : List PlainTerm)
    (sum : Sum) : Type 0 where
  pub text : terms_text kind (Some scale) sum.terms ≡ plain_terms_text (scaled_terms scale plain)
  pub same : resolved_sum kind round (Some scale) (scaled_terms scale plain) ≡ Ok sum
  pub fits : terms_fit is_small (scaled_terms scale plain) ≡ true
  pub brings : (other : Option ℕ) → terms_scale kind round.cost other sum.terms
      ≡ first_scale kind round other plain

text-zip : (kind : Kind) (round : Round) (scale : ℕ) (plains : List PlainTerm) (terms : List Term)
    → AllZip (IsTerm kind round scale) plains terms
    → terms_text kind (Some scale) terms ≡ plain_terms_text (scaled_terms scale plains)
unfolding terms_text plain_terms_text
text-zip kind round scale plains terms all =
    let R : PlainTerm → Term → Type 0 = λ p t. (joint_text t.minus ≡ plain_joint_text p.minus)
    × (term_text kind (Some scale) t ≡ plain_term_text p) in
    list_text-zip (λ p. plain_joint_text p.minus) plain_term_text (λ t. joint_text t.minus)
    (term_text kind (Some scale)) (scaled_terms scale plains) terms
    (zip-map (scaled_term scale) R plains terms
    (AllZip-follows (IsTerm kind round scale) (λ p t. R (scaled_term scale p) t)
    (λ p t is. (is.joint, is.text)) plains terms all))

same-zip : (kind : Kind) (round : Round) (scale : ℕ) (plains : List PlainTerm) (terms : List Term)
    → AllZip (IsTerm kind round scale) plains terms
    → resolved_sum kind round (Some scale) (scaled_terms scale plains)
    ≡ Ok (record { terms = terms })
unfolding resolved_sum
same-zip kind round scale plains terms all =
    let R : PlainTerm → Term → Type 0 = λ p t. resolved_term kind round (Some scale) p ≡ Ok t in
    rw (zip-each (resolved_term kind round (Some scale)) (scaled_terms scale plains) terms
    (zip-map (scaled_term scale) R plains terms
    (AllZip-follows (IsTerm kind round scale) (λ p t. R (scaled_term scale p) t) (λ p t is. is.same)
    plains terms all))) refl

fits-zip : (kind : Kind) (round : Round) (scale : ℕ) (plains : List PlainTerm) (terms : List Term)
    → terms_read plains ≡ true
    → AllZip (IsTerm kind round scale) plains terms → terms_fit is_small (scaled_terms scale plains)
    ≡ true
unfolding terms_read terms_fit
fits-zip kind round scale [] terms read all = absurd (cc)
fits-zip kind round scale (plain ∷ plains) [] read all = absurd all
fits-zip kind round scale (plain ∷ plains) (term ∷ terms) read all =
    let first = (and_parts (not plain.minus) (term_read plain && list_all term_read plains) read).0
    in
    let R : PlainTerm → Term → Type 0 = λ p t. part_fits is_small p.part ≡ true in
    and_from _ _ first (and_from _ _ all.0.fits (zip-all (λ p. part_fits is_small p.part)
    (scaled_terms scale plains) terms
    (zip-map (scaled_term scale) R plains terms
    (AllZip-follows (IsTerm kind round scale) (λ p t. R (scaled_term scale p) t) (λ p t is. is.fits)
    plains terms all.1))))

all_read : (plains : List PlainTerm) → terms_read plains ≡ true → list_all term_read plains ≡ true
unfolding terms_read
all_read [] read = refl
all_read (plain ∷ plains) read = (and_parts (not plain.minus) (term_read plain && list_all term_read
    plains) read).1

pub resolved_sum-scaled : (kind : Kind) (round : Round) (scale : ℕ) (plain : List PlainTerm)
    → terms_read plain ≡ true
    → IfOk (resolved_sum kind round (Some scale) plain) (IsSum kind round scale plain)
unfolding resolved_sum
resolved_sum-scaled kind round scale plain read = step-IfOk _ _
    (each_or_least (resolved_term kind round (Some scale)) plain)
    (AllZip (IsTerm kind round scale) plain)
    (each-zip (resolved_term kind round (Some scale)) term_read (IsTerm kind round scale)
    (resolved_term-scaled kind round scale) plain (all_read plain read))
    (λ terms all. record {
      text = text-zip kind round scale plain terms all;
      same = same-zip kind round scale plain terms all;
      fits = fits-zip kind round scale plain terms read all;
      brings = λ other. scale-zip kind round scale other plain terms all;
    })
