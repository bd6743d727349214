-- The places of conditions are those of what they name, and both sums have one scale.
use Rattle.std.proofs.Common.{◌≡◌, ℕ, zero, suc, arith, cond, option_and_then, Bool, true, false}
use Rattle.std.proofs.Common.{List, [], ◌∷◌, Option, Some, None, Ok, Err, IfOk, ◌⊎◌, inl, inr, refl}
use Rattle.std.proofs.Common.{ap, sym, ◌∙◌}
use Rattle.std.specs.Bool.{⊤}
use Rattle.std.specs.List.{All}
use Rattle.std.proofs.lemmas.Option.{cond_some, same_Some}
use Rattle.cfg_model.specs.declared.kind.Field.{Field}
use Rattle.cfg_model.specs.declared.kind.Kind.{Kind}
use Rattle.rule_text.specs.declared.plain.PlainCode.{PlainCode}
use Rattle.rule_text.specs.declared.plain.PlainCond.{PlainCond}
use Rattle.rule_text.specs.declared.plain.PlainCond.TheVariants.{Sums as PlainSums}
use Rattle.rule_text.specs.declared.plain.PlainCond.TheVariants.{Codes as PlainCodes}
use Rattle.rule_text.specs.declared.plain.PlainPart.{PlainPart}
use Rattle.rule_text.specs.declared.plain.PlainPart.TheVariants.{Number as PlainNumber}
use Rattle.rule_text.specs.declared.plain.PlainPart.TheVariants.{Head as PlainHead}
use Rattle.rule_text.specs.declared.plain.PlainPart.TheVariants.{Line as PlainLine}
use Rattle.rule_text.specs.declared.plain.PlainPart.TheVariants.{Total as PlainTotal}
use Rattle.rule_text.specs.declared.plain.PlainPart.TheVariants.{Cost as PlainCost}
use Rattle.rule_text.specs.declared.plain.PlainTerm.{PlainTerm}
use Rattle.rule_text.specs.declared.plain.Test.{Test}
use Rattle.rule_text.specs.declared.token.Spelling.{Spelling}
use Rattle.rule_lang.specs.Conditions.{scale_of_field, scale_of_part, first_scale, asked_scale}
use Rattle.rule_lang.specs.Conditions.{has_code, resolved_sums, resolved_codes, lone_code}
use Rattle.rule_lang.specs.Conditions.{codes_or_sums, resolved_cond}
use Rattle.rule_text.specs.Plain.{lone_field, equality_of}
use Rattle.rule_lang.specs.Fields.{fits, resolved_field, resolved_number_field}
use Rattle.rule_lang.specs.Least.{Checked, both, with_first, each_or_least}
use Rattle.rule_lang.specs.Resolved.{IsSum}
use Rattle.rule_lang.specs.ResolvedConditions.{IsLiteral, AreSums, AreCodes, IsCond, IsWhen}
use Rattle.rule_lang.specs.Rules.{resolved_when}
use Rattle.rule_lang.specs.Terms.{line_part, cost_part, resolved_part, resolved_term, resolved_sum}
use Rattle.rule_lang.specs.Terms.{resolved_code}
use Rattle.rule_lang.specs.declared.fault.RuleWhy.TheVariants.{WrongType, WrongScope}
use Rattle.rule_lang.specs.declared.fields.FieldAt.{FieldAt}
use Rattle.rule_lang.specs.declared.statement.Sum.{Sum}
use Rattle.rule_lang.specs.declared.terms.Round.{Round}
use Rattle.rule_lang.proofs.StepLemmas.{step-IfOk, any-IfOk, self-IfOk, some-IfOk, must-IfOk}
use Rattle.rule_lang.proofs.StepLemmas.{both-IfOk, IfOk-follows}
use Rattle.rule_lang.proofs.ResolvedLemmas.{sum_of-IfOk, code_of-IfOk}

-- a field that is found brings its scale
pub found-scale : (fields : List Field) (spelling : Spelling) (found : FieldAt)
    → resolved_field fields spelling ≡ Ok found → scale_of_field fields spelling ≡ found.scale
unfolding scale_of_field
found-scale fields spelling found is = rw is refl

unfit : false ≡ true → ⊥
unfit e = cc

no_number : (fields : List Field) (spelling : Spelling) → scale_of_field fields spelling ≡ None
    → IfOk (resolved_number_field fields None spelling) (λ _. ⊥)
unfolding resolved_number_field
no_number fields spelling none = step-IfOk _ _ (resolved_field fields spelling)
    (λ found. resolved_field fields spelling ≡ Ok found)
    (self-IfOk (resolved_field fields spelling))
    (λ found is. must-IfOk _ _ (fits None found.scale) WrongType
    (λ u fit. unfit (sym (ap (fits None) (sym (found-scale fields spelling found is) ∙ none))
    ∙ fit)))

-- a part that brings no scale is none where no scale is asked for
unscaled_part : (kind : Kind) (round : Round) (part : PlainPart) → scale_of_part kind round part
    ≡ Some None
    → IfOk (resolved_part kind round None part) (λ _. ⊥)
unfolding scale_of_part resolved_part line_part cost_part
unscaled_part kind round (PlainNumber literal) none = absurd (cc)
unscaled_part kind round (PlainHead spelling) none = step-IfOk _ _
    (resolved_number_field kind.head None spelling) (λ _. ⊥) (no_number kind.head spelling (cc))
    (λ place never. never)
unscaled_part kind round (PlainLine spelling) none = step-IfOk _ _
    (resolved_number_field kind.lines None spelling) (λ _. ⊥) (no_number kind.lines spelling (cc))
    (λ place never. absurd never)
unscaled_part kind round (PlainTotal spelling) none = step-IfOk _ _
    (resolved_number_field kind.lines None spelling) (λ _. ⊥) (no_number kind.lines spelling (cc))
    (λ place never. never)
unscaled_part kind round PlainCost none = some-IfOk _ _ round.cost WrongScope
    (λ scale is. absurd (differ scale (sym is) none))
  where
    differ : (scale : ℕ) → Some scale ≡ round.cost → Some round.cost ≡ Some None → ⊥
    differ scale is none = cc

none_first : {Y : Type 0} (p : Checked (Y × List Y)) → IfOk p (λ _. ⊥)
    → IfOk (with_first p) (λ _. ⊥)
none_first (Ok q) never = never
none_first (Err why) never = tt

-- no list where one of them is none
none_here : {X Y : Type 0} (check : X → Checked Y) (x : X) (xs : List X) → IfOk (check x) (λ _. ⊥)
    → IfOk (each_or_least check (x ∷ xs)) (λ _. ⊥)
unfolding each_or_least
none_here check x xs never = none_first (both (check x) (each_or_least check xs))
    (IfOk-follows (both (check x) (each_or_least check xs)) (λ p. ⊥ × ⊤) (λ _. ⊥) (λ p h. h.0)
    (both-IfOk (check x) (each_or_least check xs) (λ _. ⊥) (λ _. ⊤) never
    (any-IfOk (each_or_least check xs))))

none_later : {X Y : Type 0} (check : X → Checked Y) (x : X) (xs : List X)
    → IfOk (each_or_least check xs) (λ _. ⊥) → IfOk (each_or_least check (x ∷ xs)) (λ _. ⊥)
unfolding each_or_least
none_later check x xs never = none_first (both (check x) (each_or_least check xs))
    (IfOk-follows (both (check x) (each_or_least check xs)) (λ p. ⊤ × ⊥) (λ _. ⊥) (λ p h. h.1)
    (both-IfOk (check x) (each_or_least check xs) (λ _. ⊤) (λ _. ⊥) (any-IfOk (check x)) never))

scale-later : (kind : Kind) (round : Round) (other : Option ℕ) (term : PlainTerm)
    (terms : List PlainTerm)
    → scale_of_part kind round term.part ≡ None → first_scale kind round other (term ∷ terms)
    ≡ first_scale kind round other terms
unfolding first_scale
scale-later kind round other term terms is = rw is refl

scale-here : (kind : Kind) (round : Round) (other scale : Option ℕ) (term : PlainTerm)
    (terms : List PlainTerm)
    → scale_of_part kind round term.part ≡ Some scale → first_scale kind round other (term ∷ terms)
    ≡ scale
unfolding first_scale
scale-here kind round other scale term terms is = rw is refl

unscaled_term : (kind : Kind) (round : Round) (term : PlainTerm)
    → scale_of_part kind round term.part ≡ Some None
    → IfOk (resolved_term kind round None term) (λ _. ⊥)
unfolding resolved_term
unscaled_term kind round term none = step-IfOk _ _ (resolved_part kind round None term.part)
    (λ _. ⊥) (unscaled_part kind round term.part none) (λ part never. never)

-- terms that bring no scale are no sum, or brought none at all
unscaled : (kind : Kind) (round : Round) (other : Option ℕ) (terms : List PlainTerm)
    → first_scale kind round other terms ≡ None
    → (other ≡ None) ⊎ IfOk (each_or_least (resolved_term kind round None) terms) (λ _. ⊥)
unfolding first_scale
unscaled kind round other [] none = inl none
unscaled kind round other (term ∷ terms) none =
    by_part (scale_of_part kind round term.part) refl (unscaled kind round other terms)
  where
    later : (other ≡ None) ⊎ IfOk (each_or_least (resolved_term kind round None) terms) (λ _. ⊥)
        → (other ≡ None) ⊎ IfOk (each_or_least (resolved_term kind round None) (term ∷ terms))
        (λ _. ⊥)
    later (inl is) = inl is
    later (inr never) = inr (none_later (resolved_term kind round None) term terms never)

    differ : (scale : ℕ) → ◌≡◌ {A = Option ℕ} (Some scale) None → ⊥
    differ scale e = cc

    by_part : (brought : Option (Option ℕ)) → scale_of_part kind round term.part ≡ brought
        → (first_scale kind round other terms ≡ None
        → (other ≡ None) ⊎ IfOk (each_or_least (resolved_term kind round None) terms) (λ _. ⊥))
        → (other ≡ None) ⊎ IfOk (each_or_least (resolved_term kind round None) (term ∷ terms))
        (λ _. ⊥)
    by_part None is others = later (others (sym (scale-later kind round other term terms is)
        ∙ none))
    by_part (Some None) is others = inr (none_here (resolved_term kind round None) term terms
        (unscaled_term kind round term is))
    by_part (Some (Some scale)) is others = absurd
        (differ scale (sym (scale-here kind round other (Some scale) term terms is) ∙ none))

no_sum : (kind : Kind) (round : Round) (terms : List PlainTerm)
    → IfOk (each_or_least (resolved_term kind round None) terms) (λ _. ⊥)
    → IfOk (resolved_sum kind round None terms) (λ _. ⊥)
unfolding resolved_sum
no_sum kind round terms never = step-IfOk _ _ (each_or_least (resolved_term kind round None) terms)
    (λ _. ⊥) never (λ ts none. none)

-- terms that bring no scale, though one is asked for, are no sums
pub no_sums : (kind : Kind) (round : Round) (left right : List PlainTerm)
    → asked_scale kind round left right ≡ None
    → IfOk (both (resolved_sum kind round None left) (resolved_sum kind round None right)) (λ _. ⊥)
unfolding asked_scale
no_sums kind round left right none = by_left
    (unscaled kind round (first_scale kind round (Some 6) right) left none)
  where
    differ : ◌≡◌ {A = Option ℕ} (Some 6) None → ⊥
    differ e = cc

    by_right : (◌≡◌ {A = Option ℕ} (Some 6) None) ⊎ IfOk
        (each_or_least (resolved_term kind round None)
        right) (λ _. ⊥)
        → IfOk (both (resolved_sum kind round None left) (resolved_sum kind round None right))
        (λ _. ⊥)
    by_right (inl e) = absurd (differ e)
    by_right (inr never) = IfOk-follows (both (resolved_sum kind round None left)
        (resolved_sum kind round None right)) (λ p. ⊤ × ⊥) (λ _. ⊥) (λ p h. h.1)
        (both-IfOk (resolved_sum kind round None left) (resolved_sum kind round None right) (λ _. ⊤)
        (λ _. ⊥) (any-IfOk (resolved_sum kind round None left)) (no_sum kind round right never))

    by_left : (first_scale kind round (Some 6) right ≡ None) ⊎ IfOk
        (each_or_least (resolved_term kind round None) left) (λ _. ⊥)
        → IfOk (both (resolved_sum kind round None left) (resolved_sum kind round None right))
        (λ _. ⊥)
    by_left (inl is) = by_right (unscaled kind round (Some 6) right is)
    by_left (inr never) = IfOk-follows (both (resolved_sum kind round None left)
        (resolved_sum kind round None right)) (λ p. ⊥ × ⊤) (λ _. ⊥) (λ p h. h.0)
        (both-IfOk (resolved_sum kind round None left) (resolved_sum kind round None right) (λ _. ⊥)
        (λ _. ⊤) (no_sum kind round left never) (any-IfOk (resolved_sum kind round None right)))

first-of : {X : Type 0} (P : X → Type 0) (x : X) (xs : List X) → All P (x ∷ xs) → P x × All P xs
first-of P x xs all = (all zero x (omega arith), λ k d l. all (suc k) d (omega (arith, l)))

-- literals bring no scale
literals-scale : (kind : Kind) (round : Round) (other : Option ℕ) (terms : List PlainTerm)
    → All IsLiteral terms → first_scale kind round other terms ≡ other
unfolding first_scale scale_of_part
literals-scale kind round other [] all = refl
literals-scale kind round other (term ∷ terms) all =
    let parts = first-of IsLiteral term terms all in
    scale-later kind round other term terms (ap (scale_of_part kind round) parts.0.1)
    ∙ literals-scale kind round other terms parts.1

-- literals alone have six decimals
literals-six : (kind : Kind) (round : Round) (left right : List PlainTerm) (scale : ℕ)
    → asked_scale kind round left right ≡ Some scale → All IsLiteral left → All IsLiteral right
    → scale ≡ 6
unfolding asked_scale
literals-six kind round left right scale is l r =
    let six : ◌≡◌ {A = Option ℕ} (Some scale) (Some 6) = sym is
    ∙ literals-scale kind round (first_scale kind round (Some 6) right) left l
    ∙ literals-scale kind round (Some 6) right r in
    same_Some scale 6 six

-- both sums have one scale
record HaveOneScale (kind : Kind) (round : Round) (left right : List PlainTerm) (p : Sum × Sum)
    : Type 0 where
  scale : ℕ
  first : IsSum kind round scale left p.0
  second : IsSum kind round scale right p.1
  literals : All IsLiteral left → All IsLiteral right → scale ≡ 6

one_scale : (kind : Kind) (round : Round) (left right : List PlainTerm) (asked : Option ℕ)
    → asked_scale kind round left right ≡ asked
    → IfOk (both (resolved_sum kind round asked left) (resolved_sum kind round asked right))
    (HaveOneScale kind round left right)
one_scale kind round left right (Some scale) is =
    let first : Checked Sum = resolved_sum kind round (Some scale) left in
    let second : Checked Sum = resolved_sum kind round (Some scale) right in
    IfOk-follows (both first second)
    (λ p. IsSum kind round scale left p.0 × IsSum kind round scale right p.1)
    (HaveOneScale kind round left right) (λ p h. record {
      scale = scale;
      first = h.0;
      second = h.1;
      literals = literals-six kind round left right scale is;
    })
    (both-IfOk first second _ _ (sum_of-IfOk kind round scale left)
    (sum_of-IfOk kind round scale right))
one_scale kind round left right None is =
    IfOk-follows (both (resolved_sum kind round None left) (resolved_sum kind round None right))
    (λ _. ⊥) (HaveOneScale kind round left right) (λ p never. absurd never)
    (no_sums kind round left right is)

sums-IfOk : (kind : Kind) (round : Round) (left : List PlainTerm) (test : Test)
    (right : List PlainTerm) → IfOk (resolved_sums kind round left test right)
    (AreSums kind round left test right)
unfolding resolved_sums
sums-IfOk kind round left test right =
    let asked : Option ℕ = asked_scale kind round left right in
    step-IfOk _ _ (both (resolved_sum kind round asked left) (resolved_sum kind round asked right))
    (HaveOneScale kind round left right) (one_scale kind round left right asked refl)
    (λ p h. record {
      scale = h.scale;
      first = p.0;
      second = p.1;
      is = refl;
      first_is = h.first;
      second_is = h.second;
      literals = h.literals;
    })

codes-IfOk : (kind : Kind) (round : Round) (left : PlainCode) (equal : Bool) (right : PlainCode)
    → IfOk (resolved_codes kind round left equal right) (AreCodes kind round left equal right)
unfolding resolved_codes
codes-IfOk kind round left equal right =
    step-IfOk _ _ (both (resolved_code kind round left) (resolved_code kind round right)) _
    (both-IfOk (resolved_code kind round left) (resolved_code kind round right) _ _
    (code_of-IfOk kind round left) (code_of-IfOk kind round right))
    (λ p h. record { first = p.0; second = p.1; is = refl; first_is = h.0; second_is = h.1 })

of_field : (kind : Kind) (field : Option PlainCode) (code : PlainCode)
    → option_and_then (λ c. cond (has_code kind c) (Some c) None) field ≡ Some code
    → field ≡ Some code
of_field kind None code e = absurd (cc)
of_field kind (Some field) code e = ap Some (cond_some (has_code kind field) field code e).1

-- a field with codes that a sum is stands alone in it
lone_code-field : (kind : Kind) (terms : List PlainTerm) (code : PlainCode)
    → lone_code kind terms ≡ Some code → lone_field terms ≡ Some code
unfolding lone_code
lone_code-field kind terms code e = of_field kind (lone_field terms) code e

either-IfOk : (kind : Kind) (round : Round) (left : List PlainTerm) (test : Test)
    (right : List PlainTerm) (first : Option PlainCode) (equal : Option Bool)
    (second : Option PlainCode) → lone_code kind left ≡ first → equality_of test ≡ equal
    → lone_code kind right ≡ second
    → IfOk (codes_or_sums first equal second kind round (resolved_sums kind round left test right))
    (IsCond kind round (PlainSums left test right))
unfolding IsCond
either-IfOk kind round left test right (Some first) (Some equal) (Some second) a b c =
    IfOk-follows (resolved_codes kind round first equal second) _ _ (λ cond h. inr (record {
      first = first;
      second = second;
      equal = equal;
      first_field = lone_code-field kind left first a;
      second_field = lone_code-field kind right second c;
      asks = b;
      are = h;
    })) (codes-IfOk kind round first equal second)
either-IfOk kind round left test right (Some first) (Some equal) None a b c =
    IfOk-follows (resolved_sums kind round left test right) _ _ (λ cond h. inl h)
    (sums-IfOk kind round left test right)
either-IfOk kind round left test right (Some first) None second a b c =
    IfOk-follows (resolved_sums kind round left test right) _ _ (λ cond h. inl h)
    (sums-IfOk kind round left test right)
either-IfOk kind round left test right None equal second a b c =
    IfOk-follows (resolved_sums kind round left test right) _ _ (λ cond h. inl h)
    (sums-IfOk kind round left test right)

cond-IfOk : (kind : Kind) (round : Round) (plain : PlainCond)
    → IfOk (resolved_cond kind round plain) (IsCond kind round plain)
unfolding resolved_cond IsCond
cond-IfOk kind round (PlainCodes left equal right) = codes-IfOk kind round left equal right
cond-IfOk kind round (PlainSums left test right) = either-IfOk kind round left test right
    (lone_code kind left) (equality_of test) (lone_code kind right) refl refl refl

-- a condition that is accepted names what is there
pub when_of-IfOk : (kind : Kind) (round : Round) (plain : Option PlainCond)
    → IfOk (resolved_when kind round plain) (IsWhen kind round plain)
unfolding resolved_when IsWhen
when_of-IfOk kind round None = refl
when_of-IfOk kind round (Some plain) = step-IfOk _ _ (resolved_cond kind round plain)
    (IsCond kind round plain) (cond-IfOk kind round plain) (λ cond is. (cond, refl, is))
