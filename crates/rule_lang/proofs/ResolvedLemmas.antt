-- The places of terms, binds and amounts are those of what they name.
use Rattle.std.proofs.Common.{◌≡◌, ℕ, ℤ, pos, nat_lt, ◌&&◌, Err, ◌+◌, ◌-◌, ◌*◌, ◌^◌, ◌≤◌, arith}
use Rattle.std.proofs.Common.{Bool, true, false, not, nat_le, cond, List, [], ◌∷◌, Option, Some}
use Rattle.std.proofs.Common.{None, Ok, IfOk, refl, ap, sym, ◌∙◌, subst, slice_get, is_none}
use Rattle.std.proofs.Common.{position}
use Rattle.std.proofs.lemmas.Bool.{and_parts, leb-true, eqb-true}
use Rattle.std.proofs.lemmas.Option.{cond_some, same_Some, slice_get-get_or}
use Rattle.std.proofs.lemmas.List.Quantifiers.{position-Some}
use Rattle.std.proofs.lemmas.Nat.{pow-add}
use Rattle.std.proofs.Math.Nat.{mul_assoc}
use Rattle.std.proofs.lemmas.Slice.Eq.{bytes_eq-Decides}
use Rattle.std.specs.Str.{bytes_eq}
use Rattle.cfg_model.specs.declared.kind.Field.{Field}
use Rattle.cfg_model.specs.declared.kind.Kind.{Kind}
use Rattle.cfg_model.specs.declared.register.Dimension.{Dimension}
use Rattle.cfg_model.specs.declared.register.Register.{Register}
use Rattle.cfg_model.specs.declared.register.Resource.{Resource}
use Rattle.rule_text.specs.Fronts.{is_spelt}
use Rattle.rule_text.specs.declared.plain.PlainAmount.{PlainAmount}
use Rattle.rule_text.specs.declared.plain.PlainBind.{PlainBind}
use Rattle.rule_text.specs.declared.plain.PlainCode.{PlainCode}
use Rattle.rule_text.specs.declared.plain.PlainCode.TheVariants.{Text as PlainText}
use Rattle.rule_text.specs.declared.plain.PlainCode.TheVariants.{Head as PlainHeadCode}
use Rattle.rule_text.specs.declared.plain.PlainCode.TheVariants.{Line as PlainLineCode}
use Rattle.rule_text.specs.declared.plain.PlainPart.{PlainPart}
use Rattle.rule_text.specs.declared.plain.PlainPart.TheVariants.{Number as PlainNumber}
use Rattle.rule_text.specs.declared.plain.PlainPart.TheVariants.{Head as PlainHead}
use Rattle.rule_text.specs.declared.plain.PlainPart.TheVariants.{Line as PlainLine}
use Rattle.rule_text.specs.declared.plain.PlainPart.TheVariants.{Total as PlainTotal}
use Rattle.rule_text.specs.declared.plain.PlainPart.TheVariants.{Cost as PlainCost}
use Rattle.rule_text.specs.declared.plain.PlainTerm.{PlainTerm}
use Rattle.rule_text.specs.declared.plain.PlainTo.{PlainTo}
use Rattle.rule_text.specs.declared.plain.PlainTo.TheVariants.{Code as PlainCodeTo}
use Rattle.rule_text.specs.declared.plain.PlainTo.TheVariants.{Point as PlainPoint}
use Rattle.rule_text.specs.declared.token.Literal.{Literal}
use Rattle.rule_text.specs.declared.token.Spelling.{Spelling}
use Rattle.rule_text.specs.declared.token.Spelling.TheVariants.{Named, Other}
use Rattle.rule_lang.specs.Binds.{resolved_bind_to, resolved_bind, resolved_amount}
use Rattle.reg_base.specs.Numbers.{largest_units}
use Rattle.reg_base.specs.Results.{◌>>=◌, unless, some_or}
use Rattle.rule_lang.specs.Fields.{small_place, place_of, fits, resolved_field}
use Rattle.rule_lang.specs.Fields.{resolved_number_field, resolved_code_field, units_at}
use Rattle.rule_lang.specs.Least.{Checked, beside, each_or_least}
use Rattle.rule_lang.specs.declared.fault.RuleWhy.TheVariants.{UnknownName, WrongType, WrongScope}
use Rattle.rule_lang.specs.Resolved.{IsNamedAt, IsCodeField, IsNumberField, IsValueAt, IsCodeTerm}
use Rattle.rule_lang.specs.Resolved.{IsPart, IsTerm, IsSum, IsValue, IsBind, IsAmount}
use Rattle.rule_lang.specs.Terms.{literal_at, line_part, cost_part, resolved_part, resolved_term}
use Rattle.rule_lang.specs.Terms.{resolved_sum, line_code, resolved_code}
use Rattle.rule_lang.specs.declared.terms.Round.{Round}
use Rattle.rule_lang.proofs.StepLemmas.{step-IfOk, some-IfOk, must-IfOk, unless-IfOk, beside-IfOk}
use Rattle.rule_lang.proofs.StepLemmas.{each-IfOk}

-- a name stands at the place
abbrev pub IsThere : {X : Type 0} → (X → List ℕ) → List X → Spelling → ℕ → Type 0
IsThere {X} name_of xs word place =
    (x : X) × (slice_get xs place ≡ Some x) × (is_spelt (name_of x) word ≡ true)

there : {X : Type 0} (name_of : X → List ℕ) (name : List ℕ) (xs : List X) (place : ℕ)
    → position (λ x. bytes_eq (name_of x) name) xs ≡ Some place
    → IsThere name_of xs (Named name) place
there name_of name [] place e = absurd (cc)
there name_of name (x ∷ xs) place e =
    let at = position-Some (λ y. bytes_eq (name_of y) name) (x ∷ xs) place x e in (
      _,
      slice_get-get_or (x ∷ xs) place x at.0,
      (bytes_eq-Decides name _).1 (sym ((bytes_eq-Decides _ name).0 at.1)),
    )

small : (P : ℕ → Type 0) (place : ℕ) → P place → IfOk (small_place (Some place)) P
small P place p = by_test (nat_lt place 256)
  where
    by_test : (test : Bool) → IfOk (cond test (Ok place) (Err UnknownName)) P
    by_test true = p
    by_test false = tt

found_there : {X : Type 0} (name_of : X → List ℕ) (name : List ℕ) (xs : List X) (found : Option ℕ)
    → position (λ x. bytes_eq (name_of x) name) xs ≡ found
    → IfOk (small_place found) (IsThere name_of xs (Named name))
found_there name_of name xs None e = tt
found_there name_of name xs (Some place) e =
    small (IsThere name_of xs (Named name)) place (there name_of name xs place e)

-- what has the name stands at its place
pub place_of-IfOk : {X : Type 0} (name_of : X → List ℕ) (xs : List X) (word : Spelling)
    → IfOk (place_of name_of xs word) (IsThere name_of xs word)
unfolding place_of
place_of-IfOk name_of xs Other = tt
place_of-IfOk name_of xs (Named name) = found_there name_of name xs _ refl

-- what holds where something of the name was found at its place
pub named-IfOk : {X Y : Type 0} (name_of : X → List ℕ) (xs : List X) (word : Spelling)
    (next : ℕ → X → Checked Y) (Q : Y → Type 0)
    → ((place : ℕ) (x : X) → slice_get xs place ≡ Some x → is_spelt (name_of x) word ≡ true
    → IfOk (next place x) Q)
    → IfOk (place_of name_of xs word >>= λ place. some_or (slice_get xs place) UnknownName >>= next
    place) Q
named-IfOk name_of xs word next Q holds =
    step-IfOk _ Q (place_of name_of xs word) _ (place_of-IfOk name_of xs word)
    (λ place is. some-IfOk _ Q (slice_get xs place) UnknownName
    (λ x at. holds place x at
    (subst (λ y. is_spelt (name_of y) word ≡ true) (same_Some is.0 x (sym is.1 ∙ at)) is.2)))

-- the field of a name stands at its place, and has its scale
pub resolved_field-IfOk : (fields : List Field) (word : Spelling)
    → IfOk (resolved_field fields word)
    (λ found. IsNamedAt (λ (f : Field). f.name) fields word found.place (λ f. found.scale
    ≡ f.scale))
unfolding resolved_field
resolved_field-IfOk fields word = named-IfOk (λ (f : Field). f.name) fields word _ _
    (λ place field at spelt. (field, at, spelt, refl))

fits-Some : (asked : ℕ) (scale : Option ℕ) → fits (Some asked) scale ≡ true → scale ≡ Some asked
fits-Some asked None e = absurd (cc)
fits-Some asked (Some scale) e = ap Some (sym (eqb-true asked scale e))

none : (scale : Option ℕ) → is_none scale ≡ true → scale ≡ None
none None e = refl
none (Some scale) e = absurd (cc)

pub number_field-IfOk : (fields : List Field) (scale : ℕ) (word : Spelling)
    → IfOk (resolved_number_field fields (Some scale) word) (IsNumberField fields scale word)
unfolding resolved_number_field
number_field-IfOk fields scale word = step-IfOk _ _ (resolved_field fields word) _
    (resolved_field-IfOk fields word)
    (λ found is. must-IfOk _ _ (fits (Some scale) found.scale) WrongType
    (λ u fit. (is.0, is.1, is.2, sym is.3 ∙ fits-Some scale found.scale fit)))

pub code_field-IfOk : (fields : List Field) (word : Spelling)
    → IfOk (resolved_code_field fields word) (IsCodeField fields word)
unfolding resolved_code_field
code_field-IfOk fields word = step-IfOk _ _ (resolved_field fields word) _
    (resolved_field-IfOk fields word)
    (λ found is. must-IfOk _ _ (is_none found.scale) WrongType
    (λ u fit. (is.0, is.1, is.2, sym is.3 ∙ none found.scale fit)))

-- the units of a literal are its value at the scale
pub units_at-value : (literal : Literal) (scale : ℕ) (units : ℤ)
    → units_at literal scale ≡ Some units
    → IsValueAt literal scale units
unfolding units_at
units_at-value literal scale units e =
    let count = literal.digits * 10 ^ (scale - literal.decimals) in
    let h = cond_some (nat_le literal.decimals scale && nat_le count largest_units) (pos count)
    units e in
    let parts = and_parts (nat_le literal.decimals scale) (nat_le count largest_units) h.0 in
    let few : literal.decimals ≤ scale = leb-true literal.decimals scale parts.0 in
    let whole : (scale - literal.decimals) + literal.decimals ≡ scale = omega (arith, few) in
    record {
      count = count;
      is = sym h.1;
      value = mul_assoc literal.digits (10 ^ (scale - literal.decimals)) (10 ^ literal.decimals)
          ∙ ap (λ n. literal.digits * n)
          (sym (pow-add 10 (scale - literal.decimals) literal.decimals)
          ∙ ap (λ n. 10 ^ n) whole);
      within = leb-true count largest_units parts.1;
    }

-- a part of a sum of a scale
pub part_of-IfOk : (kind : Kind) (round : Round) (scale : ℕ) (plain : PlainPart)
    → IfOk (resolved_part kind round (Some scale) plain) (IsPart kind round scale plain)
unfolding resolved_part literal_at line_part cost_part IsPart
part_of-IfOk kind round scale (PlainNumber literal) = some-IfOk _ _ (units_at literal scale)
    WrongType
    (λ units is. (units, refl, units_at-value literal scale units is))
part_of-IfOk kind round scale (PlainHead word) =
    step-IfOk _ _ (resolved_number_field kind.head (Some scale) word) _
    (number_field-IfOk kind.head scale word) (λ place at. (place, refl, at))
part_of-IfOk kind round scale (PlainLine word) =
    step-IfOk _ _ (resolved_number_field kind.lines (Some scale) word) _
    (number_field-IfOk kind.lines scale word)
    (λ place at. must-IfOk _ _ round.each WrongScope (λ u on. (place, refl, at, on)))
part_of-IfOk kind round scale (PlainTotal word) =
    step-IfOk _ _ (resolved_number_field kind.lines (Some scale) word) _
    (number_field-IfOk kind.lines scale word) (λ place at. (place, refl, at))
part_of-IfOk kind round scale PlainCost = some-IfOk _ _ round.cost WrongScope
    (λ cost is. must-IfOk _ _ (fits (Some scale) (Some cost)) WrongType
    (λ u fit. (refl, is ∙ fits-Some scale (Some cost) fit)))

pub term_of-IfOk : (kind : Kind) (round : Round) (scale : ℕ) (plain : PlainTerm)
    → IfOk (resolved_term kind round (Some scale) plain) (IsTerm kind round scale plain)
unfolding resolved_term
term_of-IfOk kind round scale plain = step-IfOk _ _ (resolved_part kind round (Some scale)
    plain.part) _ (part_of-IfOk kind round scale plain.part)
    (λ part is. record { minus = refl; negative = refl; part = is })

-- a sum of a scale
pub sum_of-IfOk : (kind : Kind) (round : Round) (scale : ℕ) (plain : List PlainTerm)
    → IfOk (resolved_sum kind round (Some scale) plain) (IsSum kind round scale plain)
unfolding resolved_sum
sum_of-IfOk kind round scale plain = step-IfOk _ _
    (each_or_least (resolved_term kind round (Some scale)) plain) _
    (each-IfOk (resolved_term kind round (Some scale)) (IsTerm kind round scale)
    (term_of-IfOk kind round scale) plain) (λ terms all. all)

-- a code, or a field with codes
pub code_of-IfOk : (kind : Kind) (round : Round) (plain : PlainCode)
    → IfOk (resolved_code kind round plain) (IsCodeTerm kind round plain)
unfolding resolved_code line_code IsCodeTerm
code_of-IfOk kind round (PlainText code) = refl
code_of-IfOk kind round (PlainHeadCode word) =
    step-IfOk _ _ (resolved_code_field kind.head word) _ (code_field-IfOk kind.head word)
    (λ place at. (place, refl, at))
code_of-IfOk kind round (PlainLineCode word) =
    step-IfOk _ _ (resolved_code_field kind.lines word) _ (code_field-IfOk kind.lines word)
    (λ place at. must-IfOk _ _ round.each WrongScope (λ u on. (place, refl, at, on)))

is_false : (lot : Bool) → not lot ≡ true → lot ≡ false
is_false true e = absurd (cc)
is_false false e = refl

bind_to-IfOk : (kind : Kind) (round : Round) (lot : Bool) (plain : PlainTo)
    → IfOk (resolved_bind_to kind round lot plain) (IsValue kind round lot plain)
unfolding resolved_bind_to IsValue
bind_to-IfOk kind round lot PlainPoint = must-IfOk _ _ lot WrongType (λ u is. (refl, is))
bind_to-IfOk kind round lot (PlainCodeTo plain) = step-IfOk _ _ (beside (unless (not lot) WrongType)
    (resolved_code kind round plain)) _
    (beside-IfOk (unless (not lot) WrongType) (resolved_code kind round plain) (not lot ≡ true) _
    (unless-IfOk (not lot) WrongType) (code_of-IfOk kind round plain))
    (λ code h. (code, refl, h.1, is_false lot h.0))

-- a dimension with a value of its sort
pub bind_of-IfOk : (kind : Kind) (round : Round) (register : Register) (plain : PlainBind)
    → IfOk (resolved_bind kind round register plain) (IsBind kind round register plain)
unfolding resolved_bind
bind_of-IfOk kind round register plain = named-IfOk (λ (d : Dimension). d.name) register.dimensions
    plain.dimension _ _
    (λ place d at spelt. step-IfOk _ _ (resolved_bind_to kind round d.lot plain.to) _
    (bind_to-IfOk kind round d.lot plain.to)
    (λ to fit. (d, at, spelt, fit)))

-- a resource with a sum of its scale
pub amount_of-IfOk : (kind : Kind) (round : Round) (register : Register) (plain : PlainAmount)
    → IfOk (resolved_amount kind round register plain) (IsAmount kind round register plain)
unfolding resolved_amount
amount_of-IfOk kind round register plain = named-IfOk (λ (r : Resource). r.name) register.resources
    plain.resource _ _
    (λ place r at spelt. step-IfOk _ _ (resolved_sum kind round (Some r.scale) plain.sum) _
    (sum_of-IfOk kind round r.scale plain.sum)
    (λ sum fit. (r, at, spelt, fit)))
