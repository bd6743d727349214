-- What is written of a place is the name by which it was found.
use Rattle.std.proofs.Common.{◌≡◌, ℕ, Bool, true, false, nat_lt, List, [], ◌∷◌, Option, Some, None}
use Rattle.std.proofs.Common.{Result, Ok, Err, IfOk, refl, ap, sym, subst, ◌∙◌, slice_get, is_none}
use Rattle.std.proofs.Common.{cond, option_and_then}
use Rattle.std.proofs.lemmas.List.Quantifiers.{position-Some}
use Rattle.std.proofs.lemmas.Option.{slice_get-get_or}
use Rattle.std.proofs.lemmas.Slice.Eq.{bytes_eq-Decides}
use Rattle.std.proofs.lemmas.Bool.{eqb-true}
use Rattle.std.specs.List.{position}
use Rattle.std.specs.Str.{bytes_eq}
use Rattle.cfg_model.specs.declared.kind.Field.{Field}
use Rattle.rule_text.specs.declared.token.Spelling.{Spelling}
use Rattle.rule_text.specs.declared.token.Spelling.TheVariants.{Named, Other}
use Rattle.rule_text.proofs.ForAbove.{spelling_text, is_named}
use Rattle.rule_text.proofs.ForAbove.{spelling_read}
use Rattle.rule_lang.specs.Conditions.{scale_of_field}
use Rattle.rule_lang.specs.Fields.{small_place, place_of, resolved_field, fits}
use Rattle.rule_lang.specs.Fields.{resolved_number_field, resolved_code_field}
use Rattle.rule_lang.specs.TermTexts.{text_if, name_of_place, field_scale}
use Rattle.rule_lang.specs.declared.fault.RuleWhy.TheVariants.{UnknownName, WrongType}
use Rattle.rule_lang.proofs.ConditionLemmas.{found-scale}
use Rattle.rule_lang.proofs.StepLemmas.{step-IfOk, some-IfOk, must-IfOk, self-IfOk, IfOk-follows}

-- the value has both
pub IfOk-and : {F X : Type 0} (r : Result X F) (P Q : X → Type 0) → IfOk r P → IfOk r Q
    → IfOk r (λ x. P x × Q x)
IfOk-and (Ok x) P Q p q = (p, q)
IfOk-and (Err fault) P Q p q = tt

-- the value is that of the answer, and has this
pub IfOk-self : {F X : Type 0} (r : Result X F) (P : X → Type 0) → IfOk r P
    → IfOk r (λ x. (r ≡ Ok x) × P x)
IfOk-self r P p = IfOk-and r (λ x. r ≡ Ok x) P (self-IfOk r) p

-- a place is written as the name, which is one
pub record IsWritten {X : Type 0} (name_of : X → List ℕ) (xs : List X) (spelling : Spelling)
    (place : ℕ) : Type 0 where
  pub name : name_of_place name_of xs place ≡ spelling_text spelling
  pub named : is_named spelling ≡ true

found : {X : Type 0} (name_of : X → List ℕ) (xs : List X) (name : List ℕ) (place : ℕ)
    → position (λ x. bytes_eq (name_of x) name) xs ≡ Some place → name_of_place name_of xs place
    ≡ name
found name_of [] name place e = absurd (cc)
found name_of (x ∷ xs) name place e =
    let at = position-Some (λ y. bytes_eq (name_of y) name) (x ∷ xs) place x e in
    ap (text_if name_of) (slice_get-get_or (x ∷ xs) place x at.0) ∙ (bytes_eq-Decides _ _).0 at.1

small : (P : ℕ → Type 0) (place : ℕ) → P place → IfOk (small_place (Some place)) P
small P place p = by_test (nat_lt place 256)
  where
    by_test : (test : Bool) → IfOk (cond test (Ok place) (Err UnknownName)) P
    by_test true = p
    by_test false = tt

found_place : {X : Type 0} (name_of : X → List ℕ) (xs : List X) (name : List ℕ) (place : Option ℕ)
    → position (λ x. bytes_eq (name_of x) name) xs ≡ place
    → IfOk (small_place place) (λ k. name_of_place name_of xs k ≡ name)
found_place name_of xs name None e = tt
found_place name_of xs name (Some k) e = small (λ j. name_of_place name_of xs j ≡ name) k
    (found name_of xs name k e)

pub place_of-written : {X : Type 0} (name_of : X → List ℕ) (xs : List X) (spelling : Spelling)
    → spelling_read spelling ≡ true
    → IfOk (place_of name_of xs spelling) (IsWritten name_of xs spelling)
unfolding place_of spelling_read spelling_text is_named
place_of-written name_of xs Other read = tt
place_of-written name_of xs (Named name) read =
    IfOk-follows (place_of name_of xs (Named name)) (λ k. name_of_place name_of xs k ≡ name)
    (IsWritten name_of xs (Named name))
    (λ k is. record { name = is; named = read })
    (found_place name_of xs name (position (λ x. bytes_eq (name_of x) name) xs) refl)

-- a field is written as its name, and has its scale
pub record IsField (fields : List Field) (spelling : Spelling) (scale : Option ℕ) (place : ℕ) : Type
    0 where
  pub written : IsWritten (λ f. f.name) fields spelling place
  pub at_place : field_scale fields place ≡ scale
  pub by_name : scale_of_field fields spelling ≡ scale

field_at : (fields : List Field) (spelling : Spelling) → spelling_read spelling ≡ true
    → IfOk (resolved_field fields spelling) (λ at. IsWritten (λ (f : Field). f.name) fields spelling
    at.place × (field_scale fields at.place ≡ at.scale))
unfolding resolved_field
field_at fields spelling read = step-IfOk _ _ (place_of (λ (f : Field). f.name) fields spelling)
    (IsWritten (λ (f : Field). f.name) fields spelling)
    (place_of-written (λ (f : Field). f.name) fields spelling read)
    (λ place is. some-IfOk _ _ (slice_get fields place) UnknownName
    (λ field at. (is, ap (option_and_then (λ (f : Field). f.scale)) at)))

resolved_field-written : (fields : List Field) (spelling : Spelling) → spelling_read spelling ≡ true
    → IfOk (resolved_field fields spelling) (λ at. IsField fields spelling at.scale at.place)
resolved_field-written fields spelling read = IfOk-follows (resolved_field fields spelling) _
    (λ at. IsField fields spelling at.scale at.place)
    (λ at h. record {
      written = h.1.0;
      at_place = h.1.1;
      by_name = found-scale fields spelling at
          h.0;
    })
    (IfOk-self (resolved_field fields spelling) _ (field_at fields spelling read))

-- what fits a scale that is asked for is of that scale
pub fits-Some : (asked : ℕ) (scale : Option ℕ) → fits (Some asked) scale ≡ true → scale ≡ Some asked
fits-Some asked None e = absurd (cc)
fits-Some asked (Some scale) e = ap Some (sym (eqb-true asked scale e))

-- a field with numbers of the scale
pub resolved_number_field-written : (fields : List Field) (scale : ℕ) (spelling : Spelling)
    → spelling_read spelling ≡ true
    → IfOk (resolved_number_field fields (Some scale) spelling)
    (IsField fields spelling (Some scale))
unfolding resolved_number_field
resolved_number_field-written fields scale spelling read = step-IfOk _ _
    (resolved_field fields spelling) (λ at. IsField fields spelling at.scale at.place)
    (resolved_field-written fields spelling read)
    (λ at is. must-IfOk _ _ (fits (Some scale) at.scale) WrongType
    (λ u fit. subst (λ s. IsField fields spelling s at.place) (fits-Some scale at.scale fit) is))

-- a field with codes
pub resolved_code_field-written : (fields : List Field) (spelling : Spelling)
    → spelling_read spelling ≡ true
    → IfOk (resolved_code_field fields spelling) (IsWritten (λ (f : Field). f.name) fields spelling)
unfolding resolved_code_field
resolved_code_field-written fields spelling read = step-IfOk _ _ (resolved_field fields spelling)
    (λ at. IsField fields spelling at.scale at.place)
    (resolved_field-written fields spelling read)
    (λ at is. must-IfOk _ _ (is_none at.scale) WrongType (λ u fit. is.written))
