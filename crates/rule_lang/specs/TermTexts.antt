-- The canonical text of codes, sums and conditions.
use Rattle.std.specs.Prelude.{ℕ, ℤ, codes, Bool, true, false, if◌then◌else◌, List, [], ◌∷◌, ◌++◌}
use Rattle.std.specs.Prelude.{Option, Some, None, option_and_then, slice_get}
use Rattle.std.specs.List.{flat_map}
use Rattle.reg_base.specs.Numbers.{sum_text}
use Rattle.cfg_model.specs.declared.kind.Field.{Field}
use Rattle.cfg_model.specs.declared.kind.Kind.{Kind}
use Rattle.rule_text.specs.declared.plain.Test.{Test}
use Rattle.rule_text.specs.declared.plain.Test.TheVariants.{Less, AtMost, Equal, AtLeast, Greater}
use Rattle.rule_text.specs.declared.plain.Test.TheVariants.{Differs}
use Rattle.rule_lang.specs.declared.statement.CodeTerm.{CodeTerm}
use Rattle.rule_lang.specs.declared.statement.CodeTerm.TheVariants.{Text, Head as HeadCode}
use Rattle.rule_lang.specs.declared.statement.CodeTerm.TheVariants.{Line as LineCode}
use Rattle.rule_lang.specs.declared.statement.Cond.{Cond}
use Rattle.rule_lang.specs.declared.statement.Cond.TheVariants.{Sums, Codes}
use Rattle.rule_lang.specs.declared.statement.Part.{Part}
use Rattle.rule_lang.specs.declared.statement.Part.TheVariants.{Number, Head, Line, Total, Cost}
use Rattle.rule_lang.specs.declared.statement.Term.{Term}

-- the text of what is found, and none where there is nothing
abbrev pub text_if : {X : Type 0} → (X → List ℕ) → Option X → List ℕ
text_if text None = []
text_if text (Some x) = text x

-- the name of what stands at a place
abbrev pub name_of_place : {X : Type 0} → (X → List ℕ) → List X → ℕ → List ℕ
name_of_place name_of xs place = text_if name_of (slice_get xs place)

-- the first, and each other one behind what joins it
abbrev pub list_text : {X : Type 0} → (X → List ℕ) → (X → List ℕ) → List X → List ℕ
list_text joint text [] = []
list_text joint text (x ∷ xs) = text x ++ flat_map (λ y. joint y ++ text y) xs

-- a code between quotes, or a field
unfoldable pub code_text : Kind → CodeTerm → List ℕ
code_text kind (Text code) = codes "\"" ++ (code ++ codes "\"")
code_text kind (HeadCode place) = codes "head." ++ name_of_place (λ f. f.name) kind.head place
code_text kind (LineCode place) = codes "line." ++ name_of_place (λ f. f.name) kind.lines place

-- units with the decimals of their scale
abbrev pub units_at_scale_text : Option ℕ → ℤ → List ℕ
units_at_scale_text scale units = text_if (sum_text units) scale

-- a number of the scale, a field or `cost`
unfoldable pub part_text : Kind → Option ℕ → Part → List ℕ
part_text kind scale (Number units) = units_at_scale_text scale units
part_text kind scale (Head place) = codes "head." ++ name_of_place (λ f. f.name) kind.head place
part_text kind scale (Line place) = codes "line." ++ name_of_place (λ f. f.name) kind.lines place
part_text kind scale (Total place) = codes "total." ++ name_of_place (λ f. f.name) kind.lines place
part_text kind scale Cost = codes "cost"

-- a part behind its own sign
unfoldable pub term_text : Kind → Option ℕ → Term → List ℕ
term_text kind scale term =
    (if term.negative then codes "-" else []) ++ part_text kind scale term.part

-- what joins a term to those before it
abbrev pub joint_text : Bool → List ℕ
joint_text true = codes " - "
joint_text false = codes " + "

-- a sum with the mark before each of its terms but the first
unfoldable pub terms_text : Kind → Option ℕ → List Term → List ℕ
terms_text kind scale terms = list_text (λ t. joint_text t.minus) (term_text kind scale) terms

-- the mark of a test
unfoldable pub test_text : Test → List ℕ
test_text Less = codes "<"
test_text AtMost = codes "<="
test_text Equal = codes "="
test_text AtLeast = codes ">="
test_text Greater = codes ">"
test_text Differs = codes "<>"

-- the mark between codes
abbrev pub equal_text : Bool → List ℕ
equal_text true = codes "="
equal_text false = codes "<>"

-- the scale of the field at a place
abbrev pub field_scale : List Field → ℕ → Option ℕ
field_scale fields place = option_and_then (λ f. f.scale) (slice_get fields place)

-- the scale that a part brings, where the latest write-off has this one
unfoldable pub part_scale : Kind → Option ℕ → Part → Option ℕ
part_scale kind cost (Number units) = None
part_scale kind cost (Head place) = field_scale kind.head place
part_scale kind cost (Line place) = field_scale kind.lines place
part_scale kind cost (Total place) = field_scale kind.lines place
part_scale kind cost Cost = cost

-- the scale of the first of these terms that brings one, else this one
unfoldable pub terms_scale : Kind → Option ℕ → Option ℕ → List Term → Option ℕ
terms_scale kind cost other [] = other
terms_scale kind cost other (term ∷ terms) =
    scale_or (part_scale kind cost term.part) (terms_scale kind cost other terms)
  where
    scale_or : Option ℕ → Option ℕ → Option ℕ
    scale_or None others = others
    scale_or (Some scale) others = Some scale

-- two sums with the decimals of the first field or `cost` in them, or with six; or two codes
unfoldable pub cond_text : Kind → Option ℕ → Cond → List ℕ
cond_text kind cost (Codes left equal right) =
    code_text kind left ++ (codes " " ++ (equal_text equal ++ (codes " " ++ code_text kind right)))
cond_text kind cost (Sums left test right) =
    let scale = terms_scale kind cost (terms_scale kind cost (Some 6) right.terms) left.terms in
    terms_text kind scale left.terms
    ++ (codes " " ++ (test_text test ++ (codes " " ++ terms_text kind scale right.terms)))

-- a condition, where there is one
unfoldable pub when_text : Kind → Option ℕ → Option Cond → List ℕ
when_text kind cost None = []
when_text kind cost (Some cond) = codes " when " ++ cond_text kind cost cond
