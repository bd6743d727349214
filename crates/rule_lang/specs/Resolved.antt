-- What a statement of accepted rules has of the statement that was written: each name is the place
-- of what has that name, with the sort that its use asks for; a literal is its value in the units
-- of its place; and `cost` is that of an earlier write-off of the same scope.
use Rattle.std.specs.Prelude.{◌≡◌, ◌≢◌, ℕ, ℤ, pos, Bool, true, false, ◌*◌, ◌^◌, ◌≤◌, List, map}
use Rattle.std.specs.Prelude.{Option, Some, None, slice_get}
use Rattle.std.specs.List.{AllPairs, AllZip, Any}
use Rattle.reg_base.specs.Numbers.{largest_units}
use Rattle.cfg_model.specs.declared.kind.Field.{Field}
use Rattle.cfg_model.specs.declared.kind.Kind.{Kind}
use Rattle.cfg_model.specs.declared.register.Dimension.{Dimension}
use Rattle.cfg_model.specs.declared.register.Register.{Register}
use Rattle.rule_text.specs.Fronts.{is_spelt}
use Rattle.rule_text.specs.declared.token.Literal.{Literal}
use Rattle.rule_text.specs.declared.token.Spelling.{Spelling}
use Rattle.rule_text.specs.declared.plain.PlainAmount.{PlainAmount}
use Rattle.rule_text.specs.declared.plain.PlainBind.{PlainBind}
use Rattle.rule_text.specs.declared.plain.PlainCode.{PlainCode}
use Rattle.rule_text.specs.declared.plain.PlainCode.TheVariants.{Text as PlainText}
use Rattle.rule_text.specs.declared.plain.PlainCode.TheVariants.{Head as PlainHeadCode}
use Rattle.rule_text.specs.declared.plain.PlainCode.TheVariants.{Line as PlainLineCode}
use Rattle.rule_text.specs.declared.plain.PlainPart.{PlainPart}
use Rattle.rule_text.specs.declared.plain.PlainPart.TheVariants.{Number as PlainNumber}
use Rattle.rule_text.specs.declared.plain.PlainPart.TheVariants.{Head as PlainHead}
use Rattle.rule_text.specs.declared.plain.PlainPart.TheVariants.{Line as PlainLine}
use Rattle.rule_text.specs.declared.plain.PlainPart.TheVariants.{Total as PlainTotal}
use Rattle.rule_text.specs.declared.plain.PlainPart.TheVariants.{Cost as PlainCost}
use Rattle.rule_text.specs.declared.plain.PlainSide.{PlainSide}
use Rattle.rule_text.specs.declared.plain.PlainTerm.{PlainTerm}
use Rattle.rule_text.specs.declared.plain.PlainTo.{PlainTo}
use Rattle.rule_text.specs.declared.plain.PlainTo.TheVariants.{Code as PlainCodeTo}
use Rattle.rule_text.specs.declared.plain.PlainTo.TheVariants.{Point as PlainPoint}
use Rattle.rule_lang.specs.declared.statement.Bind.{Bind}
use Rattle.rule_lang.specs.declared.statement.BindTo.{BindTo}
use Rattle.rule_lang.specs.declared.statement.BindTo.TheVariants.{Code, Point}
use Rattle.rule_lang.specs.declared.statement.CodeTerm.{CodeTerm}
use Rattle.rule_lang.specs.declared.statement.CodeTerm.TheVariants.{Text, Head as HeadCode}
use Rattle.rule_lang.specs.declared.statement.CodeTerm.TheVariants.{Line as LineCode}
use Rattle.rule_lang.specs.declared.statement.Part.{Part}
use Rattle.rule_lang.specs.declared.statement.Part.TheVariants.{Number, Head, Line, Total, Cost}
use Rattle.rule_lang.specs.declared.statement.Place.{Place}
use Rattle.rule_lang.specs.declared.statement.Sum.{Sum}
use Rattle.rule_lang.specs.declared.statement.Term.{Term}
use Rattle.rule_lang.specs.declared.terms.Round.{Round}

-- something that has the name stands at the place, and this holds of it
abbrev pub IsNamedAt : {X : Type 0} → (X → List ℕ) → List X → Spelling → ℕ → (X → Type 0) → Type 0
IsNamedAt {X} name_of xs word place P =
    (x : X) × (slice_get xs place ≡ Some x) × (is_spelt (name_of x) word ≡ true) × P x

-- a field of the name with codes stands at the place
abbrev pub IsCodeField : List Field → Spelling → ℕ → Type 0
IsCodeField fields word place = IsNamedAt (λ f. f.name) fields word place (λ f. f.scale ≡ None)

-- a field of the name with numbers of the scale stands at the place
abbrev pub IsNumberField : List Field → ℕ → Spelling → ℕ → Type 0
IsNumberField fields scale word place =
    IsNamedAt (λ f. f.name) fields word place (λ f. f.scale ≡ Some scale)

-- so many units are the value of the literal at the scale, and not more than the largest number
pub record IsValueAt (literal : Literal) (scale : ℕ) (units : ℤ) : Type 0 where
  pub count : ℕ
  pub is : units ≡ pos count
  pub value : count * 10 ^ literal.decimals ≡ literal.digits * 10 ^ scale
  pub within : count ≤ largest_units

-- the same code, or a field of the name with codes; one of a line only where the statement runs
-- for each
unfoldable pub IsCodeTerm : Kind → Round → PlainCode → CodeTerm → Type 0
IsCodeTerm kind round (PlainText text) code = code ≡ Text text
IsCodeTerm kind round (PlainHeadCode word) code =
    (place : ℕ) × (code ≡ HeadCode place) × IsCodeField kind.head word place
IsCodeTerm kind round (PlainLineCode word) code =
    (place : ℕ) × (code ≡ LineCode place) × IsCodeField kind.lines word place × (round.each ≡ true)

-- a literal's units, or a field of the name with numbers of the scale; one of a line only where
-- the statement runs for each, and its total everywhere; `cost` behind a write-off of the scale
unfoldable pub IsPart : Kind → Round → ℕ → PlainPart → Part → Type 0
IsPart kind round scale (PlainNumber literal) part =
    (units : ℤ) × (part ≡ Number units) × IsValueAt literal scale units
IsPart kind round scale (PlainHead word) part =
    (place : ℕ) × (part ≡ Head place) × IsNumberField kind.head scale word place
IsPart kind round scale (PlainLine word) part =
    (place : ℕ) × (part ≡ Line place) × IsNumberField kind.lines scale word place
    × (round.each ≡ true)
IsPart kind round scale (PlainTotal word) part =
    (place : ℕ) × (part ≡ Total place) × IsNumberField kind.lines scale word place
IsPart kind round scale PlainCost part = (part ≡ Cost) × (round.cost ≡ Some scale)

-- the same marks around a part of the scale
pub record IsTerm (kind : Kind) (round : Round) (scale : ℕ) (plain : PlainTerm) (term : Term)
    : Type 0 where
  pub minus : term.minus ≡ plain.minus
  pub negative : term.negative ≡ plain.negative
  pub part : IsPart kind round scale plain.part term.part

-- a sum, each of whose terms has the scale
abbrev pub IsSum : Kind → Round → ℕ → List PlainTerm → Sum → Type 0
IsSum kind round scale plain sum = AllZip (IsTerm kind round scale) plain sum.terms

-- the document's point for a lot, and a code for every other dimension
unfoldable pub IsValue : Kind → Round → Bool → PlainTo → BindTo → Type 0
IsValue kind round lot PlainPoint to = (to ≡ Point) × (lot ≡ true)
IsValue kind round lot (PlainCodeTo plain) to =
    (code : CodeTerm) × (to ≡ Code code) × IsCodeTerm kind round plain code × (lot ≡ false)

-- a dimension of the register with a value of its sort
abbrev pub IsBind : Kind → Round → Register → PlainBind → Bind → Type 0
IsBind kind round register plain bind =
    IsNamedAt (λ d. d.name) register.dimensions plain.dimension bind.dimension
    (λ d. IsValue kind round d.lot plain.to bind.to)

-- a resource of the register with a sum of its scale
abbrev pub IsAmount : Kind → Round → Register → PlainAmount → ℕ × Sum → Type 0
IsAmount kind round register plain amount =
    IsNamedAt (λ r. r.name) register.resources plain.resource amount.0
    (λ r. IsSum kind round r.scale plain.sum amount.1)

-- no place stands twice
abbrev pub AreDifferent : List ℕ → Type 0
AreDifferent places = AllPairs (λ a b. a ≢ b) places

-- a dimension of this one's name has a value
abbrev pub HasValue : Register → List Bind → Dimension → Type 0
HasValue register binds dimension = Any (λ b. (found : Dimension)
    × (slice_get register.dimensions b.dimension ≡ Some found)
    × (found.name ≡ dimension.name)) binds

-- the dimension at the place of the bind is no lot
abbrev pub IsNoLot : Register → Bind → Type 0
IsNoLot register bind = (d : Dimension) × (slice_get register.dimensions bind.dimension ≡ Some d)
    × (d.lot ≡ false)

-- each bind is one of the register, and no dimension has two values
pub record AreBinds (kind : Kind) (round : Round) (register : Register) (plain : List PlainBind)
    (binds : List Bind) : Type 0 where
  pub each : AllZip (IsBind kind round register) plain binds
  pub different : AreDifferent (map (λ b. b.dimension) binds)

-- an account with its extras, or none
unfoldable pub IsResolvedSide : Kind → Round → Option PlainSide → Option Place → Type 0
IsResolvedSide kind round None side = side ≡ None
IsResolvedSide kind round (Some plain) side = (place : Place) × (side ≡ Some place)
    × IsCodeTerm kind round plain.account place.account
    × AllZip (IsCodeTerm kind round) plain.extras place.extras
