-- What a statement sees of its document, and what its sums, codes and conditions come to there.
use Rattle.std.specs.Prelude.{ℕ, ℤ, pos, neg_ℤ, ◌+ℤ◌, ◌==◌, Bool, true, false, not, List, [], ◌∷◌}
use Rattle.std.specs.Prelude.{Option, Some, None, slice_get, Result, Ok, codes, nat_le, int_lt}
use Rattle.std.specs.Prelude.{int_le, unsigned_abs, if◌then◌else◌}
use Rattle.std.specs.Bool.{beq}
use Rattle.std.specs.Ordering.{int_eq}
use Rattle.std.specs.Str.{bytes_eq}
use Rattle.reg_base.specs.Numbers.{largest_units}
use Rattle.reg_base.specs.Results.{◌>>=◌, unless}
use Rattle.reg_base.specs.declared.fault.PostFault.{PostFault}
use Rattle.reg_base.specs.declared.fault.PostFault.TheVariants.{Overflow}
use Rattle.reg_base.specs.declared.point.Point.{Point}
use Rattle.reg_base.specs.declared.records.Doc.{Doc}
use Rattle.reg_base.specs.declared.value.Cell.{Cell}
use Rattle.reg_base.specs.declared.value.Cell.TheVariants.{Code as CodeCell, Num as NumCell}
use Rattle.reg_base.specs.declared.value.Value.{Value}
use Rattle.reg_base.specs.declared.value.Value.TheVariants.{Code as CodeValue, Lot}
use Rattle.rule_text.specs.declared.plain.Test.{Test}
use Rattle.rule_text.specs.declared.plain.Test.TheVariants.{Less, AtMost, Equal, AtLeast, Greater}
use Rattle.rule_text.specs.declared.plain.Test.TheVariants.{Differs}
use Rattle.rule_lang.specs.declared.statement.Bind.{Bind}
use Rattle.rule_lang.specs.declared.statement.BindTo.{BindTo}
use Rattle.rule_lang.specs.declared.statement.BindTo.TheVariants.{Code as ToCode, Point as ToPoint}
use Rattle.rule_lang.specs.declared.statement.CodeTerm.{CodeTerm}
use Rattle.rule_lang.specs.declared.statement.CodeTerm.TheVariants.{Text, Head as HeadCode}
use Rattle.rule_lang.specs.declared.statement.CodeTerm.TheVariants.{Line as LineCode}
use Rattle.rule_lang.specs.declared.statement.Cond.{Cond}
use Rattle.rule_lang.specs.declared.statement.Cond.TheVariants.{Sums, Codes}
use Rattle.rule_lang.specs.declared.statement.Part.{Part}
use Rattle.rule_lang.specs.declared.statement.Part.TheVariants.{Number, Head, Line, Total, Cost}
use Rattle.rule_lang.specs.declared.statement.Sum.{Sum}
use Rattle.rule_lang.specs.declared.statement.Term.{Term}

-- where a statement runs: its document, its number, the number of the line and the line's values
-- (0 and none where it runs once), and what the latest write-off of the round cost
pub record Scene : Type 0 where
  pub doc : Doc
  pub rule : ℕ
  pub line : ℕ
  pub cells : List Cell
  pub cost : ℤ

-- the document's own point
abbrev pub own_point : Doc → Point
own_point doc = record { date = doc.date; doc = doc.number }

-- the number in a field, and 0 where the field has none
abbrev pub number_in : Option Cell → ℤ
number_in None = pos 0
number_in (Some (NumCell n)) = n
number_in (Some (CodeCell code)) = pos 0

-- the code in a field, and `-` where the field has none
abbrev pub code_in : Option Cell → List ℕ
code_in None = codes "-"
code_in (Some (CodeCell code)) = code
code_in (Some (NumCell n)) = codes "-"

-- the sum of a field over all lines
unfoldable pub total_at : List (List Cell) → ℕ → ℤ
total_at [] place = pos 0
total_at (line ∷ lines) place = number_in (slice_get line place) +ℤ total_at lines place

-- the number that a part is
abbrev pub part_value : Scene → Part → ℤ
part_value scene (Number n) = n
part_value scene (Head place) = number_in (slice_get scene.doc.head place)
part_value scene (Line place) = number_in (slice_get scene.cells place)
part_value scene (Total place) = total_at scene.doc.lines place
part_value scene Cost = scene.cost

-- the opposite number behind a minus sign
abbrev pub opposite_if : Bool → ℤ → ℤ
opposite_if true n = neg_ℤ n
opposite_if false n = n

-- the number that a term adds
abbrev pub term_value : Scene → Term → ℤ
term_value scene t = opposite_if t.minus (opposite_if t.negative (part_value scene t.part))

-- the sum of the terms, exactly
unfoldable pub terms_value : Scene → List Term → ℤ
terms_value scene [] = pos 0
terms_value scene (t ∷ ts) = term_value scene t +ℤ terms_value scene ts

-- whether a number is not past the largest one, either side of zero
abbrev pub is_number : ℤ → Bool
is_number n = nat_le (unsigned_abs n) largest_units

-- the fault of a number past the largest one
abbrev pub overflow : Scene → PostFault
overflow scene = Overflow scene.rule scene.line

-- the number that a sum is, where it is one
unfoldable pub sum_value : Scene → Sum → Result ℤ PostFault
sum_value scene sum = do
  _ ← unless (is_number (terms_value scene sum.terms)) (overflow scene)
  Ok (terms_value scene sum.terms)

-- the code that a term is
abbrev pub code_value : Scene → CodeTerm → List ℕ
code_value scene (Text code) = code
code_value scene (HeadCode place) = code_in (slice_get scene.doc.head place)
code_value scene (LineCode place) = code_in (slice_get scene.cells place)

-- what a dimension is bound to: a code, or the document's own point as a lot
abbrev pub value_of : Scene → BindTo → Value
value_of scene (ToCode code) = CodeValue (code_value scene code)
value_of scene ToPoint = Lot (own_point scene.doc)

-- the value of a dimension, where it is bound
unfoldable pub bound_value : Scene → List Bind → ℕ → Option Value
bound_value scene [] dimension = None
bound_value scene (b ∷ bs) dimension =
    if b.dimension == dimension then Some (value_of scene b.to) else bound_value scene bs dimension

-- whether two numbers pass a test
abbrev pub compares : Test → ℤ → ℤ → Bool
compares Less a b = int_lt a b
compares AtMost a b = int_le a b
compares Equal a b = int_eq a b
compares AtLeast a b = int_le b a
compares Greater a b = int_lt b a
compares Differs a b = not (int_eq a b)

-- whether a condition holds: of two sums the left one is computed first
unfoldable pub cond_holds : Scene → Cond → Result Bool PostFault
cond_holds scene (Sums left test right) = do
  a ← sum_value scene left
  b ← sum_value scene right
  Ok (compares test a b)
cond_holds scene (Codes left equal right) =
    Ok (beq equal (bytes_eq (code_value scene left) (code_value scene right)))

-- whether a statement runs: always where it has no condition
unfoldable pub when_holds : Scene → Option Cond → Result Bool PostFault
when_holds scene None = Ok true
when_holds scene (Some cond) = cond_holds scene cond
