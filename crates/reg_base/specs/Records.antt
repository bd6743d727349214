-- Records of registers: their points, which of them count, and which are asked for.
use Rattle.std.specs.Prelude.{ℕ, ℤ, pos, neg_ℤ, Bool, true, false, not, ◌&&◌, ◌==◌, Option, Some}
use Rattle.std.specs.Prelude.{None, is_none, unwrap_or, if◌then◌else◌, List, [], ◌∷◌, map}
use Rattle.std.specs.Prelude.{filter, slice_get}
use Rattle.std.specs.List.{list_any, flat_map}
use Rattle.std.specs.Ordering.{nat_cmp, ordering_then, match_ordering, is_eq}
use Rattle.std.specs.Cmp.Lexicographic.{slice_cmp}
use Rattle.std.specs.declared.cmp.Ordering.{Ordering}
use Rattle.std.specs.declared.cmp.Ordering.TheVariants.{Less, Greater}
use Rattle.reg_base.specs.declared.point.Point.{Point}
use Rattle.reg_base.specs.declared.value.Value.{Value}
use Rattle.reg_base.specs.declared.value.Value.TheVariants.{Code, Lot}
use Rattle.reg_base.specs.declared.records.Mark.{Mark}
use Rattle.reg_base.specs.declared.records.Mark.TheVariants.{Receipt, Expense, Turn}
use Rattle.reg_base.specs.declared.records.DocState.{DocState}
use Rattle.reg_base.specs.declared.records.DocState.TheVariants.{Written, Posted, Marked}
use Rattle.reg_base.specs.declared.records.Rec.{Rec}
use Rattle.reg_base.specs.declared.records.Document.{Document}
use Rattle.reg_base.specs.declared.records.Filter.{Filter}
use Rattle.reg_base.specs.declared.cut.Cut.{Cut}
use Rattle.reg_base.specs.Points.{point_cmp}
use Rattle.reg_base.specs.Cuts.{inside}

-- codes are in order of their bytes, lots of their points, and codes stand before lots
abbrev pub value_cmp : Value → Value → Ordering
value_cmp (Code a) (Code b) = slice_cmp nat_cmp a b
value_cmp (Code a) (Lot q) = Less
value_cmp (Lot p) (Code b) = Greater
value_cmp (Lot p) (Lot q) = point_cmp p q

-- lists of values are in order of the first value that differs
abbrev pub values_cmp : List Value → List Value → Ordering
values_cmp = slice_cmp value_cmp

-- a record with the number of the document that made it
pub record Booked : Type 0 where
  pub recorder : ℕ
  pub rec : Rec

-- the point of a record: its period with its recorder
abbrev pub point_of : Booked → Point
point_of b = record { date = b.rec.period; doc = b.recorder }

-- records are in order of point, then line
abbrev pub booked_cmp : Booked → Booked → Ordering
booked_cmp a b = ordering_then (point_cmp (point_of a) (point_of b)) (nat_cmp a.rec.line b.rec.line)

-- an expense counts with the opposite number, a receipt or a turn as it stands
abbrev pub signed_amount : Mark → ℤ → ℤ
signed_amount Receipt n = n
signed_amount Turn n = n
signed_amount Expense n = neg_ℤ n

-- the signed amount of a record at a resource
abbrev pub amount_at : ℕ → Rec → ℤ
amount_at resource rec = signed_amount rec.mark (unwrap_or (slice_get rec.sums resource) (pos 0))

-- a list with one element more, before the first that is not below it
abbrev pub put : {X : Type 0} → (X → X → Ordering) → X → List X → List X
put cmp x [] = x ∷ []
put cmp x (y ∷ ys) = match_ordering (cmp x y) (x ∷ y ∷ ys) (x ∷ y ∷ ys) (y ∷ put cmp x ys)

-- a list in order with the element in it once
abbrev pub put_once : {X : Type 0} → (X → X → Ordering) → X → List X → List X
put_once cmp x [] = x ∷ []
put_once cmp x (y ∷ ys) = match_ordering (cmp x y) (x ∷ y ∷ ys) (y ∷ ys) (y ∷ put_once cmp x ys)

-- the elements of a list in order
abbrev pub in_order : {X : Type 0} → (X → X → Ordering) → List X → List X
in_order cmp [] = []
in_order cmp (x ∷ xs) = put cmp x (in_order cmp xs)

-- whether a document in this state is posted
abbrev pub is_posted : DocState → Bool
is_posted Posted = true
is_posted Written = false
is_posted Marked = false

-- the records of a document in a register, where it is posted and active
abbrev pub booked_by : ℕ → Document → List Booked
booked_by register d =
    if is_posted d.doc.state && d.doc.active
    then map (λ r. record { recorder = d.doc.number; rec = r })
    (unwrap_or (slice_get d.sets.registers register) [])
    else []

-- the records of a register in all documents, in order of point, then line
abbrev pub records_of : ℕ → List Document → List Booked
records_of register documents = in_order booked_cmp (flat_map (booked_by register) documents)

-- whether a value is asked for: all are where no list is given
abbrev pub passes : Option (List Value) → Value → Bool
passes None value = true
passes (Some asked) value = list_any (λ v. is_eq (value_cmp v value)) asked

-- whether each value is asked for by the list of its dimension
abbrev pub passes_each : List (Option (List Value)) → List Value → Bool
passes_each [] values = true
passes_each (list ∷ lists) [] = is_none list && passes_each lists []
passes_each (list ∷ lists) (value ∷ values) = passes list value && passes_each lists values

-- whether the values of a record are asked for
abbrev pub matches : Filter → List Value → Bool
matches asked values = passes_each asked.lists values

-- the records that are asked for
abbrev pub chosen_records : Filter → List Booked → List Booked
chosen_records asked records = filter (λ b. matches asked b.rec.values) records

-- the records whose points lie inside the cut
abbrev pub records_within : Cut → List Booked → List Booked
records_within cut records = filter (λ b. inside cut (point_of b)) records

-- the records that other documents made
abbrev pub without_recorder : ℕ → List Booked → List Booked
without_recorder number records = filter (λ b. not (b.recorder == number)) records
