-- Private: how large the numbers get that posting computes with.
use Rattle.std.specs.Prelude.{◌≡◌, ℕ, ◌≤◌, ◌<◌, ◌*◌, ◌^◌, ℤ, pos, Option, List, [], ◌∷◌, length}
use Rattle.std.specs.Prelude.{All, map, filter, unsigned_abs}
use Rattle.reg_base.specs.declared.records.Filter.{Filter}
use Rattle.reg_base.specs.declared.records.Rec.{Rec}
use Rattle.reg_base.specs.declared.records.SumRow.{SumRow}
use Rattle.reg_base.specs.Records.{Booked, chosen_records}
use Rattle.reg_base.specs.Balances.{sum_rows}
use Rattle.cfg_model.specs.declared.config.Config.{Config}
use Rattle.cfg_model.specs.Limits.{IsWithinLimits}
use Rattle.post_model.specs.Scenes.{Scene}
use Rattle.post_model.specs.Lefts.{is_expense}
use Rattle.post_model.specs.WriteOffs.{sum_in}
use Rattle.post_model.specs.Yields.{depth_of}
use Rattle.post_model.specs.declared.holding.Holding.{Holding}
use Rattle.post_model.specs.declared.made.Made.{Made}
use Rattle.post_rules.specs.Sheets.{HasNumbers, IsSheet}
use Rattle.row_sums.specs.Sums.{booked}

-- the most records that are read at once: those of a register, and the document's own there
abbrev pub most_read : ℕ
most_read = 8_005_000

-- no sum of that many numbers is past this one
abbrev pub largest_sum : ℕ
largest_sum = 9 * 10 ^ 21

-- no part of a sum is past this one
abbrev pub largest_part : ℕ
largest_part = 2 ^ 96

-- a quantity and an amount are sums of not too many numbers
pub record IsSmallHolding (holding : Holding) : Type 0 where
  pub quantity_within : unsigned_abs holding.quantity ≤ largest_sum
  pub amount_within : unsigned_abs holding.amount ≤ largest_sum

-- there are no more holdings than records that are read
pub record AreSmallHoldings (holdings : List Holding) : Type 0 where
  pub few : length holdings ≤ most_read
  pub small : All IsSmallHolding holdings

-- the parts of sums are not too large
pub record IsSmallScene (scene : Scene) : Type 0 where
  pub few_lines : length scene.doc.lines < 2 ^ 32
  pub cost_within : unsigned_abs scene.cost ≤ largest_part

-- the records that a document has in a register
pub record IsSmallSet (recs : List Rec) : Type 0 where
  pub few : length recs ≤ 5_000
  pub small : All HasNumbers recs

-- what holds of all that is made: the sets are not too large, and the cost is a part of sums
pub record IsSmallMade (made : Made) : Type 0 where
  pub sets_within : All IsSmallSet made.sets.registers
  pub cost_within : unsigned_abs made.cost ≤ largest_part

-- what reading rests on: no sheet is too large, and each register has as many resources as the
-- configuration says
pub record CanRead (config : Config) (books : ℕ → List Booked) (resources : ℕ → ℕ) : Type 0 where
  pub limits : IsWithinLimits config
  pub sheets : (register : ℕ) → IsSheet (books register)
  pub depths : (register : ℕ) → resources register ≡ depth_of config register

-- the rows are those of records that make no sheet too large
pub record AreRowsOfSheet (by : Option (List ℕ)) (resources : ℕ) (rows : List SumRow) : Type 0 where
  pub records : List Booked
  pub same : rows ≡ sum_rows resources by records
  pub sheet : IsSheet records

-- the expenses among the records of a document that are asked for
abbrev pub own_expenses : Filter → ℕ → List Rec → List Booked
own_expenses asked number recs = chosen_records asked
    (map (booked number) (filter (λ r. is_expense r.mark) recs))

-- the sum of the first row at a resource, and 0 without one
abbrev pub first_sum : ℕ → List SumRow → ℤ
first_sum resource [] = pos 0
first_sum resource (row ∷ rows) = sum_in row resource

-- not too many records, with numbers that are not too large
pub record IsReadable (records : List Booked) : Type 0 where
  pub few : length records ≤ most_read
  pub small : All (λ b. HasNumbers b.rec) records
