-- What posting asks of the records that it reads.
use Rattle.std.specs.Prelude.{◌≤◌, List, length, All, unsigned_abs}
use Rattle.reg_base.specs.declared.records.Rec.{Rec}
use Rattle.reg_base.specs.Numbers.{largest_units}
use Rattle.reg_base.specs.Records.{Booked}

-- no number of the record is past the largest one
abbrev pub HasNumbers : Rec → Type 0
HasNumbers rec = All (λ n. unsigned_abs n ≤ largest_units) rec.sums

-- a register has no more records than a desk keeps, and none has a number past the largest one
pub record IsSheet (records : List Booked) : Type 0 where
  pub few : length records ≤ 8_000_000
  pub small : All (λ b. HasNumbers b.rec) records
