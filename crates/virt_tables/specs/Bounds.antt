-- How many records the sets of a document have at the most.
use Rattle.std.specs.Prelude.{◌≤◌, All, length}
use Rattle.reg_base.specs.declared.records.Document.{Document}

-- no set of records of the document has more than 5,000
abbrev pub HasShortRecords : Document → Type 0
HasShortRecords d = All (λ set. length set ≤ 5_000) d.sets.registers
