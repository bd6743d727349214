-- Words for worked rows of tables: documents, records, rows.
use Rattle.std.proofs.Common.{ℕ, ℤ, true, Some, None, List, [], ◌∷◌}
use Rattle.std.proofs.Common.{map}
use Rattle.reg_base.specs.declared.value.Value.{Value}
use Rattle.reg_base.specs.declared.value.Value.TheVariants.{Code}
use Rattle.reg_base.specs.declared.records.Mark.{Mark}
use Rattle.reg_base.specs.declared.records.DocState.TheVariants.{Posted}
use Rattle.reg_base.specs.declared.records.Document.{Document}
use Rattle.reg_base.specs.declared.records.Filter.{Filter}
use Rattle.reg_base.specs.declared.records.Rec.{Rec}
use Rattle.reg_base.specs.declared.tables.Periodicity.{Periodicity}
use Rattle.reg_base.specs.declared.tables.Unit.{Unit as TableUnit}
use Rattle.reg_base.specs.declared.tables.Range.{Range}
use Rattle.reg_base.specs.declared.tables.Row.{Row}

-- a posted document with these records, all of its date
abbrev pub document : ℕ → ℕ → List (ℕ → Rec) → Document
document number date records = record {
  doc = record {
    number = number;
    kind = None;
    date = date;
    head = [];
    lines = [];
    comment = [];
    key = None;
    state = Posted;
    active = true;
  };
  sets = record { registers = map (λ made. made date) records ∷ []; ledgers = [] };
}

-- a record of one resource
abbrev pub rec : ℕ → Mark → List Value → ℤ → ℕ → Rec
rec line mark values sum period =
    record { line = line; period = period; mark = mark; values = values; sums = sum ∷ [] }

-- the values of records, and groups of them
abbrev pub one : List ℕ → List Value
one code = Code code ∷ []

abbrev pub two : List ℕ → List ℕ → List Value
two code other = Code code ∷ Code other ∷ []

-- what is asked for: everything, one value of the first dimension, or nothing
abbrev pub everything : Filter
everything = record { lists = [] }

abbrev pub alone : List ℕ → Filter
alone code = record { lists = Some (one code) ∷ [] }

abbrev pub nothing : Filter
nothing = record { lists = Some [] ∷ [] }

-- a range with its units
abbrev pub within : ℕ → ℕ → Periodicity → Range
within from to by = record { from = from; to = to; by = by }

-- a row of turnovers: receipts, expenses, turnover
abbrev pub moved : List Value → TableUnit → ℤ → ℤ → ℤ → Row
moved group unit receipt expense turnover = record {
  group = group;
  unit = unit;
  opening = [];
  receipt = receipt ∷ [];
  expense = expense ∷ [];
  turnover = turnover ∷ [];
  closing = [];
}

-- a row of balances with turnovers: opening, receipts, expenses, turnover, closing
abbrev pub line : List Value → TableUnit → ℤ → ℤ → ℤ → ℤ → ℤ → Row
line group unit opening receipt expense turnover closing = record {
  group = group;
  unit = unit;
  opening = opening ∷ [];
  receipt = receipt ∷ [];
  expense = expense ∷ [];
  turnover = turnover ∷ [];
  closing = closing ∷ [];
}
