-- Worked rows of balances, computed from their definitions.
use Rattle.std.proofs.Common.{◌≡◌, ℕ, ℤ, pos, negsuc, true, Some, None, List, [], ◌∷◌, refl, codes}
use Rattle.reg_base.specs.declared.value.Value.TheVariants.{Code}
use Rattle.reg_base.specs.declared.records.Mark.{Mark}
use Rattle.reg_base.specs.declared.records.Mark.TheVariants.{Receipt, Expense}
use Rattle.reg_base.specs.declared.records.DocState.TheVariants.{Posted}
use Rattle.reg_base.specs.declared.records.Document.{Document}
use Rattle.reg_base.specs.declared.records.Filter.{Filter}
use Rattle.reg_base.specs.declared.cut.Cut.TheVariants.{Now, BeforeDate, ThroughDate, BeforePoint}
use Rattle.reg_base.specs.declared.cut.Cut.TheVariants.{ThroughPoint}
use Rattle.reg_base.specs.Records.{records_of}
use Rattle.reg_base.specs.Balances.{sum_rows, balance_of}

-- 2024-01-10T09:00:00
morning : ℕ
morning = 758_192_400

-- a posted document with one record of quantity and amount
document_of : ℕ → ℕ → Mark → List ℕ → ℤ → ℤ → Document
document_of number date mark item quantity amount = record {
  doc = record {
    number = number;
    kind = None;
    date = date;
    head = [];
    lines = [];
    comment = [];
    key = None;
    state = Posted;
    active = true;
  };
  sets = record {
    registers = (record {
      line = 1;
      period = date;
      mark = mark;
      values = Code item ∷ [];
      sums = quantity ∷ amount ∷ [];
    } ∷ []) ∷ [];
    ledgers = [];
  };
}

everything : Filter
everything = record { lists = None ∷ [] }

-- a receipt of 10.000 nails for 50.00 counts through its date, and not before it
received : List Document
received = document_of 1 morning Receipt (codes "nail") (pos 10_000) (pos 5_000) ∷ []

before_its_date : balance_of 2 (records_of 0 received) everything None (BeforeDate morning) ≡ []
unfolding sum_rows morning received document_of everything
before_its_date = refl

through_its_date : balance_of 2 (records_of 0 received) everything None (ThroughDate morning)
    ≡ record { group = Code (codes "nail") ∷ []; sums = pos 10_000 ∷ pos 5_000 ∷ [] } ∷ []
unfolding sum_rows morning received document_of everything
through_its_date = refl

-- two receipts of one second are parted by a point between them
twice : List Document
twice = document_of 1 morning Receipt (codes "nail") (pos 1_000) (pos 100)
    ∷ document_of 2 morning Receipt (codes "nail") (pos 2_000) (pos 200) ∷ []

before_the_second : balance_of 2 (records_of 0 twice) everything None
    (BeforePoint (record { date = morning; doc = 2 }))
    ≡ record { group = Code (codes "nail") ∷ []; sums = pos 1_000 ∷ pos 100 ∷ [] } ∷ []
unfolding sum_rows morning twice document_of everything
before_the_second = refl

through_the_second : balance_of 2 (records_of 0 twice) everything None
    (ThroughPoint (record { date = morning; doc = 2 }))
    ≡ record { group = Code (codes "nail") ∷ []; sums = pos 3_000 ∷ pos 300 ∷ [] } ∷ []
unfolding sum_rows morning twice document_of everything
through_the_second = refl

-- what was received and spent whole is no row, an expense counts against, and rows are in order of
-- codes
spent : List Document
spent =
    document_of 1 morning Receipt (codes "nail") (pos 1_000) (pos 100)
    ∷ document_of 2 morning Expense (codes "bolt") (pos 2_000) (pos 200)
    ∷ document_of 3 morning Expense (codes "nail") (pos 1_000) (pos 100)
    ∷ document_of 4 morning Receipt (codes "anvil") (pos 1) (pos 0)
    ∷ []

rows_in_order : balance_of 2 (records_of 0 spent) everything None Now
    ≡ record { group = Code (codes "anvil") ∷ []; sums = pos 1 ∷ pos 0 ∷ [] }
    ∷ record { group = Code (codes "bolt") ∷ []; sums = negsuc 1_999 ∷ negsuc 199 ∷ [] } ∷ []
unfolding sum_rows morning spent document_of everything
rows_in_order = refl

-- a filter on bolts keeps bolts alone
bolts_alone : balance_of 2 (records_of 0 spent)
    (record { lists = Some (Code (codes "bolt") ∷ []) ∷ [] }) None Now
    ≡ record { group = Code (codes "bolt") ∷ []; sums = negsuc 1_999 ∷ negsuc 199 ∷ [] } ∷ []
unfolding sum_rows morning spent document_of
bolts_alone = refl

-- grouped by no dimension, all records make one row
one_row : balance_of 2 (records_of 0 spent) everything (Some []) Now
    ≡ record { group = []; sums = negsuc 1_998 ∷ negsuc 199 ∷ [] } ∷ []
unfolding sum_rows morning spent document_of everything
one_row = refl
