-- Worked rows of turnovers and of balances with turnovers, computed from their definitions.
use Rattle.std.proofs.Common.{◌≡◌, pos, negsuc, true, false, Some, None, List, [], ◌∷◌, refl}
use Rattle.std.proofs.Common.{codes}
use Rattle.reg_base.specs.declared.records.Mark.TheVariants.{Receipt, Expense, Turn}
use Rattle.reg_base.specs.declared.records.Document.{Document}
use Rattle.reg_base.specs.declared.tables.Periodicity.TheVariants.{Period, Record, Recorder}
use Rattle.reg_base.specs.declared.tables.Periodicity.TheVariants.{Week, TenDays, Month}
use Rattle.reg_base.specs.declared.tables.Unit.TheVariants.{Whole, Start, At, Line}
use Rattle.reg_base.specs.declared.tables.Method.TheVariants.{Movements}
use Rattle.reg_base.specs.declared.tables.Method.TheVariants.{MovementsAndPeriodBoundaries}
use Rattle.reg_base.specs.Dates.{day_from_year, day_from_month}
use Rattle.reg_base.specs.Records.{records_of}
use Rattle.reg_base.specs.Units.{starts_unit, start_day, unit_start}
use Rattle.reg_base.specs.Turnovers.{turnover_rows, both_rows, turnovers_of}
use Rattle.reg_base.specs.Turnovers.{balance_and_turnovers_of}
use Rattle.reg_base.proofs.WorkedTables.{document, rec, one, everything, alone, nothing}
use Rattle.reg_base.proofs.WorkedTables.{within, moved, line}

-- receipts of 5 and -5 in one month make no row
abbrev undone : List Document
undone =
    document 1 758_160_000
    (rec 1 Receipt (one (codes "nail")) (pos 5)
    ∷ rec 2 Receipt (one (codes "nail")) (negsuc 4) ∷ [])
    ∷ []

no_row : turnovers_of true 1 (records_of 0 undone) everything None
    (within 757_382_400 760_060_799 Month)
    ≡ []
unfolding turnover_rows unit_start start_day starts_unit day_from_year day_from_month
no_row = refl

-- a receipt and an expense of 5 make one
abbrev spent : List Document
spent =
    document 1 758_160_000
    (rec 1 Receipt (one (codes "nail")) (pos 5)
    ∷ rec 2 Expense (one (codes "nail")) (pos 5) ∷ [])
    ∷ []

spent_row : turnovers_of true 1 (records_of 0 spent) everything None
    (within 757_382_400 760_060_799 Month)
    ≡ moved (one (codes "nail")) (Start 757_382_400) (pos 5) (pos 5) (pos 0)
    ∷ []
unfolding turnover_rows unit_start start_day starts_unit day_from_year day_from_month
spent_row = refl

-- a receipt in January, and an expense in the second ten days of February
abbrev february : List Document
february =
    document 1 760_017_600 (rec 1 Receipt (one (codes "nail")) (pos 5) ∷ [])
    ∷ document 2 760_924_800 (rec 1 Expense (one (codes "nail")) (pos 2) ∷ [])
    ∷ []

-- the receipt is the opening
tens_moved : balance_and_turnovers_of 1 (records_of 0 february) everything None
    (within 760_060_800 762_566_399 TenDays) Movements
    ≡ line (one (codes "nail")) (Start 760_924_800) (pos 5) (pos 0) (pos 2) (negsuc 1) (pos 3)
    ∷ []
unfolding both_rows unit_start start_day starts_unit day_from_year day_from_month
tens_moved = refl

-- both ends of the range show too
tens_with_ends : balance_and_turnovers_of 1 (records_of 0 february) everything None
    (within 760_060_800 762_566_399 TenDays) MovementsAndPeriodBoundaries
    ≡ line (one (codes "nail")) (Start 760_060_800) (pos 5) (pos 0) (pos 0) (pos 0) (pos 5)
    ∷ line (one (codes "nail")) (Start 760_924_800) (pos 5) (pos 0) (pos 2) (negsuc 1) (pos 3)
    ∷ line (one (codes "nail")) (Start 761_788_800) (pos 3) (pos 0) (pos 0) (pos 0) (pos 3)
    ∷ []
unfolding both_rows unit_start start_day starts_unit day_from_year day_from_month
tens_with_ends = refl

-- a balance without movement shows over the whole range with its ends, and not without
march_moved : balance_and_turnovers_of 1 (records_of 0 february) everything None
    (within 762_566_400 765_158_400 Period) Movements
    ≡ []
unfolding both_rows unit_start start_day starts_unit day_from_year day_from_month
march_moved = refl

march_with_ends : balance_and_turnovers_of 1 (records_of 0 february) everything None
    (within 762_566_400 765_158_400 Period) MovementsAndPeriodBoundaries
    ≡ line (one (codes "nail")) Whole (pos 3) (pos 0) (pos 0) (pos 0) (pos 3)
    ∷ []
unfolding both_rows unit_start start_day starts_unit day_from_year day_from_month
march_with_ends = refl

-- a week begins before the range: what lies before the range in it is opening
abbrev weekly : List Document
weekly =
    document 1 760_492_800 (rec 1 Receipt (one (codes "nail")) (pos 4) ∷ [])
    ∷ document 2 760_665_600 (rec 1 Expense (one (codes "nail")) (pos 1) ∷ [])
    ∷ []

week_before_range : balance_and_turnovers_of 1 (records_of 0 weekly) everything None
    (within 760_579_200 761_011_200 Week) MovementsAndPeriodBoundaries
    ≡ line (one (codes "nail")) (Start 760_406_400) (pos 4) (pos 0) (pos 1) (negsuc 0) (pos 3)
    ∷ line (one (codes "nail")) (Start 761_011_200) (pos 3) (pos 0) (pos 0) (pos 0) (pos 3)
    ∷ []
unfolding both_rows unit_start start_day starts_unit day_from_year day_from_month
week_before_range = refl

-- two documents of one second, the second of three lines
abbrev one_second : List Document
one_second =
    document 1 760_957_200 (rec 1 Receipt (one (codes "nail")) (pos 5) ∷ [])
    ∷ document 2 760_957_200
    (rec 1 Expense (one (codes "nail")) (pos 2)
    ∷ rec 2 Receipt (one (codes "bolt")) (pos 1)
    ∷ rec 3 Expense (one (codes "nail")) (pos 1) ∷ [])
    ∷ []

by_record : balance_and_turnovers_of 1 (records_of 0 one_second) everything None
    (within 760_060_800 762_480_000 Record) Movements
    ≡ line (one (codes "bolt")) (Line (record { date = 760_957_200; doc = 2 }) 2)
    (pos 0) (pos 1) (pos 0) (pos 1) (pos 1)
    ∷ line (one (codes "nail")) (Line (record { date = 760_957_200; doc = 1 }) 1)
    (pos 0) (pos 5) (pos 0) (pos 5) (pos 5)
    ∷ line (one (codes "nail")) (Line (record { date = 760_957_200; doc = 2 }) 1)
    (pos 5) (pos 0) (pos 2) (negsuc 1) (pos 3)
    ∷ line (one (codes "nail")) (Line (record { date = 760_957_200; doc = 2 }) 3)
    (pos 3) (pos 0) (pos 1) (negsuc 0) (pos 2)
    ∷ []
unfolding both_rows unit_start start_day starts_unit day_from_year day_from_month
by_record = refl

by_recorder : balance_and_turnovers_of 1 (records_of 0 one_second) everything None
    (within 760_060_800 762_480_000 Recorder) Movements
    ≡ line (one (codes "bolt")) (At (record { date = 760_957_200; doc = 2 }))
    (pos 0) (pos 1) (pos 0) (pos 1) (pos 1)
    ∷ line (one (codes "nail")) (At (record { date = 760_957_200; doc = 1 }))
    (pos 0) (pos 5) (pos 0) (pos 5) (pos 5)
    ∷ line (one (codes "nail")) (At (record { date = 760_957_200; doc = 2 }))
    (pos 5) (pos 0) (pos 3) (negsuc 2) (pos 2)
    ∷ []
unfolding both_rows unit_start start_day starts_unit day_from_year day_from_month
by_recorder = refl

-- ends of the range add no documents
by_recorder-ends : balance_and_turnovers_of 1 (records_of 0 one_second) everything None
    (within 760_060_800 762_480_000 Recorder) MovementsAndPeriodBoundaries
    ≡ line (one (codes "bolt")) (At (record { date = 760_957_200; doc = 2 }))
    (pos 0) (pos 1) (pos 0) (pos 1) (pos 1)
    ∷ line (one (codes "nail")) (At (record { date = 760_957_200; doc = 1 }))
    (pos 0) (pos 5) (pos 0) (pos 5) (pos 5)
    ∷ line (one (codes "nail")) (At (record { date = 760_957_200; doc = 2 }))
    (pos 5) (pos 0) (pos 3) (negsuc 2) (pos 2)
    ∷ []
unfolding both_rows unit_start start_day starts_unit day_from_year day_from_month
by_recorder-ends = refl

in_one_group : balance_and_turnovers_of 1 (records_of 0 one_second) everything (Some [])
    (within 760_060_800 762_480_000 Recorder) Movements
    ≡ line [] (At (record { date = 760_957_200; doc = 1 }))
    (pos 0) (pos 5) (pos 0) (pos 5) (pos 5)
    ∷ line [] (At (record { date = 760_957_200; doc = 2 }))
    (pos 5) (pos 1) (pos 3) (negsuc 1) (pos 3)
    ∷ []
unfolding both_rows unit_start start_day starts_unit day_from_year day_from_month
in_one_group = refl

bolts_alone : balance_and_turnovers_of 1 (records_of 0 one_second) (alone (codes "bolt")) None
    (within 760_060_800 762_480_000 Record) Movements
    ≡ line (one (codes "bolt")) (Line (record { date = 760_957_200; doc = 2 }) 2)
    (pos 0) (pos 1) (pos 0) (pos 1) (pos 1)
    ∷ []
unfolding both_rows unit_start start_day starts_unit day_from_year day_from_month
bolts_alone = refl

nothing_asked : balance_and_turnovers_of 1 (records_of 0 one_second) nothing None
    (within 760_060_800 762_480_000 Record) Movements
    ≡ []
unfolding both_rows unit_start start_day starts_unit day_from_year day_from_month
nothing_asked = refl

turnovers_by_record : turnovers_of true 1 (records_of 0 one_second) everything None
    (within 760_060_800 762_480_000 Record)
    ≡ moved (one (codes "bolt")) (Line (record { date = 760_957_200; doc = 2 }) 2)
    (pos 1) (pos 0) (pos 1)
    ∷ moved (one (codes "nail")) (Line (record { date = 760_957_200; doc = 1 }) 1)
    (pos 5) (pos 0) (pos 5)
    ∷ moved (one (codes "nail")) (Line (record { date = 760_957_200; doc = 2 }) 1)
    (pos 0) (pos 2) (negsuc 1)
    ∷ moved (one (codes "nail")) (Line (record { date = 760_957_200; doc = 2 }) 3)
    (pos 0) (pos 1) (negsuc 0)
    ∷ []
unfolding turnover_rows unit_start start_day starts_unit day_from_year day_from_month
turnovers_by_record = refl

-- a register of turnovers has those alone
abbrev sales : List Document
sales =
    document 1 760_957_200
    (rec 1 Turn (one (codes "nail")) (pos 5)
    ∷ rec 2 Turn (one (codes "nail")) (negsuc 0) ∷ [])
    ∷ []

sold : turnovers_of false 1 (records_of 0 sales) everything None
    (within 757_382_400 765_158_400 Month)
    ≡ record {
      group = one (codes "nail");
      unit = Start 760_060_800;
      opening = [];
      receipt = [];
      expense = [];
      turnover = pos 4 ∷ [];
      closing = [];
    } ∷ []
unfolding turnover_rows unit_start start_day starts_unit day_from_year day_from_month
sold = refl
