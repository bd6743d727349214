-- Worked rows of balances with turnovers by each periodicity, computed from their definitions.
use Rattle.std.proofs.Common.{◌≡◌, pos, negsuc, Some, List, [], ◌∷◌, refl}
use Rattle.std.proofs.Common.{codes}
use Rattle.reg_base.specs.declared.records.Mark.TheVariants.{Receipt, Expense}
use Rattle.reg_base.specs.declared.records.Document.{Document}
use Rattle.reg_base.specs.declared.tables.Periodicity.TheVariants.{Period, Record, Recorder, Day}
use Rattle.reg_base.specs.declared.tables.Periodicity.TheVariants.{Week, TenDays, Month, Quarter}
use Rattle.reg_base.specs.declared.tables.Periodicity.TheVariants.{HalfYear, Year}
use Rattle.reg_base.specs.declared.tables.Unit.TheVariants.{Whole, Start, At, Line}
use Rattle.reg_base.specs.declared.tables.Method.TheVariants.{Movements}
use Rattle.reg_base.specs.declared.tables.Method.TheVariants.{MovementsAndPeriodBoundaries}
use Rattle.reg_base.specs.Dates.{day_from_year, day_from_month}
use Rattle.reg_base.specs.Records.{records_of}
use Rattle.reg_base.specs.Units.{starts_unit, start_day, unit_start}
use Rattle.reg_base.specs.Turnovers.{both_rows}
use Rattle.reg_base.specs.Turnovers.{balance_and_turnovers_of}
use Rattle.reg_base.proofs.WorkedTables.{document, rec, one, two, everything}
use Rattle.reg_base.proofs.WorkedTables.{within, line}

-- movements on both sides of the new year and of 29 February, by each periodicity
abbrev leap_year : List Document
leap_year =
    document 1 757_382_399
    (rec 1 Receipt (two (codes "a") (codes "x")) (pos 10)
    ∷ rec 2 Receipt (two (codes "b") (codes "y")) (pos 4) ∷ [])
    ∷ document 2 757_382_400 (rec 1 Expense (two (codes "a") (codes "x")) (pos 3) ∷ [])
    ∷ document 3 762_480_100
    (rec 1 Receipt (two (codes "a") (codes "y")) (pos 1)
    ∷ rec 2 Expense (two (codes "b") (codes "y")) (pos 4) ∷ [])
    ∷ document 4 762_566_400
    (rec 1 Expense (two (codes "a") (codes "x")) (pos 2)
    ∷ rec 2 Receipt (two (codes "a") (codes "y")) (negsuc 0) ∷ [])
    ∷ []

whole : balance_and_turnovers_of 1 (records_of 0 leap_year) everything (Some (0 ∷ []))
    (within 757_296_000 763_776_000 Period) MovementsAndPeriodBoundaries
    ≡ line (one (codes "a")) Whole (pos 0) (pos 10) (pos 5) (pos 5) (pos 5)
    ∷ line (one (codes "b")) Whole (pos 0) (pos 4) (pos 4) (pos 0) (pos 0)
    ∷ []
unfolding both_rows unit_start start_day starts_unit day_from_year day_from_month
whole = refl

records : balance_and_turnovers_of 1 (records_of 0 leap_year) everything (Some (0 ∷ []))
    (within 757_296_000 763_776_000 Record) MovementsAndPeriodBoundaries
    ≡ line (one (codes "a")) (Line (record { date = 757_382_399; doc = 1 }) 1)
    (pos 0) (pos 10) (pos 0) (pos 10) (pos 10)
    ∷ line (one (codes "a")) (Line (record { date = 757_382_400; doc = 2 }) 1)
    (pos 10) (pos 0) (pos 3) (negsuc 2) (pos 7)
    ∷ line (one (codes "a")) (Line (record { date = 762_480_100; doc = 3 }) 1)
    (pos 7) (pos 1) (pos 0) (pos 1) (pos 8)
    ∷ line (one (codes "a")) (Line (record { date = 762_566_400; doc = 4 }) 1)
    (pos 8) (pos 0) (pos 2) (negsuc 1) (pos 6)
    ∷ line (one (codes "a")) (Line (record { date = 762_566_400; doc = 4 }) 2)
    (pos 6) (negsuc 0) (pos 0) (negsuc 0) (pos 5)
    ∷ line (one (codes "b")) (Line (record { date = 757_382_399; doc = 1 }) 2)
    (pos 0) (pos 4) (pos 0) (pos 4) (pos 4)
    ∷ line (one (codes "b")) (Line (record { date = 762_480_100; doc = 3 }) 2)
    (pos 4) (pos 0) (pos 4) (negsuc 3) (pos 0)
    ∷ []
unfolding both_rows unit_start start_day starts_unit day_from_year day_from_month
records = refl

recorders : balance_and_turnovers_of 1 (records_of 0 leap_year) everything (Some (0 ∷ []))
    (within 757_296_000 763_776_000 Recorder) MovementsAndPeriodBoundaries
    ≡ line (one (codes "a")) (At (record { date = 757_382_399; doc = 1 }))
    (pos 0) (pos 10) (pos 0) (pos 10) (pos 10)
    ∷ line (one (codes "a")) (At (record { date = 757_382_400; doc = 2 }))
    (pos 10) (pos 0) (pos 3) (negsuc 2) (pos 7)
    ∷ line (one (codes "a")) (At (record { date = 762_480_100; doc = 3 }))
    (pos 7) (pos 1) (pos 0) (pos 1) (pos 8)
    ∷ line (one (codes "a")) (At (record { date = 762_566_400; doc = 4 }))
    (pos 8) (negsuc 0) (pos 2) (negsuc 2) (pos 5)
    ∷ line (one (codes "b")) (At (record { date = 757_382_399; doc = 1 }))
    (pos 0) (pos 4) (pos 0) (pos 4) (pos 4)
    ∷ line (one (codes "b")) (At (record { date = 762_480_100; doc = 3 }))
    (pos 4) (pos 0) (pos 4) (negsuc 3) (pos 0)
    ∷ []
unfolding both_rows unit_start start_day starts_unit day_from_year day_from_month
recorders = refl

days : balance_and_turnovers_of 1 (records_of 0 leap_year) everything (Some (0 ∷ []))
    (within 757_296_000 763_776_000 Day) MovementsAndPeriodBoundaries
    ≡ line (one (codes "a")) (Start 757_296_000) (pos 0) (pos 10) (pos 0) (pos 10) (pos 10)
    ∷ line (one (codes "a")) (Start 757_382_400) (pos 10) (pos 0) (pos 3) (negsuc 2) (pos 7)
    ∷ line (one (codes "a")) (Start 762_480_000) (pos 7) (pos 1) (pos 0) (pos 1) (pos 8)
    ∷ line (one (codes "a")) (Start 762_566_400) (pos 8) (negsuc 0) (pos 2) (negsuc 2) (pos 5)
    ∷ line (one (codes "a")) (Start 763_776_000) (pos 5) (pos 0) (pos 0) (pos 0) (pos 5)
    ∷ line (one (codes "b")) (Start 757_296_000) (pos 0) (pos 4) (pos 0) (pos 4) (pos 4)
    ∷ line (one (codes "b")) (Start 762_480_000) (pos 4) (pos 0) (pos 4) (negsuc 3) (pos 0)
    ∷ []
unfolding both_rows unit_start start_day starts_unit day_from_year day_from_month
days = refl

weeks : balance_and_turnovers_of 1 (records_of 0 leap_year) everything (Some (0 ∷ []))
    (within 757_296_000 763_776_000 Week) MovementsAndPeriodBoundaries
    ≡ line (one (codes "a")) (Start 756_777_600) (pos 0) (pos 10) (pos 0) (pos 10) (pos 10)
    ∷ line (one (codes "a")) (Start 757_382_400) (pos 10) (pos 0) (pos 3) (negsuc 2) (pos 7)
    ∷ line (one (codes "a")) (Start 762_220_800) (pos 7) (pos 0) (pos 2) (negsuc 1) (pos 5)
    ∷ line (one (codes "a")) (Start 763_430_400) (pos 5) (pos 0) (pos 0) (pos 0) (pos 5)
    ∷ line (one (codes "b")) (Start 756_777_600) (pos 0) (pos 4) (pos 0) (pos 4) (pos 4)
    ∷ line (one (codes "b")) (Start 762_220_800) (pos 4) (pos 0) (pos 4) (negsuc 3) (pos 0)
    ∷ []
unfolding both_rows unit_start start_day starts_unit day_from_year day_from_month
weeks = refl

tens : balance_and_turnovers_of 1 (records_of 0 leap_year) everything (Some (0 ∷ []))
    (within 757_296_000 763_776_000 TenDays) MovementsAndPeriodBoundaries
    ≡ line (one (codes "a")) (Start 756_432_000) (pos 0) (pos 10) (pos 0) (pos 10) (pos 10)
    ∷ line (one (codes "a")) (Start 757_382_400) (pos 10) (pos 0) (pos 3) (negsuc 2) (pos 7)
    ∷ line (one (codes "a")) (Start 761_788_800) (pos 7) (pos 1) (pos 0) (pos 1) (pos 8)
    ∷ line (one (codes "a")) (Start 762_566_400) (pos 8) (negsuc 0) (pos 2) (negsuc 2) (pos 5)
    ∷ line (one (codes "a")) (Start 763_430_400) (pos 5) (pos 0) (pos 0) (pos 0) (pos 5)
    ∷ line (one (codes "b")) (Start 756_432_000) (pos 0) (pos 4) (pos 0) (pos 4) (pos 4)
    ∷ line (one (codes "b")) (Start 761_788_800) (pos 4) (pos 0) (pos 4) (negsuc 3) (pos 0)
    ∷ []
unfolding both_rows unit_start start_day starts_unit day_from_year day_from_month
tens = refl

months : balance_and_turnovers_of 1 (records_of 0 leap_year) everything (Some (0 ∷ []))
    (within 757_296_000 763_776_000 Month) MovementsAndPeriodBoundaries
    ≡ line (one (codes "a")) (Start 754_704_000) (pos 0) (pos 10) (pos 0) (pos 10) (pos 10)
    ∷ line (one (codes "a")) (Start 757_382_400) (pos 10) (pos 0) (pos 3) (negsuc 2) (pos 7)
    ∷ line (one (codes "a")) (Start 760_060_800) (pos 7) (pos 1) (pos 0) (pos 1) (pos 8)
    ∷ line (one (codes "a")) (Start 762_566_400) (pos 8) (negsuc 0) (pos 2) (negsuc 2) (pos 5)
    ∷ line (one (codes "b")) (Start 754_704_000) (pos 0) (pos 4) (pos 0) (pos 4) (pos 4)
    ∷ line (one (codes "b")) (Start 760_060_800) (pos 4) (pos 0) (pos 4) (negsuc 3) (pos 0)
    ∷ []
unfolding both_rows unit_start start_day starts_unit day_from_year day_from_month
months = refl

quarters : balance_and_turnovers_of 1 (records_of 0 leap_year) everything (Some (0 ∷ []))
    (within 757_296_000 763_776_000 Quarter) MovementsAndPeriodBoundaries
    ≡ line (one (codes "a")) (Start 749_433_600) (pos 0) (pos 10) (pos 0) (pos 10) (pos 10)
    ∷ line (one (codes "a")) (Start 757_382_400) (pos 10) (pos 0) (pos 5) (negsuc 4) (pos 5)
    ∷ line (one (codes "b")) (Start 749_433_600) (pos 0) (pos 4) (pos 0) (pos 4) (pos 4)
    ∷ line (one (codes "b")) (Start 757_382_400) (pos 4) (pos 0) (pos 4) (negsuc 3) (pos 0)
    ∷ []
unfolding both_rows unit_start start_day starts_unit day_from_year day_from_month
quarters = refl

half_years : balance_and_turnovers_of 1 (records_of 0 leap_year) everything (Some (0 ∷ []))
    (within 757_296_000 763_776_000 HalfYear) MovementsAndPeriodBoundaries
    ≡ line (one (codes "a")) (Start 741_484_800) (pos 0) (pos 10) (pos 0) (pos 10) (pos 10)
    ∷ line (one (codes "a")) (Start 757_382_400) (pos 10) (pos 0) (pos 5) (negsuc 4) (pos 5)
    ∷ line (one (codes "b")) (Start 741_484_800) (pos 0) (pos 4) (pos 0) (pos 4) (pos 4)
    ∷ line (one (codes "b")) (Start 757_382_400) (pos 4) (pos 0) (pos 4) (negsuc 3) (pos 0)
    ∷ []
unfolding both_rows unit_start start_day starts_unit day_from_year day_from_month
half_years = refl

years : balance_and_turnovers_of 1 (records_of 0 leap_year) everything (Some (0 ∷ []))
    (within 757_296_000 763_776_000 Year) MovementsAndPeriodBoundaries
    ≡ line (one (codes "a")) (Start 725_846_400) (pos 0) (pos 10) (pos 0) (pos 10) (pos 10)
    ∷ line (one (codes "a")) (Start 757_382_400) (pos 10) (pos 0) (pos 5) (negsuc 4) (pos 5)
    ∷ line (one (codes "b")) (Start 725_846_400) (pos 0) (pos 4) (pos 0) (pos 4) (pos 4)
    ∷ line (one (codes "b")) (Start 757_382_400) (pos 4) (pos 0) (pos 4) (negsuc 3) (pos 0)
    ∷ []
unfolding both_rows unit_start start_day starts_unit day_from_year day_from_month
years = refl

-- grouped by the second dimension
months-second : balance_and_turnovers_of 1 (records_of 0 leap_year) everything (Some (1 ∷ []))
    (within 757_296_000 763_776_000 Month) Movements
    ≡ line (one (codes "x")) (Start 754_704_000) (pos 0) (pos 10) (pos 0) (pos 10) (pos 10)
    ∷ line (one (codes "x")) (Start 757_382_400) (pos 10) (pos 0) (pos 3) (negsuc 2) (pos 7)
    ∷ line (one (codes "x")) (Start 762_566_400) (pos 7) (pos 0) (pos 2) (negsuc 1) (pos 5)
    ∷ line (one (codes "y")) (Start 754_704_000) (pos 0) (pos 4) (pos 0) (pos 4) (pos 4)
    ∷ line (one (codes "y")) (Start 760_060_800) (pos 4) (pos 1) (pos 4) (negsuc 2) (pos 1)
    ∷ line (one (codes "y")) (Start 762_566_400) (pos 1) (negsuc 0) (pos 0) (negsuc 0) (pos 0)
    ∷ []
unfolding both_rows unit_start start_day starts_unit day_from_year day_from_month
months-second = refl
