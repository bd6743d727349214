-- The texts of values, units and numbers in the cells of reports.
use Rattle.std.specs.Prelude.{ℕ, ℤ, pos, Option, Some, None, unwrap_or, List, ◌∷◌, ◌++◌, map, codes}
use Rattle.std.specs.Prelude.{slice_get}
use Rattle.std.specs.List.{join_with_byte}
use Rattle.reg_base.specs.Dates.{date_text}
use Rattle.reg_base.specs.Points.{point_text}
use Rattle.reg_base.specs.Numbers.{number_text, sum_text}
use Rattle.reg_base.specs.declared.records.DocState.{DocState}
use Rattle.reg_base.specs.declared.records.DocState.TheVariants.{Written, Posted, Marked}
use Rattle.reg_base.specs.declared.tables.Unit.{Unit as RowUnit}
use Rattle.reg_base.specs.declared.tables.Unit.TheVariants.{Whole, Start, At, Line}
use Rattle.reg_base.specs.declared.value.Value.{Value}
use Rattle.reg_base.specs.declared.value.Value.TheVariants.{Code, Lot}

-- a value: a code as it is, a lot as its point
abbrev pub shown_value : Value → List ℕ
shown_value (Code code) = code
shown_value (Lot point) = point_text point

-- the values of a group, a slash between two
abbrev pub shown_group : List Value → List ℕ
shown_group group = join_with_byte 47 (map shown_value group)

-- what a row speaks of: a dash for the range as a whole, a date, a document's point, and a record's
-- point with its line behind a slash
abbrev pub shown_unit : RowUnit → List ℕ
shown_unit Whole = codes "-"
shown_unit (Start date) = date_text date
shown_unit (At point) = point_text point
shown_unit (Line point line) = point_text point ++ (47 ∷ number_text line)

-- numbers with all decimals of a scale
abbrev pub shown_numbers : ℕ → List ℤ → List (List ℕ)
shown_numbers scale numbers = map (λ n. sum_text n scale) numbers

-- the number in a place, and 0 where there is none
abbrev pub number_in_place : List ℤ → ℕ → ℤ
number_in_place numbers place = unwrap_or (slice_get numbers place) (pos 0)

-- the word of a document's state
abbrev pub shown_state : DocState → List ℕ
shown_state Written = codes "written"
shown_state Posted = codes "posted"
shown_state Marked = codes "marked"

-- a name or a code, or else the word for none
abbrev pub shown_or : List ℕ → Option (List ℕ) → List ℕ
shown_or word None = word
shown_or word (Some text) = text
