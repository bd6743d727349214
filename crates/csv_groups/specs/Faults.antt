-- The numbers and the names of the faults of rows.
use Rattle.std.specs.Prelude.{ℕ, List, codes}
use Rattle.csv_groups.specs.declared.fault.RowWhy.{RowWhy}
use Rattle.csv_groups.specs.declared.fault.RowWhy.TheVariants.{Shape, UnknownColumn, MissingColumn}
use Rattle.csv_groups.specs.declared.fault.RowWhy.TheVariants.{BadValue, Scattered, HeadDiffers}

-- the number of a fault: of several in one row the least is told
abbrev pub row_why_number : RowWhy → ℕ
row_why_number Shape = 1
row_why_number (UnknownColumn column) = 2
row_why_number (MissingColumn column) = 3
row_why_number (BadValue column) = 4
row_why_number Scattered = 5
row_why_number (HeadDiffers column) = 6

-- the name of a fault
abbrev pub row_why_name : RowWhy → List ℕ
row_why_name Shape = codes "Shape"
row_why_name (UnknownColumn column) = codes "UnknownColumn"
row_why_name (MissingColumn column) = codes "MissingColumn"
row_why_name (BadValue column) = codes "BadValue"
row_why_name Scattered = codes "Scattered"
row_why_name (HeadDiffers column) = codes "HeadDiffers"
