-- Private: the records that a reader has left, and what a read takes of them.
use Rattle.std.specs.Prelude.{◌≡◌, ◌≢◌, ◌<◌, ◌⊎◌, ℕ, false, true, length, List, [], ◌∷◌}
use Rattle.std.specs.Prelude.{Option, Some, None, Result, Ok, Err}
use Rattle.std.specs.Borrow.{Bor}
use Rattle.csv.specs.Machine.{next_record}
use Rattle.csv.specs.Reading.{default_config, records_from, reader_config, reader_state}
use Rattle.csv.specs.Reading.{reader_trim, Ready, source_of}
use Rattle.csv.specs.Records.{Row, fields_of}
use Rattle.csv.specs.declared.error.ErrorKind.{ErrorKind}
use Rattle.csv.specs.declared.error.ErrorKind.TheVariants as kind
use Rattle.csv.specs.declared.reader.Reader.{Reader}
use Rattle.csv.specs.declared.reader.Trim.TheVariants as trims
use Rattle.csv_groups.specs.Cells.{Cells, are_utf8}
use Rattle.csv_groups.specs.declared.fault.RowFault.{RowFault}
use Rattle.csv_groups.specs.declared.fault.RowFault.TheVariants.{Refused, Memory}
use Rattle.csv_groups.specs.declared.fault.RowWhy.TheVariants.{Shape}

-- a reader of bytes in memory
abbrev pub BytesReader : Type 0
BytesReader = Reader (Bor (List ℕ))

-- what is left of the bytes of a reader
abbrev pub rest_of : BytesReader → Option (List ℕ)
rest_of reader = source_of (λ s. Some s.now) reader

-- what is left of a reader's bytes reads as these records, which are no more than so many
pub record HasLeft (reader : BytesReader) (rows : List Cells) : Type 0 where
  pub trim : reader_trim reader ≡ trims.None
  pub config : reader_config reader ≡ default_config
  pub ready : Ready reader
  pub bytes : List ℕ
  pub source : rest_of reader ≡ Some bytes
  pub count : ℕ
  pub left : records_from default_config count (reader_state reader) bytes ≡ rows
  pub enough : (length bytes < count)
      ⊎ (next_record default_config (reader_state reader) [] [] bytes ≡ None)

-- the fault of the row of this number that an error of a reader is
abbrev pub error_fault : ℕ → ErrorKind → RowFault
error_fault row (kind.Utf8 pos err) = Refused row Shape
error_fault row (kind.Io e) = Memory
error_fault row (kind.UnequalLengths pos expected len) = Memory
error_fault row kind.OutOfMemory = Memory
error_fault row (kind.Serialize text) = Memory
error_fault row (kind.Deserialize pos err) = Memory

-- a read of the row of this number took the first of the records that were left, whose cells are
-- UTF-8; or none was left; or the cells of the first are not; want of memory says nothing
abbrev pub TakesRow : ℕ → List Cells → Result (Option Row) RowFault → BytesReader → Type 0
TakesRow row rows (Ok None) new = rows ≡ []
TakesRow row rows (Ok (Some cells)) new =
    (more : List Cells) × (rows ≡ fields_of cells ∷ more) × (are_utf8 (fields_of cells) ≡ true)
    × HasLeft new more
TakesRow row rows (Err fault) new = fault ≢ Memory
    → (cells : Cells) × (more : List Cells) × (rows ≡ cells ∷ more) × (are_utf8 cells ≡ false)
    × (fault ≡ Refused row Shape)
