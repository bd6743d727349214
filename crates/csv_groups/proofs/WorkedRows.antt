-- Worked rows: the bytes of small files, and what they hold.
use Rattle.std.proofs.Common.{◌≡◌, ℕ, List, [], ◌∷◌, None, Ok, Err, true, refl, codes}
use Rattle.std.proofs.Common.{lit<}
use Rattle.std.proofs.lemmas.Str.{IsUtf8-nil}
use Rattle.csv.proofs.OnLiterals.{csv_on_literals}
use Rattle.csv.specs.Reading.{default_config, records, strip_bom}
use Rattle.csv.specs.Records.{AllText, field_at}
use Rattle.reg_base.specs.Codes.{is_code, is_name}
use Rattle.reg_base.specs.Dates.{parse_date, date_text, day_text, second_text, day_of}
use Rattle.reg_base.specs.Dates.{day_from_year, day_from_month}
use Rattle.reg_base.proofs.ForAbove.{IsUtf8-tested, parse_date-text}
use Rattle.cfg_model.specs.declared.config.Config.{Config}
use Rattle.csv_groups.specs.Cells.{Cells, are_utf8}
use Rattle.csv_groups.specs.Columns.{column_of, field_column, columns_behind, columns_of}
use Rattle.csv_groups.specs.Groups.{check_row, check_cells, check_place, check_head}
use Rattle.csv_groups.specs.Groups.{with_row, fields_in}
use Rattle.csv_groups.specs.declared.column.Column.TheVariants.{Key, Kind as Sort, Date}
use Rattle.csv_groups.specs.declared.column.Column.TheVariants.{Head, Line}
use Rattle.csv_groups.specs.declared.column.Part.TheVariants.{Head as Of_head, Line as Of_line}
use Rattle.csv_groups.specs.declared.columns.Columns.{Columns}
use Rattle.csv_groups.specs.declared.fault.RowFault.TheVariants.{Refused}
use Rattle.csv_groups.specs.declared.fault.RowWhy.TheVariants.{Shape, UnknownColumn, MissingColumn}
use Rattle.csv_groups.specs.declared.fault.RowWhy.TheVariants.{BadValue, Scattered, HeadDiffers}
use Rattle.csv_groups.proofs.CellLemmas.{are_utf8-text}

-- sales, with a customer in the head and an item in each line
abbrev shop : Config
shop = record {
  registers = [];
  ledgers = [];
  kinds = (record {
    name = codes "sale";
    head = (record { name = codes "customer"; scale = None }) ∷ [];
    lines = (record { name = codes "item"; scale = None }) ∷ [];
    rules = [];
  }) ∷ [];
  sequences = [];
  clerks = [];
}

-- ---- records

-- an empty file, one of a mark alone, and one of empty lines have no records
no_records : records default_config (strip_bom []) ≡ []
unfolding csv_on_literals
no_records = refl

a_mark_alone : records default_config (strip_bom (0xEF ∷ 0xBB ∷ 0xBF ∷ [])) ≡ []
unfolding csv_on_literals
a_mark_alone = refl

empty_lines : records default_config (strip_bom (10 ∷ 13 ∷ 10 ∷ 10 ∷ [])) ≡ []
unfolding csv_on_literals
empty_lines = refl

-- of two marks the second belongs to the first field
two_marks :
    records default_config (strip_bom (0xEF ∷ 0xBB ∷ 0xBF ∷ 0xEF ∷ 0xBB ∷ 0xBF ∷ codes "a,b"))
    ≡ ((0xEF ∷ 0xBB ∷ 0xBF ∷ codes "a") ∷ codes "b" ∷ []) ∷ []
unfolding csv_on_literals
two_marks = refl

-- a comma, a doubled quote and a line feed inside of quotes
quoted : records default_config (strip_bom (codes "\"a,\"\"b\n\",c\r\n"))
    ≡ (codes "a,\"b\n" ∷ codes "c" ∷ []) ∷ []
unfolding csv_on_literals
quoted = refl

-- ---- headers

-- the columns of a header, each with what it names
all_columns :
    columns_of shop (codes "date" ∷ codes "head.customer" ∷ codes "key" ∷ codes "kind" ∷ [])
    ≡ Ok (record {
      all = Date ∷ Head (codes "customer") ∷ Key ∷ Sort ∷ [];
      key = 2;
      kind = 3;
      date = 0;
      comment = None;
    })
unfolding columns_of columns_behind column_of field_column is_name
all_columns = refl

-- an empty header lacks the key
empty_header : columns_of shop [] ≡ Err (Refused 1 (MissingColumn (codes "key")))
unfolding columns_of columns_behind
empty_header = refl

-- a field of lines is none of a head; it is told before what is missing
unknown_field : columns_of shop (codes "kind" ∷ codes "head.item" ∷ codes "day" ∷ [])
    ≡ Err (Refused 1 (UnknownColumn (codes "head.item")))
unfolding columns_of columns_behind column_of field_column is_name
unknown_field = refl

-- a column twice
twice : columns_of shop (codes "kind" ∷ codes "kind" ∷ [])
    ≡ Err (Refused 1 (UnknownColumn (codes "kind")))
unfolding columns_of columns_behind column_of
twice = refl

-- of several that are missing the first
no_kind : columns_of shop (codes "key" ∷ codes "comment" ∷ [])
    ≡ Err (Refused 1 (MissingColumn (codes "kind")))
unfolding columns_of columns_behind column_of
no_kind = refl

-- ---- rows

-- the columns of the rows below
abbrev columns : Columns
columns = record {
  all = Key ∷ Sort ∷ Date ∷ Line (codes "item") ∷ Head (codes "customer") ∷ [];
  key = 0;
  kind = 1;
  date = 2;
  comment = None;
}

abbrev row : List ℕ → List ℕ → List ℕ → List ℕ → Cells
row key date item customer = key ∷ codes "sale" ∷ date ∷ item ∷ customer ∷ []

abbrev nails : Cells
nails = row (codes "a") (codes "2024-01-05T00:00:00") (codes "nail") []

abbrev bolts : Cells
bolts = row (codes "a") (codes "2024-01-05T00:00:00") (codes "bolt") []

-- an empty cell is no member, and the other one is
one_line : fields_in Of_line columns nails
    ≡ (record { name = codes "item"; text = codes "nail" }) ∷ []
unfolding field_at
one_line = refl

no_head : fields_in Of_head columns nails ≡ []
unfolding field_at
no_head = refl

-- members stand in byte order of names, whatever the order of the columns
in_order : fields_in Of_line
    (record columns { all = Line (codes "b") ∷ Key ∷ Line (codes "a") ∷ [] })
    (codes "1" ∷ codes "k" ∷ codes "2" ∷ [])
    ≡ (record { name = codes "a"; text = codes "2" })
    ∷ (record { name = codes "b"; text = codes "1" }) ∷ []
unfolding field_at
in_order = refl

-- a second row of the key is one of its group
joins : with_row columns bolts (with_row columns nails [])
    ≡ (record { first = nails; others = bolts ∷ [] }) ∷ []
unfolding field_at
joins = refl

-- a row of another key begins a group, and the first key is then scattered
scattered : check_place columns
    (with_row columns (row (codes "b") [] [] []) (with_row columns nails [])) 4 bolts
    ≡ Err (Refused 4 Scattered)
unfolding check_place field_at
scattered = refl

-- the first second of the fifth of January
midnight_text : date_text 757_728_000 ≡ codes "2024-01-05T00:00:00"
unfolding date_text day_text second_text day_of day_from_year day_from_month
midnight_text = refl

midnight : parse_date (codes "2024-01-05T00:00:00") ≡ Ok 757_728_000
midnight = rw midnight_text at (parse_date-text 757_728_000 (lit< tt))

-- another item is no difference, and another customer is one
agrees : check_place columns (with_row columns nails []) 3 bolts ≡ Ok tt
unfolding check_place check_head field_at
agrees = rw midnight refl

differs : check_place columns (with_row columns nails []) 3
    (row (codes "a") (codes "2024-01-05T00:00:00") [] (codes "mill"))
    ≡ Err (Refused 3 (HeadDiffers (codes "head.customer")))
unfolding check_place check_head field_at
differs = rw midnight refl

-- texts of the rows below are UTF-8
abbrev short_row : Cells
short_row = codes "a" ∷ codes "sale" ∷ []

short_texts : are_utf8 short_row ≡ true
unfolding AllText
short_texts =
    are_utf8-text short_row (
      IsUtf8-tested (codes "a") refl,
      (IsUtf8-tested (codes "sale") refl, tt),
    )

abbrev bad_row : Cells
bad_row = codes "a b" ∷ codes "Sale" ∷ [] ∷ [] ∷ [] ∷ []

bad_texts : are_utf8 bad_row ≡ true
unfolding AllText
bad_texts =
    are_utf8-text bad_row (
      IsUtf8-tested (codes "a b") refl,
      (IsUtf8-tested (codes "Sale") refl, (IsUtf8-nil, (IsUtf8-nil, (IsUtf8-nil, tt)))),
    )

-- a row of two cells, and one with three cells that do not read: the first of them is told
short : check_row columns [] 2 short_row ≡ Err (Refused 2 Shape)
unfolding check_row check_cells
short = rw short_texts refl

unread : check_row columns [] 2 bad_row ≡ Err (Refused 2 (BadValue (codes "key")))
unfolding check_row check_cells field_at is_code
unread = rw bad_texts refl
