-- Points: a date and a document number, their order, spelling and text.
use Rattle.std.specs.Prelude.{ℕ, Bool, ◌^◌, ◌<◌, ◌==◌, ◌&&◌, not, nat_lt, List, ◌++◌, ◌∷◌, drop}
use Rattle.std.specs.Prelude.{take, length, slice_index, Result, Ok}
use Rattle.std.specs.List.{list_all}
use Rattle.std.specs.Char.{is_ascii_digit}
use Rattle.std.specs.Ordering.{nat_cmp, ordering_then}
use Rattle.std.specs.declared.cmp.Ordering.{Ordering}
use Rattle.reg_base.specs.declared.date.DateFault.{DateFault}
use Rattle.reg_base.specs.declared.date.DateFault.TheVariants.{NotADate}
use Rattle.reg_base.specs.declared.point.Point.{Point}
use Rattle.reg_base.specs.Results.{◌>>=◌, unless}
use Rattle.reg_base.specs.Numbers.{decimal_value, number_text}
use Rattle.reg_base.specs.Dates.{parse_long_date, date_text}

-- points are in order of date, and those of one date in order of document number
abbrev pub point_cmp : Point → Point → Ordering
point_cmp p q = ordering_then (nat_cmp p.date q.date) (nat_cmp p.doc q.doc)

-- the point has a date of 2000 to 2099 and a document number below 2 ^ 32, as every point has
pub record IsPoint (p : Point) : Type 0 where
  pub in_century : p.date < 3_155_760_000
  pub small : p.doc < 2 ^ 32

-- whether digits have a zero in front of others
abbrev pub has_leading_zero : List ℕ → Bool
has_leading_zero digits = nat_lt 1 (length digits) && (slice_index digits 0 == 48)

-- whether a text is digits, one or more, without leading zeros
unfoldable pub is_whole_number : List ℕ → Bool
is_whole_number digits =
    not (has_leading_zero digits) && nat_lt 0 (length digits) && list_all is_ascii_digit digits

-- the document number that the digits spell, below 2 ^ 32
unfoldable pub doc_number : List ℕ → Result ℕ DateFault
doc_number digits = do
  _ ← unless (is_whole_number digits) NotADate
  _ ← unless (nat_lt (decimal_value digits) (2 ^ 32)) NotADate
  Ok (decimal_value digits)

-- the point that the text spells: a date of 19 bytes, `#`, and a document number
unfoldable pub parse_point : List ℕ → Result Point DateFault
parse_point text = do
  _ ← unless (slice_index text 19 == 35) NotADate
  doc ← doc_number (drop 20 text)
  date ← parse_long_date (take 19 text)
  Ok (record { date = date; doc = doc })

-- the text of a point
unfoldable pub point_text : Point → List ℕ
point_text p = date_text p.date ++ (35 ∷ number_text p.doc)
