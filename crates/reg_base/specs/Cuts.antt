-- Cuts: which points lie inside one, and how one is spelt.
use Rattle.std.specs.Prelude.{ℕ, Bool, true, ◌<◌, ◌==◌, nat_lt, nat_le, if◌then◌else◌, List, ◌++◌}
use Rattle.std.specs.Prelude.{bytes_eq, codes, Result, Ok, Err}
use Rattle.std.specs.List.{list_any, before_first, after_first}
use Rattle.std.specs.Ordering.{is_lt, is_le}
use Rattle.reg_base.specs.declared.cut.Cut.{Cut}
use Rattle.reg_base.specs.declared.cut.Cut.TheVariants.{Now, BeforeDate, ThroughDate, BeforePoint}
use Rattle.reg_base.specs.declared.cut.Cut.TheVariants.{ThroughPoint}
use Rattle.reg_base.specs.declared.date.DateFault.{DateFault}
use Rattle.reg_base.specs.declared.date.DateFault.TheVariants.{NotADate}
use Rattle.reg_base.specs.declared.point.Point.{Point}
use Rattle.reg_base.specs.Results.{◌>>=◌}
use Rattle.reg_base.specs.Dates.{parse_date, date_text}
use Rattle.reg_base.specs.Points.{point_cmp, IsPoint, parse_point, point_text}

-- the points below the cut's date or point, or at most there; now has every point
abbrev pub inside : Cut → Point → Bool
inside Now p = true
inside (BeforeDate d) p = nat_lt p.date d
inside (ThroughDate d) p = nat_le p.date d
inside (BeforePoint q) p = is_lt (point_cmp p q)
inside (ThroughPoint q) p = is_le (point_cmp p q)

-- the cut's date or point is one
abbrev pub IsCut : Cut → Type 0
IsCut Now = Unit {0}
IsCut (BeforeDate d) = d < 3_155_760_000
IsCut (ThroughDate d) = d < 3_155_760_000
IsCut (BeforePoint p) = IsPoint p
IsCut (ThroughPoint p) = IsPoint p

-- whether the text has this byte
abbrev pub has_byte : ℕ → List ℕ → Bool
has_byte byte text = list_any (λ b. b == byte) text

-- the cut before a place: a point where the place has `#`, and else a date
unfoldable pub cut_before : List ℕ → Result Cut DateFault
cut_before place =
    if has_byte 35 place then (parse_point place >>= λ p. Ok (BeforePoint p))
    else (parse_date place >>= λ d. Ok (BeforeDate d))

-- the cut through a place
unfoldable pub cut_through : List ℕ → Result Cut DateFault
cut_through place =
    if has_byte 35 place then (parse_point place >>= λ p. Ok (ThroughPoint p))
    else (parse_date place >>= λ d. Ok (ThroughDate d))

-- the cut of a word and, behind one space, a place
unfoldable pub cut_by_word : List ℕ → List ℕ → Result Cut DateFault
cut_by_word word place =
    if bytes_eq word (codes "before") then cut_before place
    else (if bytes_eq word (codes "through") then cut_through place else Err NotADate)

-- the cut of one word: `now`, or a date alone, which means before it
unfoldable pub cut_alone : List ℕ → Result Cut DateFault
cut_alone text =
    if bytes_eq text (codes "now") then Ok Now
    else (parse_date text >>= λ d. Ok (BeforeDate d))

-- the cut that the text spells
unfoldable pub parse_cut : List ℕ → Result Cut DateFault
parse_cut text =
    if has_byte 32 text
    then cut_by_word (before_first (λ b. b == 32) text) (after_first (λ b. b == 32) text)
    else cut_alone text

-- the text of a cut, with dates in the long form
unfoldable pub cut_text : Cut → List ℕ
cut_text Now = codes "now"
cut_text (BeforeDate d) = codes "before " ++ date_text d
cut_text (ThroughDate d) = codes "through " ++ date_text d
cut_text (BeforePoint p) = codes "before " ++ point_text p
cut_text (ThroughPoint p) = codes "through " ++ point_text p
