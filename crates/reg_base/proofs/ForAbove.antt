-- For the crates above: the lemmas of this crate that their proofs may cite. Those on sums over
-- lists and on tables stand in ForTables.
use Rattle.std.proofs.Common.{◌≡◌, ℕ, ◌+◌, ◌*◌, ◌%◌, ◌^◌, ◌<◌, ◌&&◌, min, ◌+ℤ◌, Bool, true, false}
use Rattle.std.proofs.Common.{◌≤◌, ◌↔◌, Some, None}
use Rattle.std.proofs.Common.{nat_lt, Option, IfSome, List, [], ◌∷◌, ◌++◌, length, get_or, IsUtf8}
use Rattle.std.proofs.Common.{Result, Ok, IfOk}
use Rattle.std.specs.Prelude.{filter, map, IsPermutation}
use Rattle.std.specs.List.{list_all, flat_map, prefix_len, AllByRecursion}
use Rattle.std.specs.List.Sorted.{IsStrictlySortedBy, IsSorted}
use Rattle.std.specs.Char.{is_ascii_digit}
use Rattle.std.specs.Fmt.{decimal}
use Rattle.std.specs.Str.{IsAscii}
use Rattle.std.specs.Cmp.{IsTotalOrder}
use Rattle.std.specs.declared.cmp.Ordering.{Ordering}
use Rattle.std.proofs.lemmas.Map.Lookups.{CmpEqualImpliesEq}
use Rattle.reg_base.specs.declared.value.Value.{Value}
use Rattle.reg_base.specs.declared.records.Document.{Document}
use Rattle.reg_base.specs.declared.records.Filter.{Filter}
use Rattle.reg_base.specs.declared.cut.Cut.{Cut}
use Rattle.reg_base.specs.contracts.value.ValueOrd.TheImpl.{ghosts}
use Rattle.reg_base.specs.Results.{◌>>=◌, unless, some_or}
use Rattle.reg_base.specs.Codes.{is_code, is_name}
use Rattle.reg_base.specs.Numbers.{read_on, decimal_value, last_digits, number_text}
use Rattle.reg_base.specs.Dates.{parse_date, parse_date_end, date_text}
use Rattle.reg_base.specs.Points.{point_cmp}
use Rattle.reg_base.specs.Cuts.{IsCut, inside, parse_cut, cut_text}
use Rattle.reg_base.specs.Records.{Booked, value_cmp, values_cmp, put_once, point_of, booked_by}
use Rattle.reg_base.specs.Records.{records_of, matches, in_order}
use Rattle.reg_base.specs.Balances.{group_of, groups_of, contribution, total, sum_rows, balance_of}
use Rattle.reg_base.specs.declared.tables.Periodicity.{Periodicity}
use Rattle.reg_base.specs.Units.{unit_start, next_unit, are_dates, IsStart, IsUnitStart, IsNextUnit}
use Rattle.reg_base.specs.Units.{IsLastUnit, starts_between}
use Rattle.reg_base.proofs.ResultLemmas as results
use Rattle.reg_base.proofs.BetweenLemmas as between
use Rattle.reg_base.proofs.CodeLemmas as spellings
use Rattle.reg_base.proofs.NumberLemmas as numbers
use Rattle.reg_base.proofs.DigitLemmas as digits
use Rattle.reg_base.proofs.SumTextLemmas as sums
use Rattle.reg_base.proofs.PointTextLemmas as points
use Rattle.reg_base.proofs.DateTextLemmas as dates
use Rattle.reg_base.proofs.RangeLemmas as ranges
use Rattle.reg_base.proofs.UnitLaws as units
use Rattle.reg_base.proofs.Utf8Lemmas as utf8
use Rattle.reg_base.proofs.OrderLemmas as orders
use Rattle.reg_base.proofs.OnceLemmas as onces
use Rattle.reg_base.proofs.BalanceLemmas as balances
use Rattle.reg_base.proofs.InOrderLemmas as in_orders

-- ---- readers that go on step by step

-- a step whose value has P, and what comes next for such a value
pub IfOk-then : {F X Y : Type 0} (P : X → Type 0) (Q : Y → Type 0) (r : Result X F)
    (next : X → Result Y F) → IfOk r P → ((x : X) → P x → IfOk (next x) Q) → IfOk (r >>= next) Q
IfOk-then = results.IfOk-then

-- a step of whose value nothing is asked
pub IfOk-next : {F X Y : Type 0} (Q : Y → Type 0) (r : Result X F) (next : X → Result Y F)
    → ((x : X) → IfOk (next x) Q) → IfOk (r >>= next) Q
IfOk-next = results.IfOk-next

-- a test
pub IfOk-unless : {F Y : Type 0} (Q : Y → Type 0) (test : Bool) (fault : F)
    (next : Unit {0} → Result Y F) → (test ≡ true → IfOk (next tt) Q)
    → IfOk (unless test fault >>= next) Q
IfOk-unless = results.IfOk-unless

-- a value that is there or not
pub IfOk-some_or : {F X : Type 0} (P : X → Type 0) (option : Option X) (fault : F)
    → IfSome option P → IfOk (some_or option fault) P
IfOk-some_or = results.IfOk-some_or

-- ---- codes and names

pub IsAscii-code : (text : List ℕ) → is_code text ≡ true → IsAscii text
IsAscii-code = spellings.IsAscii-code

pub IsAscii-name : (text : List ℕ) → is_name text ≡ true → IsAscii text
IsAscii-name = spellings.IsAscii-name

-- ---- digits

-- reading on from a capped number is, capped, reading on from the number
pub read_on-min : (cap n : ℕ) (digits : List ℕ)
    → min (read_on (min n cap) digits) cap ≡ min (read_on n digits) cap
read_on-min = numbers.read_on-min

pub all_digits-last_digits : (k n : ℕ) → list_all is_ascii_digit (last_digits k n) ≡ true
all_digits-last_digits = digits.all_digits-last_digits

pub length-last_digits : (k n : ℕ) → length (last_digits k n) ≡ k
length-last_digits = digits.length-last_digits

-- the last digits spell the remainder
pub read_on-last_digits : (m k n : ℕ) → read_on m (last_digits k n) ≡ m * 10 ^ k + n % 10 ^ k
read_on-last_digits = digits.read_on-last_digits

pub all_digits-number_text : (n : ℕ) → n < 2 ^ 64 → list_all is_ascii_digit (number_text n) ≡ true
all_digits-number_text = points.all_digits-number_text

pub decimal_value-number_text : (n : ℕ) → n < 2 ^ 64 → decimal_value (number_text n) ≡ n
decimal_value-number_text = points.decimal_value-number_text

pub decimal-number_text : (n : ℕ) → n < 10 ^ 40 → decimal n ≡ number_text n
decimal-number_text = numbers.decimal-number_text

pub number_text-some : (n : ℕ) → n < 2 ^ 64 → 0 < length (number_text n)
number_text-some = points.number_text-some

-- elements that pass, in front of something else, are all that a walk takes
pub prefix_len-all : (test : ℕ → Bool) (xs rest : List ℕ) → list_all test xs ≡ true
    → test (get_or rest 0 0) ≡ false → prefix_len test (xs ++ rest) ≡ length xs
prefix_len-all = sums.prefix_len-all

-- ---- dates and cuts

pub parse_date-text : (date : ℕ) → date < 3_155_760_000 → parse_date (date_text date) ≡ Ok date
parse_date-text = dates.parse_date-text

pub parse_date-within : (text : List ℕ) → IfOk (parse_date text) (λ date. date < 3_155_760_000)
parse_date-within = ranges.parse_date-within

-- the same of the end of a range
pub parse_date_end-text : (date : ℕ) → date < 3_155_760_000
    → parse_date_end (date_text date) ≡ Ok date
parse_date_end-text = dates.parse_date_end-text

pub parse_date_end-within : (text : List ℕ)
    → IfOk (parse_date_end text) (λ date. date < 3_155_760_000)
parse_date_end-within = ranges.parse_date_end-within

pub parse_cut-text : (cut : Cut) → IsCut cut → parse_cut (cut_text cut) ≡ Ok cut
parse_cut-text = points.parse_cut-text

pub parse_cut-IsCut : (text : List ℕ) → IfOk (parse_cut text) IsCut
parse_cut-IsCut = ranges.parse_cut-IsCut

-- ---- units

-- a start that is not above a date is not above the start of the date's unit
pub unit_start-greatest : (by : Periodicity) (date other : ℕ) → IsStart by other → other ≤ date
    → other ≤ unit_start by date
unit_start-greatest = units.unit_start-greatest

pub unit_start-le : (by : Periodicity) (date : ℕ) → unit_start by date ≤ date
unit_start-le = units.unit_start-le

pub unit_start-is : (by : Periodicity) (date : ℕ) → are_dates by ≡ true
    → IsUnitStart by date (unit_start by date)
unit_start-is = units.unit_start-is

pub unit_start-monotone : (by : Periodicity) (date later : ℕ) → date ≤ later
    → unit_start by date ≤ unit_start by later
unit_start-monotone = units.unit_start-monotone

-- the unit of a date starts before another start exactly where the date is before it
pub unit_start-lt : (by : Periodicity) (date start : ℕ) → IsStart by start
    → (unit_start by date < start) ↔ (date < start)
unit_start-lt = units.unit_start-lt

pub next_unit-is : (by : Periodicity) (date start : ℕ) → next_unit by date ≡ Some start
    → IsNextUnit by date start
next_unit-is = units.next_unit-is

pub next_unit-None : (by : Periodicity) (date : ℕ)
    → (next_unit by date ≡ None) ↔ IsLastUnit by date
next_unit-None = units.next_unit-None

-- the starts between two dates, one after the other
pub starts_between-first : (by : Periodicity) (from to : ℕ) → are_dates by ≡ true
    → starts_between by from to ≡ starts_between by (unit_start by from) to
starts_between-first = between.starts_between-first

pub starts_between-none : (by : Periodicity) (start to : ℕ) → IsStart by start → to < start
    → starts_between by start to ≡ []
starts_between-none = between.starts_between-none

pub starts_between-next : (by : Periodicity) (start to next : ℕ) → IsStart by start → start ≤ to
    → next_unit by start ≡ Some next
    → starts_between by start to ≡ start ∷ starts_between by next to
starts_between-next = between.starts_between-next

pub starts_between-last : (by : Periodicity) (start to : ℕ) → IsStart by start → start ≤ to
    → to < 3_155_760_000 → next_unit by start ≡ None
    → starts_between by start to ≡ start ∷ []
starts_between-last = between.starts_between-last

-- ---- texts that are UTF-8

-- bytes that are seen to be below 128, as those of a text in the source
pub IsUtf8-tested : (bytes : List ℕ) → list_all (λ b. nat_lt b 128) bytes ≡ true → IsUtf8 bytes
IsUtf8-tested = utf8.IsUtf8-tested

pub IsUtf8-code : (text : List ℕ) → is_code text ≡ true → IsUtf8 text
IsUtf8-code = utf8.IsUtf8-code

pub IsUtf8-name : (text : List ℕ) → is_name text ≡ true → IsUtf8 text
IsUtf8-name = utf8.IsUtf8-name

pub IsUtf8-date_text : (date : ℕ) → IsUtf8 (date_text date)
IsUtf8-date_text = utf8.IsUtf8-date_text

pub IsUtf8-cut_text : (cut : Cut) → IsCut cut → IsUtf8 (cut_text cut)
IsUtf8-cut_text = utf8.IsUtf8-cut_text

-- ---- the order of values

-- the order that the code derives is the order of values
pub derived-value_cmp : (x y : Value) → ghosts.cmp x y ≡ value_cmp x y
derived-value_cmp = orders.derived-value_cmp

pub values_cmp_total : IsTotalOrder values_cmp
values_cmp_total = orders.values_cmp_total

pub values_cmp_exact : CmpEqualImpliesEq values_cmp
values_cmp_exact = orders.values_cmp_exact

pub point_cmp_total : IsTotalOrder point_cmp
point_cmp_total = orders.point_cmp_total

pub point_cmp_exact : CmpEqualImpliesEq point_cmp
point_cmp_exact = orders.point_cmp_exact

-- the elements of a list in order are those of the list in any order
pub in_order-permutation : {X : Type 0} {R : X → X → Ordering} → IsTotalOrder R
    → CmpEqualImpliesEq R → (xs ys : List X) → IsPermutation xs ys → in_order R xs ≡ in_order R ys
in_order-permutation o exact = in_orders.in_order-permutation o exact

-- a sorted list is in order
pub in_order-sorted : {X : Type 0} {R : X → X → Ordering} → IsTotalOrder R → CmpEqualImpliesEq R
    → (xs : List X) → IsSorted R xs → in_order R xs ≡ xs
in_order-sorted o exact = in_orders.in_order-sorted o exact

-- elements in order of what is seen of them
pub in_order-map : {X Y : Type 0} (S : Y → Y → Ordering) (view : X → Y) (xs : List X)
    → map view (in_order (λ a b. S (view a) (view b)) xs) ≡ in_order S (map view xs)
in_order-map = in_orders.in_order-map

-- ---- balances

-- an element put once into a rising list leaves it rising
pub put_once-rising : {X : Type 0} {R : X → X → Ordering} → IsTotalOrder R → CmpEqualImpliesEq R
    → (x : X) (ys : List X) → IsStrictlySortedBy R ys → IsStrictlySortedBy R (put_once R x ys)
put_once-rising o exact = onces.put_once-rising o exact

-- groups rise
pub groups_of-rising : (by : Option (List ℕ)) (bs : List Booked)
    → IsStrictlySortedBy values_cmp (groups_of by bs)
groups_of-rising = balances.groups_of-rising

-- what holds of the group of each record holds of all groups
pub groups_of-all : (by : Option (List ℕ)) (P : List Value → Type 0)
    → ((b : Booked) → P (group_of by b)) → (bs : List Booked) → AllByRecursion P (groups_of by bs)
groups_of-all = balances.groups_of-all

-- one record more, at the end
pub groups_of-push : (by : Option (List ℕ)) (bs : List Booked) (b : Booked)
    → groups_of by (bs ++ b ∷ []) ≡ put_once values_cmp (group_of by b) (groups_of by bs)
groups_of-push = balances.groups_of-push

pub total-push : (by : Option (List ℕ)) (g : List Value) (bs : List Booked) (b : Booked) (j : ℕ)
    → total by g (bs ++ b ∷ []) j ≡ contribution by g j b +ℤ total by g bs j
total-push = balances.total-push

-- a balance over the records in order is the one over them as the documents hold them
pub balance_of-records_of : (n register : ℕ) (documents : List Document) (asked : Filter)
    (by : Option (List ℕ)) (cut : Cut)
    → balance_of n (records_of register documents) asked by cut
    ≡ sum_rows n by (filter (λ b. matches asked b.rec.values && inside cut (point_of b))
    (flat_map (booked_by register) documents))
balance_of-records_of = balances.balance_of-records_of
