-- The numbers of a table of accounts are moderate where those of its entries are.
use Rattle.std.proofs.Common.{◌≡◌, ℕ, suc, ◌*◌, ◌^◌, ◌≤◌, ℤ, pos, negsuc, neg_ℤ, ◌+ℤ◌, ◌-ℤ◌, ◌≤ℤ◌}
use Rattle.std.proofs.Common.{int_lt, Bool, true, false, cond, Option, Some, None, List, [], ◌∷◌}
use Rattle.std.proofs.Common.{map, length, arith}
use Rattle.std.specs.List.{All, filter, flat_map}
use Rattle.std.proofs.lemmas.Bool.{leb-true}
use Rattle.std.proofs.lemmas.Int.{ints}
use Rattle.std.proofs.lemmas.List.Elements.{All-append, All-filter, All-head, All-map, All-nil}
use Rattle.std.proofs.lemmas.List.Elements.{All-tail}
use Rattle.std.proofs.lemmas.List.Sums.{count_by-le-length, length-filter}
use Rattle.reg_base.specs.declared.cut.Cut.TheVariants.{BeforeDate}
use Rattle.reg_base.specs.declared.records.Side.{Side}
use Rattle.reg_base.specs.declared.tables.Range.{Range}
use Rattle.reg_base.specs.declared.tables.Unit.{Unit as TableUnit}
use Rattle.reg_base.specs.BookedEntries.{BookedEntry, entries_in, entries_within}
use Rattle.reg_base.specs.Numbers.{largest_units}
use Rattle.reg_base.specs.Sums.{sum_over}
use Rattle.cfg_model.specs.declared.account.Nature.{Nature}
use Rattle.cfg_model.specs.declared.account.Nature.TheVariants.{Active, Both, Passive}
use Rattle.cfg_model.specs.declared.ledger.Chart.{Chart}
use Rattle.cfg_model.specs.AccountTables.{AccountKey, account_both_of, account_both_row}
use Rattle.cfg_model.specs.AccountTables.{account_keys_of, by_nature, counts_at, credit_at}
use Rattle.cfg_model.specs.AccountTables.{debit_at, entries_of_unit, has_amount, nature_at, net_at}
use Rattle.cfg_model.specs.AccountTables.{opening_date, range_units, side_amount}
use Rattle.post_model.specs.Scenes.{is_number}
use Rattle.text_reports.specs.TrialBalances.{HasModerateNumbers, IsModerate}

-- ---- numbers within a bound

-- a number lies within a bound either side of zero
record IsWithin (bound : ℕ) (n : ℤ) : Type 0 where
  low : neg_ℤ (pos bound) ≤ℤ n
  high : n ≤ℤ pos bound

-- a number that is not past the largest one
IsWithin-number : (n : ℤ) → is_number n ≡ true → IsWithin largest_units n
IsWithin-number (pos n) is =
    let small = leb-true n largest_units is in
    record { low = omega (arith, ints, small); high = omega (arith, ints, small) }
IsWithin-number (negsuc n) is =
    let small = leb-true (suc n) largest_units is in
    record { low = omega (arith, ints, small); high = omega (arith, ints, small) }

-- one number more of a sum
plus-within : (count : ℕ) (n sum : ℤ) → IsWithin largest_units n
    → IsWithin (count * largest_units) sum
    → IsWithin (suc count * largest_units) (n +ℤ sum)
plus-within count n sum one others = record {
  low = omega (arith, ints, one.low, others.low);
  high = omega (arith, ints, one.high, others.high);
}

-- so many numbers, summed
sum-within : {X : Type 0} (f : X → ℤ) (xs : List X)
    → All (λ x. IsWithin largest_units (f x)) xs
    → IsWithin (length xs * largest_units) (sum_over f xs)
sum-within f [] all = record { low = omega (arith, ints); high = omega (arith, ints) }
sum-within f (x ∷ xs) all =
    plus-within (length xs) (f x) (sum_over f xs)
    (All-head (λ y. IsWithin largest_units (f y)) x xs all)
    (sum-within f xs (All-tail (λ y. IsWithin largest_units (f y)) x xs all))

-- ---- entries

-- an entry's amount is not past the largest number
abbrev pub IsSmall : BookedEntry → Type 0
IsSmall b = is_number b.entry.amount ≡ true

-- few entries, each of a small amount
pub record AreFewSmall (entries : List BookedEntry) : Type 0 where
  pub few : length entries ≤ 8_000_000
  pub small : All IsSmall entries

-- so are those that pass a test
filter-few : (test : BookedEntry → Bool) (entries : List BookedEntry) → AreFewSmall entries
    → AreFewSmall (filter test entries)
filter-few test entries are = record {
  few = omega (
    arith,
    are.few,
    length-filter test entries,
    count_by-le-length test entries,
  );
  small = All-filter test IsSmall entries are.small;
}

-- the most that few numbers come to
abbrev most : ℕ
most = 8_000_000 * largest_units

most-within : (count : ℕ) (n : ℤ) → count ≤ 8_000_000 → IsWithin (count * largest_units) n
    → IsWithin most n
most-within count n few is = record {
  low = omega (arith, ints, few, is.low);
  high = omega (arith, ints, few, is.high);
}

-- the numbers that few small entries add, summed
few-within : (f : BookedEntry → ℤ) → ((b : BookedEntry) → IsSmall b
    → IsWithin largest_units (f b)) → (entries : List BookedEntry) → AreFewSmall entries
    → IsWithin most (sum_over f entries)
few-within f is entries are =
    most-within (length entries) (sum_over f entries) are.few
    (sum-within f entries (λ i d below. is _ (are.small i d below)))

module _ (chart : Chart) (key : AccountKey) where
  -- what a side adds: the amount, or nothing
  side-within : (side : Option Side) (amount : ℤ) → is_number amount ≡ true
      → IsWithin largest_units (side_amount chart key side amount)
  side-within None amount is = record { low = omega (arith, ints); high = omega (arith, ints) }
  side-within (Some side) amount is = at (counts_at chart key side)
    where
      at : (b : Bool) → IsWithin largest_units (cond b amount (pos 0))
      at true = IsWithin-number amount is
      at false = record { low = omega (arith, ints); high = omega (arith, ints) }

  debits-within : (entries : List BookedEntry) → AreFewSmall entries
      → IsWithin most (sum_over (debit_at chart key) entries)
  debits-within = few-within (debit_at chart key)
      (λ b is. side-within b.entry.debit b.entry.amount is)

  credits-within : (entries : List BookedEntry) → AreFewSmall entries
      → IsWithin most (sum_over (credit_at chart key) entries)
  credits-within = few-within (credit_at chart key)
      (λ b is. side-within b.entry.credit b.entry.amount is)

-- ---- rows

minus-within : (m n : ℤ) → IsWithin most m → IsWithin most n → IsWithin (2 * most) (m -ℤ n)
minus-within m n first second = record {
  low = omega (arith, ints, first.low, first.high, second.low, second.high);
  high = omega (arith, ints, first.low, first.high, second.low, second.high);
}

net-within : (chart : Chart) (key : AccountKey) (entries : List BookedEntry)
    → AreFewSmall entries → IsWithin (2 * most) (net_at chart key entries)
net-within chart key entries are =
    minus-within (sum_over (debit_at chart key) entries) (sum_over (credit_at chart key) entries)
    (debits-within chart key entries are) (credits-within chart key entries are)

closing-within : (opening debit credit : ℤ) → IsWithin (2 * most) opening → IsWithin most debit
    → IsWithin most credit → IsWithin (4 * most) (opening +ℤ debit -ℤ credit)
closing-within opening debit credit first second third = record {
  low = omega (
    arith,
    ints,
    first.low,
    first.high,
    second.low,
    second.high,
    third.low,
    third.high,
  );
  high = omega (
    arith,
    ints,
    first.low,
    first.high,
    second.low,
    second.high,
    third.low,
    third.high,
  );
}

-- a number within a moderate bound is moderate, and so is its opposite, and nothing
moderate : (bound : ℕ) (n : ℤ) → bound ≤ 10 ^ 32 → IsWithin bound n → IsModerate n
moderate bound n small is = record {
  low = omega (arith, ints, small, is.low);
  high = omega (arith, ints, small, is.high);
}

opposite : (bound : ℕ) (n : ℤ) → bound ≤ 10 ^ 32 → IsWithin bound n → IsModerate (neg_ℤ n)
opposite bound n small is = record {
  low = omega (arith, ints, small, is.low, is.high);
  high = omega (arith, ints, small, is.low, is.high);
}

nothing : IsModerate (pos 0)
nothing = record { low = omega (arith, ints); high = omega (arith, ints) }

-- a number on the one side or, as its opposite, on the other
abbrev on_side : Bool → ℤ → ℤ × ℤ
on_side debit net = cond debit (net, pos 0) (pos 0, neg_ℤ net)

-- a net as it is shown, as debit and as credit
shown : (nature : Nature) (bound : ℕ) (net : ℤ) → bound ≤ 10 ^ 32 → IsWithin bound net
    → IsModerate (by_nature nature net).0 × IsModerate (by_nature nature net).1
shown Active bound net small is = (moderate bound net small is, nothing)
shown Passive bound net small is = (nothing, opposite bound net small is)
shown Both bound net small is = at (int_lt (pos 0) net)
  where
    at : (b : Bool) → IsModerate (on_side b net).0 × IsModerate (on_side b net).1
    at true = (moderate bound net small is, nothing)
    at false = (nothing, opposite bound net small is)

row-moderate : (chart : Chart) (range : Range) (entries : List BookedEntry) (key : AccountKey)
    (unit : TableUnit) → AreFewSmall entries
    → HasModerateNumbers (account_both_row chart range entries key unit)
row-moderate chart range entries key unit are =
    let opened = net-within chart key
    (entries_within (BeforeDate (opening_date range unit)) entries) (filter-few _ entries are) in
    let moved = filter-few _ (entries_in range entries) (filter-few _ entries are) in
    let debit = debits-within chart key
    (entries_of_unit range.by unit (entries_in range entries)) moved in
    let credit = credits-within chart key
    (entries_of_unit range.by unit (entries_in range entries)) moved in
    let opening = shown (nature_at chart key.account) (2 * most) _ (omega arith) opened in
    let closing = shown (nature_at chart key.account) (4 * most) _ (omega arith)
    (closing-within _ _ _ opened debit credit) in
    record {
      open_dr = opening.0;
      open_cr = opening.1;
      turn_dr = moderate most _ (omega arith) debit;
      turn_cr = moderate most _ (omega arith) credit;
      close_dr = closing.0;
      close_cr = closing.1;
    }

-- what each row has, all have that are made of keys and units
All-rows : {K U R : Type 0} (P : R → Type 0) (row : K → U → R) (units : List U) (keys : List K)
    → ((key : K) (unit : U) → P (row key unit)) → All P (flat_map (λ k. map (row k) units) keys)
All-rows P row units [] is = All-nil P
All-rows P row units (key ∷ keys) is =
    All-append P (map (row key) units) (flat_map (λ k. map (row k) units) keys)
    (All-map P (row key) units (λ i d below. is key _)) (All-rows P row units keys is)

-- the numbers of a table over few small entries are moderate
pub table-moderate : (chart : Chart) (entries : List BookedEntry) (account : Option (List ℕ))
    (extras : Bool) (range : Range) → AreFewSmall entries
    → All HasModerateNumbers (account_both_of chart entries account extras range)
unfolding account_both_of
table-moderate chart entries account extras range are =
    All-filter has_amount HasModerateNumbers
    (flat_map (λ p. map (account_both_row chart range entries p) (range_units range))
    (account_keys_of chart account extras entries))
    (All-rows HasModerateNumbers (account_both_row chart range entries) (range_units range)
    (account_keys_of chart account extras entries)
    (λ key unit. row-moderate chart range entries key unit are))
