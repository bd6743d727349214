-- Tables of accounts: balances, turnovers, both, and the pairs of accounts that entries join.
use Rattle.std.specs.Prelude.{ℕ, ℤ, pos, neg_ℤ, ◌+ℤ◌, ◌-ℤ◌, int_lt, Bool, true, false, ◌&&◌, ◌||◌}
use Rattle.std.specs.Prelude.{not, max, if◌then◌else◌, Option, Some, None, unwrap_or, is_none, List}
use Rattle.std.specs.Prelude.{[], ◌∷◌, ◌++◌, length, map, filter}
use Rattle.std.specs.List.{flat_map}
use Rattle.std.specs.Ordering.{nat_cmp, ordering_then, is_eq, int_eq}
use Rattle.std.specs.Cmp.Lexicographic.{slice_cmp}
use Rattle.std.specs.Str.{bytes_eq}
use Rattle.std.specs.declared.cmp.Ordering.{Ordering}
use Rattle.std.specs.declared.cmp.Ordering.TheVariants.{Less, Equal, Greater}
use Rattle.reg_base.specs.declared.cut.Cut.{Cut}
use Rattle.reg_base.specs.declared.cut.Cut.TheVariants.{BeforeDate}
use Rattle.reg_base.specs.declared.records.Side.{Side}
use Rattle.reg_base.specs.declared.tables.Periodicity.{Periodicity}
use Rattle.reg_base.specs.declared.tables.Periodicity.TheVariants.{Period}
use Rattle.reg_base.specs.declared.tables.Unit.{Unit}
use Rattle.reg_base.specs.declared.tables.Unit.TheVariants.{Whole, Start, At, Line}
use Rattle.reg_base.specs.declared.tables.Range.{Range}
use Rattle.reg_base.specs.declared.tables.AccountRow.{AccountRow}
use Rattle.reg_base.specs.declared.tables.PairRow.{PairRow}
use Rattle.reg_base.specs.BookedEntries.{BookedEntry, entries_within, entries_in}
use Rattle.reg_base.specs.Sums.{sum_over, in_order_once, has_number}
use Rattle.reg_base.specs.Units.{starts_between}
use Rattle.reg_base.specs.Turnovers.{unit_cmp, unit_of_date}
use Rattle.cfg_model.specs.declared.ledger.Chart.{Chart}
use Rattle.cfg_model.specs.declared.account.Account.{Account}
use Rattle.cfg_model.specs.declared.account.Nature.{Nature}
use Rattle.cfg_model.specs.declared.account.Nature.TheVariants.{Active, Passive, Both}
use Rattle.cfg_model.specs.Places.{account_at}
use Rattle.cfg_model.specs.Accounts.{leads_to, parent_of}

-- whether an account is this one or stands below it
abbrev pub is_at_or_below : Chart → List ℕ → List ℕ → Bool
is_at_or_below chart top code = bytes_eq top code
    || leads_to (length chart.accounts) chart.accounts top (parent_of chart.accounts code)

-- the account that is asked for and those below it, or all accounts
abbrev pub is_asked : Chart → Option (List ℕ) → List ℕ → Bool
is_asked chart None code = true
is_asked chart (Some top) code = is_at_or_below chart top code

-- an account, with extras where rows are told apart by them
pub record AccountKey : Type 0 where
  pub account : List ℕ
  pub extras : Option (List (List ℕ))

-- whether an entry's side counts under a key: at each account at or above its own, or at its own
-- account with its own extras
abbrev pub counts_at : Chart → AccountKey → Side → Bool
counts_at chart key side = of_extras key.extras
  where
    of_extras : Option (List (List ℕ)) → Bool
    of_extras None = is_at_or_below chart key.account side.account
    of_extras (Some extras) = bytes_eq side.account key.account
        && is_eq (slice_cmp (slice_cmp nat_cmp) side.extras extras)

-- the amount where the side is there and counts under the key
abbrev pub side_amount : Chart → AccountKey → Option Side → ℤ → ℤ
side_amount chart key None amount = pos 0
side_amount chart key (Some side) amount = if counts_at chart key side then amount else pos 0

-- what an entry adds to the debit of a key
abbrev pub debit_at : Chart → AccountKey → BookedEntry → ℤ
debit_at chart key b = side_amount chart key b.entry.debit b.entry.amount

-- what an entry adds to the credit of a key
abbrev pub credit_at : Chart → AccountKey → BookedEntry → ℤ
credit_at chart key b = side_amount chart key b.entry.credit b.entry.amount

-- debit minus credit of an account key over entries
abbrev pub net_at : Chart → AccountKey → List BookedEntry → ℤ
net_at chart key entries =
    sum_over (debit_at chart key) entries -ℤ sum_over (credit_at chart key) entries

-- how an account shows its net, as debit and as credit: an active one as debit, a passive one the
-- opposite number as credit, one of both kinds on the side where it is not below zero
abbrev pub by_nature : Nature → ℤ → ℤ × ℤ
by_nature Active net = (net, pos 0)
by_nature Passive net = (pos 0, neg_ℤ net)
by_nature Both net = if int_lt (pos 0) net then (net, pos 0) else (pos 0, neg_ℤ net)

-- the nature of the account of this code
abbrev pub nature_at : Chart → List ℕ → Nature
nature_at chart code = nature_or (account_at code chart.accounts)
  where
    nature_or : Option Account → Nature
    nature_or None = Both
    nature_or (Some a) = a.nature

-- the entries of a unit
abbrev pub entries_of_unit : Periodicity → Unit → List BookedEntry → List BookedEntry
entries_of_unit by unit entries =
    filter (λ b. is_eq (unit_cmp (unit_of_date by b.entry.period) unit)) entries

-- the date before which the opening of a unit counts: the later of range start and unit start
abbrev pub opening_date : Range → Unit → ℕ
opening_date range Whole = range.from
opening_date range (Start d) = max range.from d
opening_date range (At p) = max range.from p.date
opening_date range (Line p l) = max range.from p.date

-- the account and the extras of a side
abbrev pub keys_of_side : Option Side → List AccountKey
keys_of_side None = []
keys_of_side (Some side) = record { account = side.account; extras = Some side.extras } ∷ []

-- the accounts and the extras of both sides of an entry
abbrev pub keys_of_entry : BookedEntry → List AccountKey
keys_of_entry b = keys_of_side b.entry.debit ++ keys_of_side b.entry.credit

-- keys are in order of account, then extras
abbrev pub account_key_cmp : AccountKey → AccountKey → Ordering
account_key_cmp a b = ordering_then (slice_cmp nat_cmp a.account b.account)
    (slice_cmp (slice_cmp nat_cmp) (unwrap_or a.extras []) (unwrap_or b.extras []))

-- the keys that rows are about: each account, or each account and extras that an entry has, of
-- the account that is asked for and those below it
abbrev pub account_keys_of : Chart → Option (List ℕ) → Bool → List BookedEntry → List AccountKey
account_keys_of chart account false entries =
    filter (λ p. is_asked chart account p.account)
    (map (λ a. record { account = a.code; extras = None }) chart.accounts)
account_keys_of chart account true entries =
    filter (λ p. is_asked chart account p.account)
    (in_order_once account_key_cmp (flat_map keys_of_entry entries))

-- all units of a range: the whole, or each from that of its first date to that of its last
abbrev pub range_units : Range → List Unit
range_units range = of_periodicity range.by
  where
    of_periodicity : Periodicity → List Unit
    of_periodicity Period = Whole ∷ []
    of_periodicity by = map Start (starts_between by range.from range.to)

-- whether some number of a row is not zero
abbrev pub has_amount : AccountRow → Bool
has_amount row = has_number
    (row.open_dr ∷ row.open_cr ∷ row.turn_dr ∷ row.turn_cr ∷ row.close_dr ∷ row.close_cr ∷ [])

-- a row of a key and a unit, with its opening and its closing as they are shown
abbrev pub account_row : AccountKey → Unit → ℤ × ℤ → ℤ → ℤ → ℤ × ℤ → AccountRow
account_row key unit opening debit credit closing = record {
  account = key.account;
  extras = unwrap_or key.extras [];
  unit = unit;
  open_dr = opening.0;
  open_cr = opening.1;
  turn_dr = debit;
  turn_cr = credit;
  close_dr = closing.0;
  close_cr = closing.1;
}

-- no balance
abbrev pub no_balance : ℤ × ℤ
no_balance = (pos 0, pos 0)

-- the balance of an account key over the entries inside the cut
abbrev pub balance_row : Chart → List BookedEntry → AccountKey → AccountRow
balance_row chart entries key = account_row key Whole no_balance (pos 0) (pos 0)
    (by_nature (nature_at chart key.account) (net_at chart key entries))

-- the balances of accounts, where the entries are those inside the cut
unfoldable pub balance_rows : Chart → Option (List ℕ) → Bool → List BookedEntry → List AccountRow
balance_rows chart account extras entries =
    filter has_amount
    (map (balance_row chart entries) (account_keys_of chart account extras entries))

-- the balances of accounts at a cut
abbrev pub account_balance_of : Chart → List BookedEntry → Option (List ℕ) → Bool → Cut
    → List AccountRow
account_balance_of chart entries account extras cut =
    balance_rows chart account extras (entries_within cut entries)

-- the turnovers of a key in a unit, over the entries in the range
abbrev pub account_turnover_row : Chart → Periodicity → List BookedEntry → AccountKey → Unit
    → AccountRow
account_turnover_row chart by entries key unit = account_row key unit no_balance
    (sum_over (debit_at chart key) (entries_of_unit by unit entries))
    (sum_over (credit_at chart key) (entries_of_unit by unit entries)) no_balance

-- the turnovers of accounts, where the entries are those in the range
unfoldable pub account_turnover_rows : Chart → Option (List ℕ) → Bool → Range → List BookedEntry
    → List AccountRow
account_turnover_rows chart account extras range entries = filter has_amount
    (flat_map (λ p. map (account_turnover_row chart range.by entries p) (range_units range))
    (account_keys_of chart account extras entries))

-- the turnovers of accounts, a row per key and unit
abbrev pub account_turnovers_of : Chart → List BookedEntry → Option (List ℕ) → Bool → Range
    → List AccountRow
account_turnovers_of chart entries account extras range =
    account_turnover_rows chart account extras range (entries_in range entries)

-- a row of turnovers with its opening, a net, and its closing, which is opening plus debit turnover
-- minus credit turnover, both as they are shown
abbrev pub with_nets : Nature → ℤ → AccountRow → AccountRow
with_nets nature opening row = record row {
  open_dr = (by_nature nature opening).0;
  open_cr = (by_nature nature opening).1;
  close_dr = (by_nature nature (opening +ℤ row.turn_dr -ℤ row.turn_cr)).0;
  close_cr = (by_nature nature (opening +ℤ row.turn_dr -ℤ row.turn_cr)).1;
}

-- balances and turnovers of a key in a unit, over all entries
abbrev pub account_both_row : Chart → Range → List BookedEntry → AccountKey → Unit → AccountRow
account_both_row chart range entries key unit = with_nets (nature_at chart key.account)
    (net_at chart key (entries_within (BeforeDate (opening_date range unit)) entries))
    (account_turnover_row chart range.by (entries_in range entries) key unit)

-- balances and turnovers of accounts, a row per key and unit
unfoldable pub account_both_of : Chart → List BookedEntry → Option (List ℕ) → Bool → Range
    → List AccountRow
account_both_of chart entries account extras range = filter has_amount
    (flat_map (λ p. map (account_both_row chart range entries p) (range_units range))
    (account_keys_of chart account extras entries))

-- the accounts of an entry, its debit and its credit
pub record Pair : Type 0 where
  pub debit : Option (List ℕ)
  pub credit : Option (List ℕ)

-- the account of a side, where it is there
abbrev pub account_of_side : Option Side → Option (List ℕ)
account_of_side None = None
account_of_side (Some side) = Some side.account

-- the pair of accounts of an entry
abbrev pub pair_of : BookedEntry → Pair
pair_of b = record {
  debit = account_of_side b.entry.debit;
  credit = account_of_side b.entry.credit;
}

-- an absent account stands before all others
abbrev pub absent_first : Option (List ℕ) → Option (List ℕ) → Ordering
absent_first None None = Equal
absent_first None (Some b) = Less
absent_first (Some a) None = Greater
absent_first (Some a) (Some b) = slice_cmp nat_cmp a b

-- pairs are in order of debit, then credit
abbrev pub pair_cmp : Pair → Pair → Ordering
pair_cmp p q = ordering_then (absent_first p.debit q.debit) (absent_first p.credit q.credit)

-- whether an account is there and is asked for
abbrev pub has_asked : Chart → Option (List ℕ) → Option (List ℕ) → Bool
has_asked chart asked None = is_none asked
has_asked chart asked (Some code) = is_asked chart asked code

-- whether either account of a pair is the one asked for or stands below it
abbrev pub joins_asked : Chart → Option (List ℕ) → Pair → Bool
joins_asked chart asked pair = has_asked chart asked pair.debit || has_asked chart asked pair.credit

-- the row of a pair: the sum of its entries
abbrev pub pair_row : List BookedEntry → Pair → PairRow
pair_row entries pair = record {
  debit = pair.debit;
  credit = pair.credit;
  amount = sum_over
      (λ b. if is_eq (pair_cmp (pair_of b) pair) then b.entry.amount else pos 0) entries;
}

-- the sums by pairs of accounts, where the entries are those in the range
unfoldable pub pair_rows : Chart → Option (List ℕ) → List BookedEntry → List PairRow
pair_rows chart account entries = filter (λ row. not (int_eq row.amount (pos 0)))
    (map (pair_row entries)
    (filter (joins_asked chart account) (in_order_once pair_cmp (map pair_of entries))))

-- the sums of the entries in the range by their pairs of accounts
abbrev pub dr_cr_of : Chart → List BookedEntry → Option (List ℕ) → Range → List PairRow
dr_cr_of chart entries account range = pair_rows chart account (entries_in range entries)
