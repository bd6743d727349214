-- Each row of balances and turnovers of accounts balances.
use Rattle.std.proofs.Common.{◌≡◌, ℤ, pos, ◌+ℤ◌, ◌-ℤ◌, neg_ℤ, int_lt, Bool, true, false, cond, List}
use Rattle.std.proofs.Common.{[], ◌∷◌, map, arith}
use Rattle.std.specs.List.{flat_map, All}
use Rattle.std.proofs.lemmas.Int.{ints}
use Rattle.std.proofs.lemmas.List.Elements.{All-filter, All-map, All-append, All-nil}
use Rattle.reg_base.specs.declared.cut.Cut.TheVariants.{BeforeDate}
use Rattle.reg_base.specs.declared.tables.Unit.{Unit as TableUnit}
use Rattle.reg_base.specs.declared.tables.AccountRow.{AccountRow}
use Rattle.reg_base.specs.BookedEntries.{entries_within, entries_in}
use Rattle.cfg_model.specs.declared.account.Nature.{Nature}
use Rattle.cfg_model.specs.declared.account.Nature.TheVariants.{Active, Passive, Both}
use Rattle.cfg_model.specs.AccountTables.{AccountKey, by_nature, account_both_of, account_both_row}
use Rattle.cfg_model.specs.AccountTables.{has_amount, account_keys_of, account_turnover_row}
use Rattle.cfg_model.specs.AccountTables.{opening_date, range_units, with_nets, nature_at, net_at}
use Rattle.cfg_model.specs.LedgerLaws.{Balances, EachBalances}

-- the two sides that an account shows make its net
by_nature-net : (nature : Nature) (net : ℤ)
    → (by_nature nature net).0 -ℤ (by_nature nature net).1 ≡ net
by_nature-net Active net = omega (arith, ints)
by_nature-net Passive net = omega (arith, ints)
by_nature-net Both net = at (int_lt (pos 0) net)
  where
    at : (above : Bool) → (cond {A = ℤ × ℤ} above (net, pos 0) (pos 0, neg_ℤ net)).0
        -ℤ (cond {A = ℤ × ℤ} above (net, pos 0) (pos 0, neg_ℤ net)).1 ≡ net
    at true = omega (arith, ints)
    at false = omega (arith, ints)

-- a row with its nets balances
with_nets-balances : (nature : Nature) (opening : ℤ) (row : AccountRow)
    → Balances (with_nets nature opening row)
with_nets-balances nature opening row =
    let before = by_nature-net nature opening in
    let after = by_nature-net nature (opening +ℤ row.turn_dr -ℤ row.turn_cr) in
    omega (arith, ints, before, after)

-- what holds of each row made holds of the rows of all keys and units
All-rows : (P : AccountRow → Type 0) (f : AccountKey → TableUnit → AccountRow)
    (units : List TableUnit) (keys : List AccountKey)
    → ((k : AccountKey) (u : TableUnit) → P (f k u)) → All P (flat_map (λ k. map (f k) units) keys)
All-rows P f units [] h = All-nil P
All-rows P f units (k ∷ ks) h =
    All-append P (map (f k) units) (flat_map (λ q. map (f q) units) ks)
    (All-map P (f k) units (λ n d lt. h k _)) (All-rows P f units ks h)

pub each_balances : EachBalances
unfolding account_both_of
each_balances chart entries account extras range =
    let keys : List AccountKey = account_keys_of chart account extras entries in
    let row = account_both_row chart range entries in
    let opening : AccountKey → TableUnit → ℤ = λ k u.
    net_at chart k (entries_within (BeforeDate (opening_date range u)) entries) in
    All-filter has_amount Balances (flat_map (λ k. map (row k) (range_units range)) keys)
    (All-rows Balances row (range_units range) keys
    (λ k u. with_nets-balances (nature_at chart k.account) (opening k u)
    (account_turnover_row chart range.by (entries_in range entries) k u)))
