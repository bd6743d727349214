-- Debits equal credits in each unit of the turnovers of accounts.
use Rattle.std.proofs.Common.{◌≡◌, ℤ, pos, Bool, true, false, not, ◌&&◌, ◌||◌, cond, None, List, []}
use Rattle.std.proofs.Common.{◌∷◌, map, refl, ap, ◌∙◌, sym}
use Rattle.std.specs.List.{filter, flat_map, All}
use Rattle.std.specs.Ordering.{is_eq, int_eq}
use Rattle.std.proofs.lemmas.Bool.Decides.{Decides-int_eq}
use Rattle.std.proofs.lemmas.List.Elements.{All-filter}
use Rattle.reg_base.specs.declared.tables.Unit.{Unit as TableUnit}
use Rattle.reg_base.specs.declared.tables.Range.{Range}
use Rattle.reg_base.specs.declared.tables.AccountRow.{AccountRow}
use Rattle.reg_base.specs.BookedEntries.{BookedEntry, entries_in}
use Rattle.reg_base.specs.Sums.{sum_over}
use Rattle.reg_base.specs.Turnovers.{unit_cmp, unit_of_date}
use Rattle.cfg_model.specs.declared.ledger.Chart.{Chart}
use Rattle.cfg_model.specs.declared.account.Account.{Account}
use Rattle.cfg_model.specs.Resolving.{HasAccountsInOrder}
use Rattle.cfg_model.specs.AccountTables.{AccountKey, debit_at, credit_at, has_amount, range_units}
use Rattle.cfg_model.specs.AccountTables.{entries_of_unit, account_keys_of, account_turnover_row}
use Rattle.cfg_model.specs.AccountTables.{account_turnover_rows}
use Rattle.cfg_model.specs.LedgerLaws.{IsAcceptedEntry, is_on_balance_leaf, on_balance}
use Rattle.cfg_model.specs.LedgerLaws.{LedgerBalances}
use Rattle.cfg_model.proofs.SumLemmas.{sum_over-same, sum_over-map, sum_over-rows, sum_over-filter}
use Rattle.cfg_model.proofs.SumLemmas.{sum_over-swap, sum_over-zeros}
use Rattle.cfg_model.proofs.LeafLemmas.{whole, on_leaves, leaves-balance, or-first, or-second}

filter-all : {X : Type 0} (xs : List X) → filter (λ x. true) xs ≡ xs
filter-all [] = refl
filter-all (x ∷ xs) = ap (λ t. x ∷ t) (filter-all xs)

gate-true : (p : Bool) (x : ℤ) → cond (p && true) x (pos 0) ≡ cond p x (pos 0)
gate-true true x = refl
gate-true false x = refl

gate-false : (p : Bool) (x : ℤ) → cond (p && false) x (pos 0) ≡ pos 0
gate-false true x = refl
gate-false false x = refl

-- a test that does not look at the account may be made once
gate-sum : (w : Bool) (p : Account → Bool) (x : Account → ℤ) (accounts : List Account)
    → sum_over (λ a. cond (p a && w) (x a) (pos 0)) accounts
    ≡ cond w (sum_over (λ a. cond (p a) (x a) (pos 0)) accounts) (pos 0)
gate-sum true p x accounts =
    sum_over-same (λ a. cond (p a && true) (x a) (pos 0)) (λ a. cond (p a) (x a) (pos 0))
    (λ a. gate-true (p a) (x a)) accounts
gate-sum false p x accounts =
    sum_over-zeros accounts (λ a. cond (p a && false) (x a) (pos 0)) (λ a. gate-false (p a) (x a))

-- a number that is not told from zero is zero
is_zero : (n : ℤ) → not (int_eq n (pos 0)) ≡ false → n ≡ pos 0
is_zero n h = at (int_eq n (pos 0)) refl
  where
    at : (b : Bool) → int_eq n (pos 0) ≡ b → n ≡ pos 0
    at true e = (Decides-int_eq n (pos 0)).0 e
    at false e = (Decides-int_eq n (pos 0)).0 (e ∙ sym (sym (ap not e) ∙ h))

-- whether a number is not zero
test : ℤ → Bool
test n = not (int_eq n (pos 0))

-- of six numbers none is told from zero, so the third and the fourth are zero
middle : (a b c d e f : ℤ)
    → (test a || (test b || (test c || (test d || (test e || (test f || false)))))) ≡ false
    → (c ≡ pos 0) × (d ≡ pos 0)
unfolding test
middle a b c d e f h =
    let fifth : Bool = test e || (test f || false) in
    let fourth : Bool = test d || fifth in
    let third : Bool = test c || fourth in
    let rest = or-second (test b) third (or-second (test a) (test b || third) h) in (
      is_zero c (or-first (test c) fourth rest),
      is_zero d (or-first (test d) fifth (or-second (test c) fourth rest)),
    )

turnovers_zero : (row : AccountRow) → has_amount row ≡ false
    → (row.turn_dr ≡ pos 0) × (row.turn_cr ≡ pos 0)
unfolding test
turnovers_zero row h =
    middle row.open_dr row.open_cr row.turn_dr row.turn_cr row.close_dr row.close_cr h

cond-zero_of : (b : Bool) (x : ℤ) → x ≡ pos 0 → cond b x (pos 0) ≡ pos 0
cond-zero_of true x h = h
cond-zero_of false x h = refl

module _ (chart : Chart) (range : Range) (es : List BookedEntry) (unit : TableUnit) where
  -- what the leaves have in each unit
  by_units : (AccountKey → BookedEntry → ℤ) → ℤ
  by_units side = sum_over (λ u. cond (is_eq (unit_cmp u unit))
      (on_leaves chart side (entries_of_unit range.by u es)) (pos 0)) (range_units range)

  module _ (number : AccountRow → ℤ) (side : AccountKey → BookedEntry → ℤ)
      (zero : (row : AccountRow) → has_amount row ≡ false → number row ≡ pos 0)
      (reads : (k : AccountKey) (u : TableUnit) → number
      (account_turnover_row chart range.by es k u)
      ≡ sum_over (side k) (entries_of_unit range.by u es)) where
    abbrev row : AccountKey → TableUnit → AccountRow
    row = account_turnover_row chart range.by es

    abbrev part : AccountRow → ℤ
    part = on_balance chart unit number

    -- what the rows of a unit add
    in_unit : (u : TableUnit)
        → sum_over (λ (a : Account). part (row (whole a.code) u)) chart.accounts
        ≡ cond (is_eq (unit_cmp u unit))
        (on_leaves chart side (entries_of_unit range.by u es)) (pos 0)
    in_unit u =
        gate-sum (is_eq (unit_cmp u unit)) (λ a. is_on_balance_leaf chart a.code)
        (λ a. number (row (whole a.code) u)) chart.accounts
        ∙ ap (λ t. cond (is_eq (unit_cmp u unit)) t (pos 0))
        (sum_over-same
        (λ a. cond (is_on_balance_leaf chart a.code) (number (row (whole a.code) u)) (pos 0))
        (λ a. cond (is_on_balance_leaf chart a.code)
        (sum_over (side (whole a.code)) (entries_of_unit range.by u es)) (pos 0))
        (λ a. ap (λ t. cond (is_on_balance_leaf chart a.code) t (pos 0)) (reads (whole a.code) u))
        chart.accounts)

    rows-sum : sum_over part (account_turnover_rows chart None false range es) ≡ by_units side
    unfolding account_turnover_rows by_units
    rows-sum =
        sum_over-filter part has_amount
        (λ r h. cond-zero_of (is_on_balance_leaf chart r.account && is_eq (unit_cmp r.unit unit))
        (number r) (zero r h))
        (flat_map (λ k. map (row k) (range_units range)) (account_keys_of chart None false es))
        ∙ sum_over-rows part row (range_units range) (account_keys_of chart None false es)
        ∙ ap (sum_over (λ k. sum_over (λ u. part (row k u)) (range_units range)))
        (filter-all (map (λ (a : Account). whole a.code) chart.accounts))
        ∙ sum_over-map (λ k. sum_over (λ u. part (row k u)) (range_units range))
        (λ (a : Account). whole a.code) chart.accounts
        ∙ sum_over-swap (λ (a : Account) (u : TableUnit). part (row (whole a.code) u))
        chart.accounts (range_units range)
        ∙ sum_over-same
        (λ u. sum_over (λ (a : Account). part (row (whole a.code) u)) chart.accounts)
        (λ u. cond (is_eq (unit_cmp u unit))
        (on_leaves chart side (entries_of_unit range.by u es)) (pos 0)) in_unit (range_units range)

  sides-same : HasAccountsInOrder chart → All (IsAcceptedEntry chart) es
      → by_units (debit_at chart) ≡ by_units (credit_at chart)
  unfolding by_units
  sides-same sorted h = sum_over-same _ _
      (λ u. ap (λ t. cond (is_eq (unit_cmp u unit)) t (pos 0))
      (leaves-balance chart sorted (entries_of_unit range.by u es)
      (All-filter (λ b. is_eq (unit_cmp (unit_of_date range.by b.entry.period) u))
      (IsAcceptedEntry chart) es h))) (range_units range)

pub ledger_balances : LedgerBalances
ledger_balances chart sorted entries range h unit =
    let es : List BookedEntry = entries_in range entries in
    rows-sum chart range es unit (λ r. r.turn_dr) (debit_at chart)
    (λ r k. (turnovers_zero r k).0) (λ k u. refl)
    ∙ sides-same chart range es unit sorted (All-filter _ (IsAcceptedEntry chart) entries h)
    ∙ sym (rows-sum chart range es unit (λ r. r.turn_cr) (credit_at chart)
    (λ r k. (turnovers_zero r k).1) (λ k u. refl))
