-- Laws of the tables of accounts: what each row balances, and debits that equal credits.
use Rattle.std.specs.Prelude.{◌≡◌, ℕ, ℤ, pos, ◌+ℤ◌, ◌-ℤ◌, Bool, false, ◌&&◌, not, if◌then◌else◌}
use Rattle.std.specs.Prelude.{Option, None, is_some, List, Ok}
use Rattle.std.specs.List.{list_any, All}
use Rattle.std.specs.Ordering.{is_eq}
use Rattle.reg_base.specs.declared.tables.Unit.{Unit as TableUnit}
use Rattle.reg_base.specs.declared.tables.Range.{Range}
use Rattle.reg_base.specs.declared.tables.AccountRow.{AccountRow}
use Rattle.reg_base.specs.BookedEntries.{BookedEntry}
use Rattle.reg_base.specs.Sums.{sum_over}
use Rattle.reg_base.specs.Turnovers.{unit_cmp}
use Rattle.cfg_model.specs.declared.ledger.Chart.{Chart}
use Rattle.cfg_model.specs.Places.{account_at}
use Rattle.cfg_model.specs.Resolving.{HasAccountsInOrder}
use Rattle.cfg_model.specs.Entries.{is_parent, is_off, entry_check}
use Rattle.cfg_model.specs.AccountTables.{account_both_of, account_turnovers_of}

-- opening net plus debit turnover minus credit turnover is the closing net, on whichever sides the
-- account shows them
abbrev pub Balances : AccountRow → Type 0
Balances row = (row.open_dr -ℤ row.open_cr) +ℤ (row.turn_dr -ℤ row.turn_cr)
    ≡ row.close_dr -ℤ row.close_cr

-- each row of balances and turnovers of accounts balances
abbrev pub EachBalances : Type 0
EachBalances = (chart : Chart) (entries : List BookedEntry) (account : Option (List ℕ))
    (extras : Bool) (range : Range)
    → All Balances (account_both_of chart entries account extras range)

-- the chart accepts an entry
abbrev pub IsAcceptedEntry : Chart → BookedEntry → Type 0
IsAcceptedEntry chart b = entry_check chart b.entry.debit b.entry.credit ≡ Ok tt

-- whether the account of this code is a leaf that is not off-balance
abbrev pub is_on_balance_leaf : Chart → List ℕ → Bool
is_on_balance_leaf chart code = not (list_any (is_parent code) chart.accounts)
    && (is_some (account_at code chart.accounts) && not (is_off (account_at code chart.accounts)))

-- what a row adds to the sums of a unit over the leaves that are not off-balance
abbrev pub on_balance : Chart → TableUnit → (AccountRow → ℤ) → AccountRow → ℤ
on_balance chart unit number row =
    if is_on_balance_leaf chart row.account && is_eq (unit_cmp row.unit unit) then number row
    else pos 0

-- in each unit the debit turnovers of the leaves that are not off-balance have the sum of their
-- credit turnovers
abbrev pub DebitsEqualCredits : Chart → List AccountRow → Type 0
DebitsEqualCredits chart rows = (unit : TableUnit)
    → sum_over (on_balance chart unit (λ r. r.turn_dr)) rows
    ≡ sum_over (on_balance chart unit (λ r. r.turn_cr)) rows

-- so it is in the turnovers of all accounts, for every range, where the chart accepts each entry
abbrev pub LedgerBalances : Type 0
LedgerBalances = (chart : Chart) → HasAccountsInOrder chart
    → (entries : List BookedEntry) (range : Range) → All (IsAcceptedEntry chart) entries
    → DebitsEqualCredits chart (account_turnovers_of chart entries None false range)
