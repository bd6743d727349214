-- Private: nets of accounts over the sums of a cut, and the rows that show them.
use Rattle.std.specs.Prelude.{ℕ, ◌+◌, ℤ, pos, ◌-ℤ◌, if◌then◌else◌, not, Bool, true, false}
use Rattle.std.specs.Prelude.{Option, Some, None, List, [], ◌∷◌}
use Rattle.std.specs.List.{flat_map}
use Rattle.std.specs.Ordering.{int_eq}
use Rattle.reg_base.specs.declared.tables.AccountRow.{AccountRow}
use Rattle.reg_base.specs.declared.tables.Unit.TheVariants.{Whole}
use Rattle.reg_base.specs.Sums.{sum_over}
use Rattle.cfg_model.specs.declared.ledger.Chart.{Chart}
use Rattle.cfg_model.specs.declared.account.Account.{Account}
use Rattle.cfg_model.specs.declared.account.Nature.{Nature}
use Rattle.cfg_model.specs.AccountTables.{AccountKey, is_at_or_below, is_asked, by_nature}
use Rattle.cfg_model.specs.AccountTables.{nature_at, account_row, no_balance}
use Rattle.ledger_reg.specs.declared.sides.AccountSum.{AccountSum}
use Rattle.ledger_reg.specs.Sizes.{size_of}

-- debit minus credit
abbrev pub net_of : AccountSum → ℤ
net_of s = s.debit -ℤ s.credit

-- what sums add to a net: their own, where they count
abbrev pub counted : Bool → AccountSum → ℤ
counted counts s = if counts then net_of s else pos 0

-- the net of an account and those below it
abbrev pub net_below : Chart → List ℕ → List AccountSum → ℤ
net_below chart top sums =
    sum_over (λ s. counted (is_at_or_below chart top s.account) s) sums

-- how large the sums of one account are
abbrev pub sum_size : AccountSum → ℕ
sum_size s = size_of s.debit + size_of s.credit

-- how large sums are, all together
abbrev pub sums_size : List AccountSum → ℕ
sums_size [] = 0
sums_size (s ∷ ss) = sum_size s + sums_size ss

-- the row that shows a net as an account of this nature does
abbrev pub net_row : AccountKey → Nature → ℤ → AccountRow
net_row key nature net =
    account_row key Whole no_balance (pos 0) (pos 0) (by_nature nature net)

-- the row of a net, where it is not 0
abbrev pub net_rows : Chart → AccountKey → ℤ → List AccountRow
net_rows chart key net = if not (int_eq net (pos 0))
    then net_row key (nature_at chart key.account) net ∷ []
    else []

-- an account without extras
abbrev pub whole_key : Account → AccountKey
whole_key a = record { account = a.code; extras = None }

-- the row of an account with those below it, where it is asked for
abbrev pub whole_row : Chart → Option (List ℕ) → List AccountSum → Account → List AccountRow
whole_row chart asked sums a = if is_asked chart asked a.code
    then net_rows chart (whole_key a) (net_below chart a.code sums)
    else []

-- an account with the extras of its sums
abbrev pub place_key : AccountSum → AccountKey
place_key s = record { account = s.account; extras = Some s.extras }

-- the row of an account with extras, where it is asked for
abbrev pub place_row : Chart → Option (List ℕ) → AccountSum → List AccountRow
place_row chart asked s = if is_asked chart asked s.account
    then net_rows chart (place_key s) (net_of s)
    else []

-- the rows of the balances that sums make
abbrev pub shown_balances : Chart → Option (List ℕ) → Bool → List AccountSum → List AccountRow
shown_balances chart asked false sums = flat_map (whole_row chart asked sums) chart.accounts
shown_balances chart asked true sums = flat_map (place_row chart asked) sums
