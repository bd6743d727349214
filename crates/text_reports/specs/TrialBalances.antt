-- The trial balance of a ledger: what each account opens with, what moves and what it closes with.
use Rattle.std.specs.Prelude.{ℕ, ℤ, pos, neg_ℤ, ◌≤ℤ◌, ◌^◌, Option, Some, None, List, [], ◌∷◌}
use Rattle.std.specs.Prelude.{◌++◌, map, filter, codes}
use Rattle.reg_base.specs.declared.tables.AccountRow.{AccountRow}
use Rattle.reg_base.specs.Sums.{sum_over}
use Rattle.cfg_model.specs.declared.account.Account.{Account}
use Rattle.cfg_model.specs.declared.ledger.Chart.{Chart}
use Rattle.cfg_model.specs.Places.{account_at}
use Rattle.cfg_model.specs.LedgerLaws.{is_on_balance_leaf}
use Rattle.text_reports.specs.declared.table.Column.{Column}
use Rattle.text_reports.specs.Tables.{left_in, right_in, report_text}
use Rattle.text_reports.specs.ShownValues.{shown_numbers}

-- account, name, and six numbers
abbrev pub trial_columns : List Column
trial_columns = left_in 8 ∷ left_in 12 ∷ right_in 12 ∷ right_in 12 ∷ right_in 12 ∷ right_in 12
    ∷ right_in 12 ∷ right_in 12 ∷ []

-- the words over them
abbrev pub trial_header : List (List ℕ)
trial_header = codes "account" ∷ codes "name" ∷ codes "open dr" ∷ codes "open cr"
    ∷ codes "turn dr" ∷ codes "turn cr" ∷ codes "close dr" ∷ codes "close cr" ∷ []

-- the name of an account; one that the chart does not have has none
abbrev pub shown_name : Option Account → List ℕ
shown_name None = []
shown_name (Some account) = account.name

-- the numbers of a row
abbrev pub trial_numbers : AccountRow → List ℤ
trial_numbers row = row.open_dr ∷ row.open_cr ∷ row.turn_dr ∷ row.turn_cr ∷ row.close_dr
    ∷ row.close_cr ∷ []

-- the line of an account
abbrev pub trial_line : Chart → AccountRow → List (List ℕ)
trial_line chart row = row.account ∷ shown_name (account_at row.account chart.accounts)
    ∷ shown_numbers chart.scale (trial_numbers row)

-- the rows of the leaves that are not off-balance
abbrev pub leaf_rows : Chart → List AccountRow → List AccountRow
leaf_rows chart rows = filter (λ row. is_on_balance_leaf chart row.account) rows

-- the sums of each number of rows
abbrev pub trial_totals : List AccountRow → List ℤ
trial_totals rows = sum_over (λ row. row.open_dr) rows ∷ sum_over (λ row. row.open_cr) rows
    ∷ sum_over (λ row. row.turn_dr) rows ∷ sum_over (λ row. row.turn_cr) rows
    ∷ sum_over (λ row. row.close_dr) rows ∷ sum_over (λ row. row.close_cr) rows ∷ []

-- the last line: what the rows of the leaves sum to
abbrev pub total_line : ℕ → List AccountRow → List (List ℕ)
total_line scale leaves = codes "TOTAL" ∷ [] ∷ shown_numbers scale (trial_totals leaves)

-- the lines: the words, the accounts as they come, the totals
abbrev pub trial_lines : Chart → List AccountRow → List (List (List ℕ))
trial_lines chart rows = trial_header ∷ map (trial_line chart) rows
    ++ (total_line chart.scale (leaf_rows chart rows) ∷ [])

-- the text of a trial balance
unfoldable pub trial_balance_text : Chart → List AccountRow → List ℕ
trial_balance_text chart rows = report_text trial_columns (trial_lines chart rows)

-- the number lies within 10 ^ 32 either side of zero
pub record IsModerate (n : ℤ) : Type 0 where
  pub low : neg_ℤ (pos (10 ^ 32)) ≤ℤ n
  pub high : n ≤ℤ pos (10 ^ 32)

-- each number of the row lies within 10 ^ 32 either side of zero
pub record HasModerateNumbers (row : AccountRow) : Type 0 where
  pub open_dr : IsModerate row.open_dr
  pub open_cr : IsModerate row.open_cr
  pub turn_dr : IsModerate row.turn_dr
  pub turn_cr : IsModerate row.turn_cr
  pub close_dr : IsModerate row.close_dr
  pub close_cr : IsModerate row.close_cr
