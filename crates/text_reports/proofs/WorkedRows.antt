-- Worked rows of reports, computed from their definitions.
use Rattle.std.proofs.Common.{◌≡◌, ℕ, ℤ, pos, neg_ℤ, List, [], ◌∷◌, ◌++◌, refl, codes, Some, None}
use Rattle.std.proofs.Common.{Bool, true, false, Option}
use Rattle.reg_base.specs.declared.value.Value.TheVariants.{Code, Lot}
use Rattle.reg_base.specs.declared.point.Point.{Point}
use Rattle.reg_base.specs.declared.records.DocState.TheVariants.{Written, Posted}
use Rattle.reg_base.specs.declared.tables.Unit.TheVariants.{Whole, At}
use Rattle.reg_base.specs.declared.tables.AccountRow.{AccountRow}
use Rattle.reg_base.specs.Numbers.{number_text, units_text, sum_text}
use Rattle.reg_base.specs.Dates.{date_text, day_text, second_text, day_of, day_from_year}
use Rattle.reg_base.specs.Dates.{day_from_month}
use Rattle.reg_base.specs.Points.{point_text}
use Rattle.cfg_model.specs.declared.account.Account.{Account}
use Rattle.cfg_model.specs.declared.account.Nature.TheVariants.{Active}
use Rattle.cfg_model.specs.declared.ledger.Chart.{Chart}
use Rattle.cfg_model.specs.declared.register.Register.{Register}
use Rattle.cfg_model.specs.Places.{account_at}
use Rattle.text_reports.specs.Tables.{report_text, left_in, right_in, bare_column}
use Rattle.text_reports.specs.TrialBalances.{trial_balance_text}
use Rattle.text_reports.specs.StockCards.{stock_card_text}
use Rattle.text_reports.specs.DocumentLists.{document_list_text}

-- a line of text in two halves
abbrev line : List ℕ → List ℕ → List ℕ
line front rest = (front ++ rest) ++ (10 ∷ [])

-- ---- columns

-- a wide text widens its column in all lines, and nothing stands behind the last one
widened : report_text (left_in 2 ∷ right_in 3 ∷ bare_column ∷ [])
    ((codes "a" ∷ codes "1" ∷ codes "x" ∷ [])
    ∷ (codes "long" ∷ codes "1234" ∷ codes "" ∷ []) ∷ [])
    ≡ line (codes "a       ") (codes "1 x") ++ line (codes "long ") (codes "1234 ")
widened = refl

-- no line is no text
no_lines : report_text (left_in 2 ∷ []) [] ≡ []
no_lines = refl

-- ---- trial balances

abbrev account : List ℕ → List ℕ → Bool → Option (List ℕ) → Account
account code name off parent = record {
  code = code;
  name = name;
  nature = Active;
  off = off;
  parent = parent;
  extras = [];
}

abbrev chart_of : ℕ → List Account → Chart
chart_of scale accounts = record {
  name = codes "main";
  scale = scale;
  split = false;
  accounts = accounts;
}

abbrev row : List ℕ → ℤ → ℤ → ℤ → ℤ → ℤ → ℤ → AccountRow
row code open_dr open_cr turn_dr turn_cr close_dr close_cr = record {
  account = code;
  extras = [];
  unit = Whole;
  open_dr = open_dr;
  open_cr = open_cr;
  turn_dr = turn_dr;
  turn_cr = turn_cr;
  close_dr = close_dr;
  close_cr = close_cr;
}

abbrev shop : Chart
shop = chart_of 2 (account (codes "10") (codes "Goods") false None
    ∷ account (codes "60") (codes "Suppliers") false None
    ∷ account (codes "90") (codes "Cost") false None ∷ [])

a_shop : trial_balance_text shop
    (row (codes "10") (pos 0) (pos 0) (pos 17_500) (pos 13_000) (pos 4_500) (pos 0)
    ∷ row (codes "60") (pos 0) (pos 0) (pos 0) (pos 17_500) (pos 0) (pos 17_500)
    ∷ row (codes "90") (pos 0) (pos 0) (pos 13_000) (pos 0) (pos 13_000) (pos 0) ∷ [])
    ≡ line (codes "account  name              open dr      open cr      turn dr")
    (codes "      turn cr     close dr     close cr")
    ++ line (codes "10       Goods                0.00         0.00       175.00")
    (codes "       130.00        45.00         0.00")
    ++ line (codes "60       Suppliers            0.00         0.00         0.00")
    (codes "       175.00         0.00       175.00")
    ++ line (codes "90       Cost                 0.00         0.00       130.00")
    (codes "         0.00       130.00         0.00")
    ++ line (codes "TOTAL                         0.00         0.00       305.00")
    (codes "       305.00       175.00       175.00")
unfolding trial_balance_text account_at sum_text units_text number_text
a_shop = refl

no_rows : trial_balance_text shop []
    ≡ line (codes "account  name              open dr      open cr      turn dr")
    (codes "      turn cr     close dr     close cr")
    ++ line (codes "TOTAL                         0.00         0.00         0.00")
    (codes "         0.00         0.00         0.00")
unfolding trial_balance_text account_at sum_text units_text number_text
no_rows = refl

-- the total has neither the account that is off-balance nor the parent
abbrev parents : Chart
parents = chart_of 0 (account (codes "009") (codes "Held for others") true None
    ∷ account (codes "10") (codes "Goods") false None
    ∷ account (codes "10.01") (codes "Main") false (Some (codes "10"))
    ∷ account (codes "99") (codes "Result") false None ∷ [])

sums_of_leaves : trial_balance_text parents
    (row (codes "009") (pos 7) (pos 0) (pos 0) (pos 0) (pos 7) (pos 0)
    ∷ row (codes "10") (pos 4) (pos 0) (pos 0) (pos 0) (pos 4) (pos 0)
    ∷ row (codes "10.01") (pos 4) (pos 0) (pos 0) (pos 0) (pos 4) (pos 0)
    ∷ row (codes "99") (pos 0) (neg_ℤ (pos 8)) (pos 0) (pos 0) (pos 0) (neg_ℤ (pos 8)) ∷ [])
    ≡ line (codes "account  name                 open dr      open cr      turn")
    (codes " dr      turn cr     close dr     close cr")
    ++ line (codes "009      Held for others            7            0          ")
    (codes "  0            0            7            0")
    ++ line (codes "10       Goods                      4            0          ")
    (codes "  0            0            4            0")
    ++ line (codes "10.01    Main                       4            0          ")
    (codes "  0            0            4            0")
    ++ line (codes "99       Result                     0           -8          ")
    (codes "  0            0            0           -8")
    ++ line (codes "TOTAL                               4           -8          ")
    (codes "  0            0            4           -8")
unfolding trial_balance_text account_at sum_text units_text number_text
sums_of_leaves = refl

-- ---- stock cards

abbrev stock : Register
stock = record {
  name = codes "stock";
  balance = true;
  dimensions = [];
  resources = (record { name = codes "quantity"; scale = 3 })
      ∷ (record { name = codes "amount"; scale = 0 }) ∷ [];
  split = false;
}

abbrev first_point : Point
first_point = record { date = 758_192_400; doc = 1 }

a_group_with_a_lot : stock_card_text stock ((record {
  group = Code (codes "nail") ∷ Lot first_point ∷ [];
  unit = At first_point;
  opening = pos 0 ∷ pos 0 ∷ [];
  receipt = pos 10_000 ∷ pos 50 ∷ [];
  expense = pos 12_500 ∷ pos 0 ∷ [];
  turnover = [];
  closing = neg_ℤ (pos 2_500) ∷ pos 50 ∷ [];
}) ∷ [])
    ≡ line (codes "group                            unit                           reso")
    (codes "urce            opening        receipt        expense        closing")
    ++ line (codes "nail/2024-01-10T09:00:00#1       2024-01-10T09:00:00#1          quan")
    (codes "tity              0.000         10.000         12.500         -2.500")
    ++ line (codes "nail/2024-01-10T09:00:00#1       2024-01-10T09:00:00#1          amou")
    (codes "nt                    0             50              0             50")
unfolding stock_card_text point_text date_text day_text second_text day_of day_from_year
    day_from_month sum_text units_text number_text
a_group_with_a_lot = refl

-- ---- lists of documents

with_key_and_without : document_list_text
    ((record {
      number = 1;
      date = 758_192_400;
      kind = Some (codes "receipt");
      key = Some (codes "bill-7");
      state = Posted;
    })
    ∷ (record {
      number = 4_294_967_295;
      date = 3_155_759_999;
      kind = None;
      key = None;
      state = Written;
    }) ∷ [])
    ≡ line (codes "    number date               ")
    (codes " kind                     state    key")
    ++ line (codes "         1 2024-01-10T09:00:00")
    (codes " receipt                  posted   bill-7")
    ++ line (codes "4294967295 2099-12-31T23:59:59")
    (codes " manual                   written  -")
unfolding document_list_text date_text day_text second_text day_of day_from_year day_from_month
    number_text
with_key_and_without = refl
