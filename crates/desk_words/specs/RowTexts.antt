-- The rows of tables as JSON.
use Rattle.std.specs.Prelude.{◌≡◌, ℕ, ℤ, Bool, true, false, Option, None, Some, List, [], ◌∷◌, ◌++◌}
use Rattle.std.specs.Prelude.{length, map, codes}
use Rattle.serde_json.specs.Data.{Data, null, string, array, object, no_members, member}
use Rattle.serde_json.specs.View.{items_of}
use Rattle.reg_base.specs.Dates.{date_text}
use Rattle.reg_base.specs.Points.{point_text}
use Rattle.reg_base.specs.Numbers.{number_text, sum_text}
use Rattle.reg_base.specs.declared.records.SumRow.{SumRow}
use Rattle.reg_base.specs.declared.records.DocRow.{DocRow}
use Rattle.reg_base.specs.declared.tables.Unit.{Unit as RowUnit}
use Rattle.reg_base.specs.declared.tables.Unit.TheVariants.{Whole, Start, At, Line}
use Rattle.reg_base.specs.declared.tables.Row.{Row}
use Rattle.reg_base.specs.declared.tables.AccountRow.{AccountRow}
use Rattle.reg_base.specs.declared.tables.PairRow.{PairRow}
use Rattle.reg_base.specs.declared.value.Value.{Value}
use Rattle.desk_words.specs.declared.row_values.RegisterTable.{RegisterTable}
use Rattle.desk_words.specs.declared.row_values.RegisterTable.TheVariants.{Turnovers, Moves, Both}
use Rattle.desk_words.specs.declared.row_values.AccountTable.{AccountTable}
use Rattle.desk_words.specs.declared.row_values.AccountTable.TheVariants.{Balance as HeldTable}
use Rattle.desk_words.specs.declared.row_values.AccountTable.TheVariants.{Turnovers as MovedTable}
use Rattle.desk_words.specs.declared.row_values.AccountTable.TheVariants.{Both as WholeTable}
use Rattle.desk_words.specs.JsonValues.{whole, texts_data}
use Rattle.desk_words.specs.ReplyWords.{value_text, state_name}

-- ---- what stands in rows

-- the numbers as texts, each with the decimals of the resource in its place; `HasScales` says that
-- there are as many scales
abbrev pub sum_texts : List ℕ → List ℤ → List (List ℕ)
sum_texts [] sums = []
sum_texts (scale ∷ scales) [] = []
sum_texts (scale ∷ scales) (sum ∷ sums) = sum_text sum scale ∷ sum_texts scales sums

abbrev pub sums_data : List ℕ → List ℤ → Data
sums_data scales sums = texts_data (sum_texts scales sums)

-- an amount with the decimals of its ledger
abbrev pub amount_data : ℕ → ℤ → Data
amount_data scale amount = string (sum_text amount scale)

-- the values of a group
abbrev pub group_data : List Value → Data
group_data group = texts_data (map value_text group)

-- what a row speaks of: null for the range as a whole, a date, a document's point, and a record's
-- point with its line behind `/`
abbrev pub unit_data : RowUnit → Data
unit_data Whole = null
unit_data (Start date) = string (date_text date)
unit_data (At point) = string (point_text point)
unit_data (Line point line) = string (point_text point ++ (47 ∷ number_text line))

-- a key or a code, or null where it is absent
abbrev pub key_data : Option (List ℕ) → Data
key_data None = null
key_data (Some key) = string key

-- a document's type; a manual document has none
abbrev pub kind_name : Option (List ℕ) → List ℕ
kind_name None = codes "manual"
kind_name (Some name) = name

-- ---- rows

-- a row of a balance: its group and its sums
unfoldable pub row_data : List ℕ → SumRow → Data
row_data scales row =
    object (member (codes "group") (group_data row.group)
    (member (codes "sums") (sums_data scales row.sums) no_members))

-- a row of turnovers of a register without balances
unfoldable pub turnover_row_data : List ℕ → Row → Data
turnover_row_data scales row =
    object (member (codes "group") (group_data row.group)
    (member (codes "turnover") (sums_data scales row.turnover)
    (member (codes "unit") (unit_data row.unit) no_members)))

-- a row of turnovers of a register with balances
unfoldable pub move_row_data : List ℕ → Row → Data
move_row_data scales row =
    object (member (codes "expense") (sums_data scales row.expense)
    (member (codes "group") (group_data row.group)
    (member (codes "receipt") (sums_data scales row.receipt)
    (member (codes "turnover") (sums_data scales row.turnover)
    (member (codes "unit") (unit_data row.unit) no_members)))))

-- a row of balances and turnovers
unfoldable pub both_row_data : List ℕ → Row → Data
both_row_data scales row =
    object (member (codes "closing") (sums_data scales row.closing)
    (member (codes "expense") (sums_data scales row.expense)
    (member (codes "group") (group_data row.group)
    (member (codes "opening") (sums_data scales row.opening)
    (member (codes "receipt") (sums_data scales row.receipt)
    (member (codes "turnover") (sums_data scales row.turnover)
    (member (codes "unit") (unit_data row.unit) no_members)))))))

-- a row of a table of a register besides its balance
abbrev pub register_row_data : RegisterTable → List ℕ → Row → Data
register_row_data Turnovers = turnover_row_data
register_row_data Moves = move_row_data
register_row_data Both = both_row_data

-- a row of the balances of accounts
unfoldable pub held_row_data : ℕ → AccountRow → Data
held_row_data scale row =
    object (member (codes "account") (string row.account)
    (member (codes "close_cr") (amount_data scale row.close_cr)
    (member (codes "close_dr") (amount_data scale row.close_dr)
    (member (codes "extras") (texts_data row.extras) no_members))))

-- a row of the turnovers of accounts
unfoldable pub moved_row_data : ℕ → AccountRow → Data
moved_row_data scale row =
    object (member (codes "account") (string row.account)
    (member (codes "extras") (texts_data row.extras)
    (member (codes "turn_cr") (amount_data scale row.turn_cr)
    (member (codes "turn_dr") (amount_data scale row.turn_dr)
    (member (codes "unit") (unit_data row.unit) no_members)))))

-- a row of the balances and turnovers of accounts
unfoldable pub whole_row_data : ℕ → AccountRow → Data
whole_row_data scale row =
    object (member (codes "account") (string row.account)
    (member (codes "close_cr") (amount_data scale row.close_cr)
    (member (codes "close_dr") (amount_data scale row.close_dr)
    (member (codes "extras") (texts_data row.extras)
    (member (codes "open_cr") (amount_data scale row.open_cr)
    (member (codes "open_dr") (amount_data scale row.open_dr)
    (member (codes "turn_cr") (amount_data scale row.turn_cr)
    (member (codes "turn_dr") (amount_data scale row.turn_dr)
    (member (codes "unit") (unit_data row.unit) no_members)))))))))

-- a row of a table of accounts
abbrev pub account_row_data : AccountTable → ℕ → AccountRow → Data
account_row_data HeldTable = held_row_data
account_row_data MovedTable = moved_row_data
account_row_data WholeTable = whole_row_data

-- a row of the amounts between accounts; an absent side is null
unfoldable pub pair_row_data : ℕ → PairRow → Data
pair_row_data scale row =
    object (member (codes "amount") (amount_data scale row.amount)
    (member (codes "credit") (key_data row.credit)
    (member (codes "debit") (key_data row.debit) no_members)))

-- a row of a list of documents
unfoldable pub document_row_data : DocRow → Data
document_row_data row =
    object (member (codes "date") (string (date_text row.date))
    (member (codes "doc") (whole row.number)
    (member (codes "key") (key_data row.key)
    (member (codes "kind") (string (kind_name row.kind))
    (member (codes "state") (string (state_name row.state)) no_members)))))

-- ---- tables

-- rows under their name
abbrev pub table_data : {X : Type 0} → (X → Data) → List X → Data
table_data row_of rows =
    object (member (codes "rows") (array (items_of (map row_of rows))) no_members)

-- turnovers of a register with balances tell receipts and expenses apart
abbrev pub turnovers_table : Bool → RegisterTable
turnovers_table true = Moves
turnovers_table false = Turnovers

-- a row of turnovers has so many numbers in each of its lists
pub record HasMoves (n : ℕ) (row : Row) : Type 0 where
  pub receipt : length row.receipt ≡ n
  pub expense : length row.expense ≡ n
  pub turnover : length row.turnover ≡ n

-- a row of balances and turnovers has so many numbers in each of its lists
pub record HasBoth (n : ℕ) (row : Row) : Type 0 where
  pub opening : length row.opening ≡ n
  pub receipt : length row.receipt ≡ n
  pub expense : length row.expense ≡ n
  pub turnover : length row.turnover ≡ n
  pub closing : length row.closing ≡ n

-- a row of the table has so many numbers in each list that is printed
abbrev pub HasNumbers : RegisterTable → ℕ → Row → Type 0
HasNumbers Turnovers n row = length row.turnover ≡ n
HasNumbers Moves n row = HasMoves n row
HasNumbers Both n row = HasBoth n row
