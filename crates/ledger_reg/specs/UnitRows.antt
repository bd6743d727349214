-- Private: rows of an account per unit of a range, made from sums by slot.
use Rattle.std.specs.Prelude.{ℕ, ◌+◌, ℤ, ◌+ℤ◌, ◌-ℤ◌, Bool, true, false, if◌then◌else◌, Some}
use Rattle.std.specs.Prelude.{List, [], ◌∷◌, ◌++◌, map}
use Rattle.std.specs.List.{flat_map}
use Rattle.std.specs.Ordering.{is_eq}
use Rattle.reg_base.specs.declared.tables.Periodicity.{Periodicity}
use Rattle.reg_base.specs.declared.tables.Periodicity.TheVariants.{Period}
use Rattle.reg_base.specs.declared.tables.Unit.{Unit}
use Rattle.reg_base.specs.declared.tables.Unit.TheVariants.{Whole, Start}
use Rattle.reg_base.specs.declared.tables.AccountRow.{AccountRow}
use Rattle.reg_base.specs.Units.{starts_between}
use Rattle.cfg_model.specs.declared.ledger.Chart.{Chart}
use Rattle.cfg_model.specs.declared.account.Account.{Account}
use Rattle.cfg_model.specs.declared.account.Nature.{Nature}
use Rattle.cfg_model.specs.AccountTables.{AccountKey, is_at_or_below, is_asked, by_nature}
use Rattle.cfg_model.specs.AccountTables.{nature_at}
use Rattle.cfg_model.specs.AccountTables.{account_row, no_balance, has_amount}
use Rattle.ledger_reg.specs.declared.ask.AccountAsk.{AccountAsk}
use Rattle.ledger_reg.specs.declared.sides.Amounts.{Amounts}
use Rattle.ledger_reg.specs.declared.units.Units.{Units}
use Rattle.ledger_reg.specs.Sides.{SidePlace, place_cmp}
use Rattle.ledger_reg.specs.Slots.{SlotPlace, SlotAmounts, slot_amounts, slot_sums}

-- the unit that starts at a date, or the whole range
abbrev pub unit_at : Periodicity → ℕ → Unit
unit_at Period start = Whole
unit_at by start = Start start

-- the starts of the units of a range; the whole one starts at 0
abbrev pub starts_by : Periodicity → ℕ → ℕ → List ℕ
starts_by Period from to = 0 ∷ []
starts_by by from to = starts_between by from to

-- the account and the extras of a place
abbrev pub place_of : SlotPlace → SidePlace
place_of p = record { account = p.account; extras = p.extras }

-- the sums of an account with extras in a slot
abbrev pub in_slot : List SlotAmounts → SidePlace → ℕ → Amounts
in_slot sums place slot =
    slot_amounts (record { account = place.account; extras = place.extras; slot = slot }) sums

-- debit minus credit
abbrev pub net_of : Amounts → ℤ
net_of a = a.debit -ℤ a.credit

-- a net with what moved
abbrev pub net_after : ℤ → Amounts → ℤ
net_after net moved = net +ℤ moved.debit -ℤ moved.credit

-- a net as it is shown, where nets are
abbrev pub shown_net : Bool → Nature → ℤ → ℤ × ℤ
shown_net nets nature net = if nets then by_nature nature net else no_balance

-- the key of an account with extras
abbrev pub key_of_place : SidePlace → AccountKey
key_of_place p = record { account = p.account; extras = Some p.extras }

-- the row of an account with extras in a unit
abbrev pub unit_row : Units → Nature → SidePlace → ℤ → ℕ → Amounts → AccountRow
unit_row units nature place net start moved =
    account_row (key_of_place place) (unit_at units.by start) (shown_net units.nets nature net)
    moved.debit moved.credit (shown_net units.nets nature (net_after net moved))

-- a row, where some number of it is not 0
abbrev pub shown_row : AccountRow → List AccountRow
shown_row row = if has_amount row then row ∷ [] else []

-- the rows of an account with extras, unit by unit, from the net before the first of them
abbrev pub unit_rows : Units → Nature → List SlotAmounts → SidePlace → ℤ → List ℕ → List AccountRow
unit_rows units nature sums place net [] = []
unit_rows units nature sums place net (start ∷ starts) =
    shown_row (unit_row units nature place net start (in_slot sums place (start + 1)))
    ++ unit_rows units nature sums place (net_after net (in_slot sums place (start + 1))) starts

-- sums as those of an account, where they count at it
abbrev pub rolled_if : Bool → List ℕ → SlotAmounts → List SlotAmounts
rolled_if counts top e =
    if counts then (record { account = top; extras = []; slot = e.0.slot }, e.1) ∷ [] else []

-- sums of an account below another one as those of that one
abbrev pub rolled_at : Chart → List ℕ → SlotAmounts → List SlotAmounts
rolled_at chart top e = rolled_if (is_at_or_below chart top e.0.account) top e

-- the sums that count at an account with extras, or at an account
abbrev pub own_sums : Chart → Bool → List SlotAmounts → SidePlace → List SlotAmounts
own_sums chart extras sums place =
    if extras then sums else slot_sums (flat_map (rolled_at chart place.account) sums)

-- the rows of an account with extras, or of an account, from its net in slot 0
abbrev pub place_rows : Units → Nature → List SlotAmounts → SidePlace → List AccountRow
place_rows units nature sums place =
    unit_rows units nature sums place (net_of (in_slot sums place 0)) units.starts

-- the same, where the account is asked for
abbrev pub asked_rows : Chart → AccountAsk → Units → List SlotAmounts → SidePlace → List AccountRow
asked_rows chart ask units sums place = if is_asked chart ask.account place.account
    then place_rows units (nature_at chart place.account) (own_sums chart ask.extras sums place)
    place
    else []

-- whether a place is the last one
abbrev pub ends_with : List SidePlace → SidePlace → Bool
ends_with [] place = false
ends_with (p ∷ []) place = is_eq (place_cmp p place)
ends_with (p ∷ q ∷ ps) place = ends_with (q ∷ ps) place

-- a place behind the others, unless it is the last one
abbrev pub put_place : List SidePlace → SidePlace → List SidePlace
put_place places place = if ends_with places place then places else places ++ place ∷ []

abbrev pub put_places : List SidePlace → List SlotAmounts → List SidePlace
put_places places [] = places
put_places places (e ∷ es) = put_places (put_place places (place_of e.0)) es

-- an account as a place
abbrev pub account_place : Account → SidePlace
account_place a = record { account = a.code; extras = [] }

-- the places of a table: those of its sums, or its accounts
abbrev pub table_places : Chart → Bool → List SlotAmounts → List SidePlace
table_places chart true sums = put_places [] sums
table_places chart false sums = map account_place chart.accounts

-- the rows of a table
abbrev pub unit_table : Chart → AccountAsk → Units → List SlotAmounts → List AccountRow
unit_table chart ask units sums =
    flat_map (asked_rows chart ask units sums) (table_places chart ask.extras sums)
