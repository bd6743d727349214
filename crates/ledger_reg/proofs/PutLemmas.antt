-- The rows of a place, put unit by unit.
use Rattle.std.proofs.Common.{◌≡◌, ℕ, ◌+◌, ◌<◌, ◌≤◌, ℤ, Result, Err, List, ◌∷◌, ◌++◌, length}
use Rattle.std.proofs.Common.{drop, get_or, ap, ◌∙◌, sym, append_assoc}
use Rattle.std.proofs.lemmas.List.{append-nil, drop_more, drop_all}
use Rattle.reg_base.specs.declared.fault.TableFault.{TableFault}
use Rattle.reg_base.specs.declared.tables.AccountRow.{AccountRow}
use Rattle.reg_base.specs.declared.tried.Fault.{Fault}
use Rattle.cfg_model.specs.declared.account.Nature.{Nature}
use Rattle.ledger_reg.specs.declared.sides.Amounts.{Amounts}
use Rattle.ledger_reg.specs.declared.units.Units.{Units}
use Rattle.ledger_reg.specs.RowLists.{Puts}
use Rattle.ledger_reg.specs.Sides.{SidePlace}
use Rattle.ledger_reg.specs.Slots.{SlotAmounts}
use Rattle.ledger_reg.specs.UnitRows.{in_slot, net_after, unit_row, unit_rows, shown_row}
use Rattle.ledger_reg.proofs.RowLemmas.{puts-stopped}

module _ (units : Units) (nature : Nature) (sums : List SlotAmounts) (place : SidePlace) (net : ℤ)
    (rows old all : List AccountRow) where
  -- the rows so far, and those of starts that are left, are all rows
  abbrev pub AreLeft : List ℕ → Type 0
  AreLeft starts = rows ++ unit_rows units nature sums place net starts ≡ old ++ all

  -- nothing left
  pub rows-end : (i : ℕ) → length units.starts ≤ i → AreLeft (drop i units.starts)
      → rows ≡ old ++ all
  rows-end i le left =
      sym (append-nil rows)
      ∙ ap (λ ss. rows ++ unit_rows units nature sums place net ss)
      (sym (drop_all i units.starts le))
      ∙ left

  -- a start of a unit, at its place among them, and what moved in the unit
  module _ (i start : ℕ) (items : List ℕ) (same : items ≡ units.starts) (lt : i < length items)
      (is : start ≡ get_or items i start) (are : AreLeft (drop i units.starts)) (at : SidePlace)
      (at-is : at ≡ place) (slot : ℕ) (slot-is : slot ≡ start) (a : Amounts)
      (found : a ≡ in_slot sums at (slot + 1)) where
    abbrev rest : List ℕ
    rest = drop (i + 1) units.starts

    abbrev others : List AccountRow
    others = unit_rows units nature sums place (net_after net (in_slot sums place (start + 1))) rest

    steps : drop i units.starts ≡ start ∷ rest
    steps =
        sym (ap (drop i) same) ∙ drop_more items i start lt
        ∙ (λ j. sym is j ∷ drop (i + 1) (same j))

    a-is : a ≡ in_slot sums place (start + 1)
    a-is = found ∙ (λ j. in_slot sums (at-is j) (slot-is j + 1))

    step : rows ++ (shown_row (unit_row units nature at net start a) ++ others) ≡ old ++ all
    step =
        (λ j. rows ++ (shown_row (unit_row units nature (at-is j) net start (a-is j)) ++ others))
        ∙ ap (λ ss. rows ++ unit_rows units nature sums place net ss) (sym steps) ∙ are

    -- the row of a unit is put
    pub rows-next : (new : List AccountRow) (next : ℤ)
        → new ≡ rows ++ shown_row (unit_row units nature at net start a) → next ≡ net_after net a
        → new ++ unit_rows units nature sums place next rest ≡ old ++ all
    rows-next new next put net-is =
        (λ j. put j ++ unit_rows units nature sums place
        ((net-is ∙ ap (net_after net) a-is) j) rest)
        ∙ append_assoc rows (shown_row (unit_row units nature at net start a)) others ∙ step

    -- a fault at the row of a unit
    pub rows-stopped : (result : Result (Unit {0}) (Fault TableFault)) (e : Fault TableFault)
        (new last : List AccountRow)
        → Puts (Err e) (shown_row (unit_row units nature at net start a)) rows new
        → result ≡ Err e → Puts result all old last
    rows-stopped result e new last puts is =
        puts-stopped result e (shown_row (unit_row units nature at net start a)) all old rows
        others new last step puts is
