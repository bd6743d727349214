use Rattle.std.proofs.Common.{◌≡◌, true, false, cond, List, [], ◌∷◌, ◌++◌, ap, ◌∙◌, sym, subst}
use Rattle.std.proofs.Common.{SFits, arith, rules}
use Rattle.std.specs.Int.{w128}
use Rattle.std.proofs.lemmas.Int.{to_z-of_z}
use Rattle.std.proofs.lemmas.List.{append-nil}
use Rattle.reg_base.specs.declared.tables.AccountRow.{AccountRow}
use Rattle.reg_base.specs.Sums.{has_number}
use Rattle.cfg_model.specs.AccountTables.{account_row, has_amount}
use Rattle.ledger_reg.specs.RowLists.{Puts}
use Rattle.ledger_reg.specs.Sizes.{size_of}
use Rattle.ledger_reg.specs.Slots.{slot_in}
use Rattle.ledger_reg.specs.UnitRows.{place_of, shown_net, unit_row, key_of_place}
use Rattle.ledger_reg.proofs.unit_rows.put_unit.Goals as goal

pub balance-closing-requires : goal.balance-closing-requires
balance-closing-requires c =
    let fits : SFits w128 c.net_after-after.result = search rules in
    omega (
      arith,
      ap size_of (to_z-of_z w128 c.net_after-after.result fits),
      c.net_after-after.ensures.small,
      c.requires,
    )

pub returns-then-not-has_amount : goal.returns-then-not-has_amount
returns-then-not-has_amount c =
    let nets = c.args.units.now.nets in
    let moved = c.args.moved.now in
    let row : AccountRow = unit_row c.args.units.now c.args.nature
    (place_of (slot_in c.args.at.now)) c.args.net.now c.args.start moved in
    let fits : SFits w128 c.net_after-after.result = search rules in
    let close = c.balance-closing.ensures ∙ ap (shown_net nets c.args.nature)
    (to_z-of_z w128 c.net_after-after.result fits ∙ c.net_after-after.ensures.value) in
    let none : has_amount row ≡ false = sym (c.has_amount.ensures
    ∙ (λ i. has_number ((c.balance-opening.ensures i).0 ∷ (c.balance-opening.ensures i).1
    ∷ moved.debit ∷ moved.credit ∷ (close i).0 ∷ (close i).1 ∷ []))) ∙ c.if-not-has_amount.true in (
      sym (append-nil c.args.rows.now)
          ∙ ap (λ b. c.args.rows.now ++ cond b (row ∷ []) []) (sym none),
      λ h. h,
    )

pub returns : goal.returns
returns c =
    let nets = c.args.units.now.nets in
    let moved = c.args.moved.now in
    let place = place_of (slot_in c.args.at.now) in
    let row : AccountRow =
    unit_row c.args.units.now c.args.nature place c.args.net.now c.args.start moved in
    let fits : SFits w128 c.net_after-after.result = search rules in
    let close = c.balance-closing.ensures ∙ ap (shown_net nets c.args.nature)
    (to_z-of_z w128 c.net_after-after.result fits ∙ c.net_after-after.ensures.value) in
    let some : has_amount row ≡ true = sym (c.has_amount.ensures
    ∙ (λ i. has_number ((c.balance-opening.ensures i).0 ∷ (c.balance-opening.ensures i).1
    ∷ moved.debit ∷ moved.credit ∷ (close i).0 ∷ (close i).1 ∷ []))) ∙ c.if-not-has_amount.false in
    let is : c.in_ok-row.row ≡ row = c.in_ok-row.ensures
    ∙ (λ i. account_row (key_of_place place) (c.unit_at.ensures i) (c.balance-opening.ensures i)
    moved.debit moved.credit (close i)) in
    subst (λ (more : List AccountRow). Puts c.put_row.result more c.args.rows.now
    c.put_row.new.rows)
    (ap (λ r. r ∷ []) is ∙ ap (λ b. cond b (row ∷ []) []) (sym some)) c.put_row.ensures
