use Rattle.std.proofs.Common.{ap, ◌∙◌, arith}
use Rattle.std.specs.BTreeMap.{insert_entry}
use Rattle.ledger_reg.specs.declared.sides.Amounts.{Amounts}
use Rattle.ledger_reg.specs.declared.slots.SlotKey.{SlotKey}
use Rattle.ledger_reg.specs.contracts.slots.SlotKeyOrd.TheImpl.{ghosts}
use Rattle.ledger_reg.specs.Slots.{slot_in, slots_in, slot_amounts}
use Rattle.ledger_reg.proofs.SizeLemmas.{sums-fits, sums-value}
use Rattle.ledger_reg.proofs.SlotLemmas.{slot_amounts-size, slot-added}
use Rattle.ledger_reg.proofs.slots.SlotSums.raise.Goals as goal

pub overflow_add-after : goal.overflow_add-after
overflow_add-after c =
    let size = slot_amounts-size (slot_in c.args.key) c.args.self.now.sums.entries in
    sums-fits c.args.more.now.debit c.amounts_at-before.result.debit _
    (ap (λ (v : Amounts). v.debit) c.amounts_at-before.ensures)
    (omega (arith, c.requires.small)) (omega (arith, size, c.requires.reach))

pub overflow_add-after-2 : goal.overflow_add-after-2
overflow_add-after-2 c =
    let size = slot_amounts-size (slot_in c.args.key) c.args.self.now.sums.entries in
    sums-fits c.args.more.now.credit c.amounts_at-before.result.credit _
    (ap (λ (v : Amounts). v.credit) c.amounts_at-before.ensures)
    (omega (arith, c.requires.small)) (omega (arith, size, c.requires.reach))

pub returns : goal.returns
returns c =
    let key : SlotKey = c.args.key in
    let more : Amounts = c.args.more.now in
    let at : Amounts = slot_amounts (slot_in key) (slots_in c.args.self.now.sums.entries) in
    let size = slot_amounts-size (slot_in key) c.args.self.now.sums.entries in
    let debit = sums-value more.debit c.amounts_at-before.result.debit at.debit
    (ap (λ (v : Amounts). v.debit) c.amounts_at-before.ensures)
    (omega (arith, c.requires.small)) (omega (arith, size, c.requires.reach)) in
    let credit = sums-value more.credit c.amounts_at-before.result.credit at.credit
    (ap (λ (v : Amounts). v.credit) c.amounts_at-before.ensures)
    (omega (arith, c.requires.small)) (omega (arith, size, c.requires.reach)) in
    slot-added key more c.args.self.now (record { sums = c.insert.new.self })
    c.in_ok-insert.ensures.was_ordered
    (c.in_ok-insert.ensures.entries
    ∙ (λ i. insert_entry ghosts.cmp c.args.self.now.sums.entries key
    (record { debit = debit i; credit = credit i })))
