use Rattle.std.proofs.Common.{◌≡◌, ◌++◌, ℤ, SFits, to_z, of_z, ap, ◌∙◌}
use Rattle.std.proofs.Common.{sym, rules, arith}
use Rattle.std.specs.Int.{w64, w128}
use Rattle.std.proofs.lemmas.Int.{to_z-of_z}
use Rattle.ledger_reg.specs.Sides.{amounts_size}
use Rattle.ledger_reg.specs.Sizes.{size_of}
use Rattle.ledger_reg.specs.Slots.{slot_side, as_debit, as_credit, amount_in}
use Rattle.ledger_reg.specs.Walks.{booked}
use Rattle.ledger_reg.proofs.SizeLemmas.{IfOk-map, amount-size}
use Rattle.ledger_reg.proofs.SlotLemmas.{both-added}
use Rattle.ledger_reg.proofs.slots.SlotSumsGathers.add.Goals as goal

pub returns : goal.returns
returns c = λ number.
    let posting = c.args.posting.now in
    let span = c.args.span.now in
    let slot = c.slot_of-slot.result in
    let a : ℤ = to_z w128 (of_z w128 c.from-amount.result) in
    let fits : SFits w64 posting.amount = search rules in
    let fits-2 : SFits w64 c.amount_in.result = search rules in
    let wide : SFits w128 c.from-amount.result = search rules in
    let plain : a ≡ c.amount_in.result = to_z-of_z w128 c.from-amount.result wide
    ∙ c.from-amount.ensures ∙ to_z-of_z w64 c.amount_in.result fits-2 in
    let value = plain ∙ c.amount_in.ensures
    ∙ ap (amount_in span posting.period) (to_z-of_z w64 posting.amount fits) in
    let small = amount-size c.amount_in.result fits-2 in
    let same-size = ap size_of plain in
    IfOk-map _ _
    (λ u h. both-added span (booked number posting)
    (slot_side slot posting.debit (as_debit a)) (slot_side slot posting.credit (as_credit a))
    (amounts_size (as_debit a)) (amounts_size (as_credit a))
    c.args.self.now c.add_side.new.self c.add_side-2.new.self
    (sym (λ i. slot_side (c.slot_of-slot.ensures i) posting.debit (as_debit (value i))
    ++ slot_side (c.slot_of-slot.ensures i) posting.credit (as_credit (value i))))
    (omega (arith, small, same-size)) c.in_ok-add_side.ensures h)
    c.add_side-2.result c.add_side-2.ensures
