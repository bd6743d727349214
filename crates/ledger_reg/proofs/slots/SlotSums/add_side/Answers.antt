use Rattle.std.proofs.Common.{Option, ◌∙◌, sym, subst, [], ◌∷◌}
use Rattle.reg_base.specs.declared.records.Side.{Side}
use Rattle.ledger_reg.specs.Sides.{amounts_size}
use Rattle.ledger_reg.specs.Slots.{SlotPlace, AddsSlots, slot_side}
use Rattle.ledger_reg.proofs.SizeLemmas.{IfOk-map}
use Rattle.ledger_reg.proofs.slots.SlotSums.add_side.Goals as goal

pub returns-in_ok-from_slice-in-Some : goal.returns-in_ok-from_slice-in-Some
returns-in_ok-from_slice-in-Some c =
    IfOk-map _ _
    (λ u h. subst (λ (side : Option Side). AddsSlots (slot_side c.args.slot side c.args.more.now)
    (amounts_size c.args.more.now) c.args.self.now c.raise.new.self)
    (sym c.in-Some.is)
    (subst (λ (p : SlotPlace). AddsSlots ((p, c.args.more.now) ∷ [])
    (amounts_size c.args.more.now) c.args.self.now c.raise.new.self)
    (λ i. record {
      account = c.in-Some.side.account;
      extras = (c.in_ok-from_slice-in-Some.ensures.items ∙ c.as_slice.ensures) i;
      slot = c.args.slot;
    }) h))
    c.raise.result c.raise.ensures
