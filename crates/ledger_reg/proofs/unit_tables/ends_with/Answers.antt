use Rattle.std.proofs.Common.{◌∙◌, ap, sym}
use Rattle.ledger_reg.specs.Sides.{place_in, place_cmp}
use Rattle.ledger_reg.specs.Slots.{slot_in}
use Rattle.ledger_reg.specs.UnitRows.{place_of}
use Rattle.ledger_reg.proofs.KeyLemmas.{ends-last}
use Rattle.ledger_reg.proofs.unit_tables.ends_with.Goals as goal
use Rattle.std.specs.Ordering.{is_eq}

pub returns : goal.returns
returns c =
    c.is_same_place.ensures
    ∙ ap (λ k. is_eq (place_cmp (place_in k) (place_of (slot_in c.args.key.now))))
    c.index-places-places.is
    ∙ ends-last c.args.places.now (place_of (slot_in c.args.key.now)) c.index-places-places.result
    (sym c.is_empty.ensures ∙ c.if-is_empty.false)
