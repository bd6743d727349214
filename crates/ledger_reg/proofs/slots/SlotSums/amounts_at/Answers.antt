use Rattle.std.proofs.Common.{ap, ◌∙◌}
use Rattle.std.specs.Prelude.{unwrap_or}
use Rattle.ledger_reg.specs.Sides.{no_amounts}
use Rattle.ledger_reg.proofs.SlotLemmas.{found-seen}
use Rattle.ledger_reg.proofs.slots.SlotSums.amounts_at.Goals as goal

pub returns : goal.returns
returns c =
    c.unwrap_or.ensures
    ∙ ap (λ o. unwrap_or o no_amounts) (c.copied.ensures ∙ c.get.ensures.value)
    ∙ found-seen c.args.key.now c.args.self.now.sums.entries
