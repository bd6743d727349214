use Rattle.std.proofs.Common.{ap, ◌∙◌, is_eq}
use Rattle.std.specs.Prelude.{unwrap_or}
use Rattle.ledger_reg.specs.declared.sides.Amounts.{Amounts}
use Rattle.ledger_reg.specs.Sides.{place_cmp, place_in, no_amounts}
use Rattle.ledger_reg.proofs.MapLemmas.{lookup-seen}
use Rattle.ledger_reg.proofs.SideLemmas.{derived-place_cmp}
use Rattle.ledger_reg.proofs.sides.SideSums.amounts_at.Goals as goal

pub returns : goal.returns
returns c =
    c.unwrap_or.ensures
    ∙ ap (λ o. unwrap_or o no_amounts) (c.copied.ensures ∙ c.get.ensures.value)
    ∙ lookup-seen place_in (λ (v : Amounts). v) _
    (λ p. is_eq (place_cmp (place_in c.args.key.now) p))
    (λ x. ap is_eq (derived-place_cmp c.args.key.now x)) no_amounts c.args.self.now.sums.entries
