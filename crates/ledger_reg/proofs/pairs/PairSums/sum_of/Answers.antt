use Rattle.std.proofs.Common.{pos, ap, ◌∙◌, is_eq, rules, SFits}
use Rattle.std.specs.Int.{w128}
use Rattle.std.proofs.lemmas.Int.{to_z-of_z}
use Rattle.std.specs.Prelude.{unwrap_or}
use Rattle.cfg_model.specs.AccountTables.{pair_cmp}
use Rattle.ledger_reg.specs.Pairs.{pair_in}
use Rattle.ledger_reg.proofs.MapLemmas.{lookup-seen}
use Rattle.ledger_reg.proofs.PairLemmas.{derived-pair_cmp}
use Rattle.ledger_reg.proofs.pairs.PairSums.sum_of.Goals as goal

pub returns : goal.returns
returns c =
    let fits : SFits w128 c.unwrap_or.result = search rules in
    to_z-of_z w128 c.unwrap_or.result fits ∙ c.unwrap_or.ensures
    ∙ ap (λ o. unwrap_or o (pos 0)) (c.copied.ensures ∙ c.get.ensures.value)
    ∙ lookup-seen pair_in (λ n. n) _ (λ p. is_eq (pair_cmp (pair_in c.args.pair.now) p))
    (λ x. ap is_eq (derived-pair_cmp c.args.pair.now x)) (pos 0) c.args.self.now.sums.entries
