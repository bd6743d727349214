use Rattle.rule_lang.proofs.LawLemmas.{kept}
use Rattle.rule_lang.proofs.laws.sequences_are_kept.Goals as goal

pub returns : goal.returns
returns c = kept
