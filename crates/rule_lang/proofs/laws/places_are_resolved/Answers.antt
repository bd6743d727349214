use Rattle.rule_lang.proofs.LawLemmas.{resolved}
use Rattle.rule_lang.proofs.laws.places_are_resolved.Goals as goal

pub returns : goal.returns
returns c = resolved
