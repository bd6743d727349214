use Rattle.rule_text.proofs.SpellingLemmas.{no_name}
use Rattle.rule_text.proofs.piece.spelling_at.Goals as goal

pub returns-in-Err : goal.returns-in-Err
returns-in-Err c = no_name c.args.bytes.now c.in-Err.ensures.cases.0
