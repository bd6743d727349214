use Rattle.rule_text.proofs.SpellingLemmas.{no_code}
use Rattle.rule_text.proofs.piece.code_at.Goals as goal

pub returns-in-Err : goal.returns-in-Err
returns-in-Err c = no_code c.args.bytes.now c.in-Err.ensures.cases.0
