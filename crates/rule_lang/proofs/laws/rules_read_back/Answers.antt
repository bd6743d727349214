use Rattle.rule_lang.proofs.ReadBackLemmas.{kind_reads_back, rules_read_back}
use Rattle.rule_lang.proofs.laws.rules_read_back.Goals as goal

pub returns : goal.returns
returns c = record { kind = kind_reads_back; all = rules_read_back }
