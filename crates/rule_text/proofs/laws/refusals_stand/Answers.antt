use Rattle.rule_text.proofs.RefusalLemmas.{refusals-stand, texts-whole}
use Rattle.rule_text.proofs.laws.refusals_stand.Goals as goal

pub returns : goal.returns
returns c = record { refused = refusals-stand; whole = texts-whole }
