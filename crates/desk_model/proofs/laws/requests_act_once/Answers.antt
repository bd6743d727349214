use Rattle.desk_model.proofs.RepeatLemmas.{LawsHold-always}
use Rattle.desk_model.proofs.laws.requests_act_once.Goals as goal

pub returns : goal.returns
returns c = record {
  order = λ desk lines. (LawsHold-always desk lines).order;
  once = λ desk lines. (LawsHold-always desk lines).once;
  repeats = λ desk lines. (LawsHold-always desk lines).repeats;
}
