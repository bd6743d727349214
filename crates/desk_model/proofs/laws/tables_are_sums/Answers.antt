use Rattle.desk_model.proofs.TableLemmas.{TablesHold-always}
use Rattle.desk_model.proofs.laws.tables_are_sums.Goals as goal

pub returns : goal.returns
returns c = TablesHold-always
