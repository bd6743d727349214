-- For the crates above: what holds of the lines that were answered, of a clerk's last request, and
-- of what is done under a number, over plain variables.
use Rattle.std.proofs.Common.{List}
use Rattle.reg_base.specs.declared.line.Line.{Line}
use Rattle.desk_model.specs.State.{Desk}
use Rattle.desk_model.specs.Laws.{LawsHold}
use Rattle.desk_model.proofs.RepeatLemmas as laws
pub use Rattle.desk_model.proofs.Acknowledging.{Acknowledges, serial-acknowledges}
unfoldable pub use Rattle.desk_model.proofs.NumberLemmas.{HasReached}
pub use Rattle.desk_model.proofs.NumberLemmas.{desk_after-setting, last_of-put}
pub use Rattle.desk_model.proofs.NumberLemmas.{reached-below, reached-put}
pub use Rattle.desk_model.proofs.StepCases.{IsAbove, step-setting}
pub use Rattle.desk_model.proofs.NumberedDeeds.{HasNumber, meaning-HasNumber}

pub LawsHold-always : (desk : Desk) (lines : List Line) → LawsHold desk lines
LawsHold-always = laws.LawsHold-always
