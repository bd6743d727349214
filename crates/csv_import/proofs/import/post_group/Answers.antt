use Rattle.std.proofs.Common.{refl}
use Rattle.post_journal.proofs.ForAbove.{grows_none}
use Rattle.desk_core.proofs.ForAbove.{is_fault}
use Rattle.csv_import.proofs.import.post_group.Goals as goal

pub returns-in_err-make_room-clause-ends : goal.returns-in_err-make_room-clause-ends
returns-in_err-make_room-clause-ends g c =
    rw (is_fault c.from_residual.result _ c.from_residual.ensures)
    (refl, grows_none _ c.requires.holds.stands.stands.sure)
