-- No control so far has failed.
use Rattle.std.proofs.Common.{◌≡◌, Some, drop}
use Rattle.std.specs.Option.{option_copied}
use Rattle.reg_base.specs.Documents.{with_document}
use Rattle.desk_model.specs.Controls.{first_control}
use Rattle.desk_core.proofs.controls.failed_control.Given as goal

abbrev pub invariant-loop-control : goal.invariant-loop-control
invariant-loop-control l =
    first_control l.config l.controls (with_document l.after l.store.documents)
    (option_copied l.before) (Some l.after)
    ≡ first_control l.config (drop l.control-index l.controls)
    (with_document l.after l.store.documents) (option_copied l.before) (Some l.after)
