-- The controls of the statements behind are in order.
use Rattle.std.proofs.Common.{◌≡◌, drop}
use Rattle.desk_model.specs.Controls.{controls_in}
use Rattle.desk_core.proofs.controls.controls_of.Given as goal

abbrev pub invariant-loop-place : goal.invariant-loop-place
invariant-loop-place l = l.controls.items ≡ controls_in (drop l.place l.statements)
