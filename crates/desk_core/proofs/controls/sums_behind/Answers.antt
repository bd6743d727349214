use Rattle.std.proofs.Common.{None, subst}
use Rattle.std.specs.List.{flat_map}
use Rattle.row_sums.specs.Sums.{Adds}
use Rattle.desk_core.specs.Controls.{booked_by_other}
use Rattle.desk_core.proofs.ControlSums.{AddsUp-with}
use Rattle.desk_core.proofs.controls.sums_behind.Goals as goal

pub returns : goal.returns
returns c =
    AddsUp-with c.args.after.now c.args.register c.args.resources c.args.documents
    c.requires.ordered c.add_records.new.sums
    ((subst (λ xs. Adds None c.args.resources xs c.in_ok-sums.sums c.add_records.new.sums)
    c.counted_set.ensures.value (c.in_ok-add_records.ensures c.args.after.now.doc.number)).sums
    (flat_map (booked_by_other c.args.after.now.doc.number c.args.register) c.args.documents)
    c.in_ok-sums.ensures.sums)
