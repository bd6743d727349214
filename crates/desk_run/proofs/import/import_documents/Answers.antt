use Rattle.std.proofs.Common.{Err, Ok}
use Rattle.desk_core.proofs.ForAbove.{is_fault}
use Rattle.desk_run.proofs.ImportLemmas.{ImportsAt-part, ImportsAt-whole}
use Rattle.desk_run.proofs.import.import_documents.Goals as goal

pub returns-in_err-write_all-clause-imports : goal.returns-in_err-write_all-clause-imports
returns-in_err-write_all-clause-imports g c = rw
    (is_fault c.from_residual-in_err-write_all.result _ c.from_residual-in_err-write_all.ensures)
    (ImportsAt-part _ c.in_ok-groups.groups c.args.desk.now c.post_groups-posted.new.desk
    c.new-text.result.items c.post_groups-posted.new.out.items (g.O.Device.taken c.args.out.now)
    (g.O.Device.taken c.write_all.new.sink) (g.O.Device.write_faults c.args.out.now)
    (g.O.Device.write_faults c.write_all.new.sink) (g.D.Disk.state c.args.disk.now)
    (g.D.Disk.state c.post_groups-posted.new.disk) (g.D.Disk.faults c.args.disk.now)
    (g.D.Disk.faults c.post_groups-posted.new.disk)
    c.post_groups-posted.result (rw c.config.ensures.value at c.in_ok-groups.ensures.read) c.requires.going
    c.new-text.ensures.items
    c.post_groups-posted.ensures.ends (rw c.as_slice.ensures.value at c.in_err-write_all.ensures.err)
    c.in_err-write_all.ensures.cause.failed)

pub returns-in_err-posted-clause-imports : goal.returns-in_err-posted-clause-imports
returns-in_err-posted-clause-imports g c = rw
    (is_fault c.from_residual-in_err-posted.result _ c.from_residual-in_err-posted.ensures)
    (ImportsAt-whole _ c.in_ok-groups.groups c.args.desk.now c.post_groups-posted.new.desk
    c.new-text.result.items c.post_groups-posted.new.out.items (g.O.Device.taken c.args.out.now)
    (g.O.Device.taken c.write_all.new.sink) (g.O.Device.write_faults c.args.out.now)
    (g.O.Device.write_faults c.write_all.new.sink) (g.D.Disk.state c.args.disk.now)
    (g.D.Disk.state c.post_groups-posted.new.disk) (g.D.Disk.faults c.args.disk.now)
    (g.D.Disk.faults c.post_groups-posted.new.disk)
    (Err c.in_err-posted.field-0.0) (rw c.config.ensures.value at c.in_ok-groups.ensures.read) c.requires.going
    c.new-text.ensures.items
    c.in_err-posted.ensures.ends (rw c.as_slice.ensures.value at c.in_ok-write_all.ensures.ok))

pub returns-clause-imports : goal.returns-clause-imports
returns-clause-imports g c = ImportsAt-whole _ c.in_ok-groups.groups c.args.desk.now c.post_groups-posted.new.desk
    c.new-text.result.items c.post_groups-posted.new.out.items (g.O.Device.taken c.args.out.now)
    (g.O.Device.taken c.write_all.new.sink) (g.O.Device.write_faults c.args.out.now)
    (g.O.Device.write_faults c.write_all.new.sink) (g.D.Disk.state c.args.disk.now)
    (g.D.Disk.state c.post_groups-posted.new.disk) (g.D.Disk.faults c.args.disk.now)
    (g.D.Disk.faults c.post_groups-posted.new.disk)
    (Ok tt) (rw c.config.ensures.value at c.in_ok-groups.ensures.read) c.requires.going
    c.new-text.ensures.items
    c.in_ok-posted.ensures.ends (rw c.as_slice.ensures.value at c.in_ok-write_all.ensures.ok)
