use Rattle.std.proofs.Common.{ap, length}
use Rattle.reg_io.specs.DiskCalls.{history_of}
use Rattle.reg_io.specs.declared.disk_call.DiskCall.TheVariants.{Cut}
use Rattle.reg_io.proofs.DiskCalls.{next, shown, valid, was_cut}
use Rattle.reg_io.proofs.memory_disk.MemoryDiskDisk.cut.Goals as goal

pub returns-in-Ok-clause-shown : goal.returns-in-Ok-clause-shown
returns-in-Ok-clause-shown c = let new = c.shorten.new.self in
    shown new.first new.calls.items _ new.recorded

pub returns-in-Ok-clause-leaves : goal.returns-in-Ok-clause-leaves
returns-in-Ok-clause-leaves c = let old = c.args.self.now in
    was_cut (history_of old.first old.calls.items) _ c.args.len (valid old.first old.calls.items)
    (next old.first _ old.calls.items _ (Cut c.args.len) c.shorten.ensures.first
    c.in-Ok.ensures.calls)

pub returns-in-Ok-clause-syncs : goal.returns-in-Ok-clause-syncs
returns-in-Ok-clause-syncs c = let old = c.args.self.now in
    ap (λ h. length h.before) (next old.first _ old.calls.items _ (Cut c.args.len)
    c.shorten.ensures.first
    c.in-Ok.ensures.calls)

pub returns-in-Err-clause-shown : goal.returns-in-Err-clause-shown
returns-in-Err-clause-shown c = let new = c.fail.new.self in
    shown new.first new.calls.items _ new.recorded
