use Rattle.reg_io.specs.DiskCalls.{history_of}
use Rattle.reg_io.proofs.Crashes.{left}
use Rattle.reg_io.proofs.memory_disk.MemoryDisk.after_crash.Goals as goal

pub returns-clause-left : goal.returns-clause-left
returns-clause-left c = let d = c.args.self.now in
    left c.args.image d.first d.calls.items d.bytes.items c.into_image.result.items
    (c.into_image.ensures (history_of d.first d.calls.items)
    (rw (c.as_slice.ensures, c.as_slice-2.ensures.value) at c.in_ok-replay.ensures))
