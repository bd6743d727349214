use Rattle.std.proofs.Common.{◌∙◌, take, ap, sym, refl}
use Rattle.reg_io.specs.declared.disk_call.DiskCall.TheVariants.{Cut}
use Rattle.reg_io.proofs.DiskCalls.{next}
use Rattle.reg_io.proofs.memory_disk.MemoryDisk.shorten.Goals as goal

pub invariant_of-self : goal.invariant_of-self
invariant_of-self c = record {
  recorded = ap (λ h. h.now.content) (next c.args.self.now.first _ c.args.self.now.calls.items _
      (Cut c.args.len) refl c.in-Ok.ensures.items)
      ∙ ap (take c.args.len) c.args.self.now.recorded ∙ sym c.truncate.ensures.items;
}
