use Rattle.std.proofs.Common.{◌∙◌, ⊎_elim, ap, sym, refl}
use Rattle.reg_io.specs.Disks.{put_at}
use Rattle.reg_io.specs.DiskCalls.{history_of}
use Rattle.reg_io.specs.declared.disk_call.DiskCall.TheVariants.{Wrote}
use Rattle.reg_io.proofs.DiskCalls.{done_or_not, next, wrote_content}
use Rattle.reg_io.proofs.memory_disk.MemoryDisk.write.Goals as goal

pub invariant_of-self : goal.invariant_of-self
invariant_of-self c = let old = c.args.self.now in let e = c.overwrite.ensures in
    let copy = c.in_ok-copy.copy in record {
      recorded = ⊎_elim
          (λ done. wrote_content (history_of old.first old.calls.items) _ c.args.place copy
          old.bytes.items old.recorded c.requires
          (next old.first _ old.calls.items _ (Wrote c.args.place copy) refl done.1)
          ∙ ap (λ b. put_at c.args.place b old.bytes.items) c.in_ok-copy.ensures ∙ sym done.0)
          (λ none. ap (λ calls. (history_of old.first calls).now.content) none.1 ∙ old.recorded
          ∙ sym none.0)
          (done_or_not c.overwrite.result e.bytes e.calls e.same_bytes e.same_calls);
    }
