use Rattle.std.proofs.Common.{◌∙◌, ap, sym, arith, length}
use Rattle.reg_io.specs.DiskCalls.{history_of}
use Rattle.reg_io.specs.declared.disk_call.DiskCall.TheVariants.{Synced}
use Rattle.reg_io.proofs.DiskCalls.{history-push, next, synced_leaves, synced_only}
use Rattle.reg_io.proofs.memory_disk.MemoryDiskDisk.sync.Goals as goal

pub keep-requires : goal.keep-requires
keep-requires c =
    ap (λ h. h.now.content) (history-push c.args.self.now.first c.args.self.now.calls.items Synced)
    ∙ c.args.self.now.recorded

pub returns-in-Ok-clause-sure : goal.returns-in-Ok-clause-sure
returns-in-Ok-clause-sure c = let old = c.args.self.now in
    synced_only (history_of old.first old.calls.items) _ _ (old.recorded ∙ sym c.keep.ensures.bytes)
    (next old.first _ old.calls.items _ Synced c.keep.ensures.first c.in-Ok.ensures.calls)

pub returns-in-Ok-clause-leaves : goal.returns-in-Ok-clause-leaves
returns-in-Ok-clause-leaves c = let old = c.args.self.now in
    synced_leaves (history_of old.first old.calls.items) _ _ (old.recorded
    ∙ sym c.keep.ensures.bytes)
    (next old.first _ old.calls.items _ Synced c.keep.ensures.first c.in-Ok.ensures.calls)

pub returns-in-Ok-clause-later : goal.returns-in-Ok-clause-later
returns-in-Ok-clause-later c = let old = c.args.self.now in
    omega (
      arith,
      ap (λ h. length h.before) (next old.first _ old.calls.items _ Synced c.keep.ensures.first
          c.in-Ok.ensures.calls),
    )

pub returns-in-Ok-clause-syncs : goal.returns-in-Ok-clause-syncs
returns-in-Ok-clause-syncs c = let old = c.args.self.now in
    omega (
      arith,
      ap (λ h. length h.before) (next old.first _ old.calls.items _ Synced c.keep.ensures.first
          c.in-Ok.ensures.calls),
    )
