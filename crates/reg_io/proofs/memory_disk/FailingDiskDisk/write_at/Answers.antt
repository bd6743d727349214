use Rattle.std.proofs.Common.{◌∙◌, inl, ⊎_elim, ap, subst, length}
use Rattle.reg_io.specs.DiskCalls.{LeftSince, history_of}
use Rattle.reg_io.specs.declared.disk_call.DiskCall.TheVariants.{FailedWrite}
use Rattle.reg_io.proofs.DiskCalls.{history-push, kept_or_not, next, shown, valid, failed_write}
use Rattle.reg_io.proofs.memory_disk.FailingDiskDisk.write_at.Goals as goal

pub keep-requires : goal.keep-requires
keep-requires c =
    ap (λ h. h.now.content) (history-push c.args.self.now.disk.first
    c.args.self.now.disk.calls.items (FailedWrite c.args.place (length c.args.bytes.now)))
    ∙ c.args.self.now.disk.recorded

pub returns-then-next_fails-clause-shown : goal.returns-then-next_fails-clause-shown
returns-then-next_fails-clause-shown c = let new = c.fail.new.self in
    shown new.first new.calls.items _ new.recorded

pub returns-then-next_fails-clause-leaves : goal.returns-then-next_fails-clause-leaves
returns-then-next_fails-clause-leaves c = let old = c.args.self.now.disk in
    let first = c.fail.ensures.first ∙ c.keep.ensures.first in
    let same = ap (λ v. v.items) c.fail.ensures.calls in
    ⊎_elim
    (λ kept. failed_write (history_of old.first old.calls.items) _ c.args.place
    (length c.args.bytes.now) old.bytes.items
    (valid old.first old.calls.items) old.recorded c.requires
    (next old.first _ old.calls.items _ (FailedWrite c.args.place (length c.args.bytes.now)) first
    (same ∙ kept)))
    (λ kept k image left. inl (subst (λ h. LeftSince h k image)
    (λ i. history_of (first i) ((same ∙ kept) i)) left))
    (kept_or_not c.keep.result c.keep.ensures.calls c.keep.ensures.same_calls)

pub returns-then-next_fails-clause-syncs : goal.returns-then-next_fails-clause-syncs
returns-then-next_fails-clause-syncs c = let old = c.args.self.now.disk in
    let first = c.fail.ensures.first ∙ c.keep.ensures.first in
    let same = ap (λ v. v.items) c.fail.ensures.calls in
    ⊎_elim
    (λ kept. ap (λ h. length h.before)
    (next old.first _ old.calls.items _ (FailedWrite c.args.place (length c.args.bytes.now))
    first (same ∙ kept)))
    (λ kept i. length (history_of (first i) ((same ∙ kept) i)).before)
    (kept_or_not c.keep.result c.keep.ensures.calls c.keep.ensures.same_calls)
