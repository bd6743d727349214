use Rattle.std.proofs.Common.{◌∙◌, inl, ⊎_elim, ap, subst, length}
use Rattle.reg_io.specs.DiskCalls.{LeftSince, history_of}
use Rattle.reg_io.specs.declared.disk_call.DiskCall.TheVariants.{FailedCut}
use Rattle.reg_io.proofs.DiskCalls.{history-push, kept_or_not, next, shown, valid, failed_cut}
use Rattle.reg_io.proofs.memory_disk.FailingDiskDisk.cut.Goals as goal

pub keep-requires : goal.keep-requires
keep-requires c =
    ap (λ h. h.now.content) (history-push c.args.self.now.disk.first
    c.args.self.now.disk.calls.items (FailedCut c.args.len))
    ∙ c.args.self.now.disk.recorded

pub returns-then-next_fails-clause-shown : goal.returns-then-next_fails-clause-shown
returns-then-next_fails-clause-shown c = let new = c.fail.new.self in
    shown new.first new.calls.items _ new.recorded

pub returns-then-next_fails-clause-leaves : goal.returns-then-next_fails-clause-leaves
returns-then-next_fails-clause-leaves c = let old = c.args.self.now.disk in
    let first = c.fail.ensures.first ∙ c.keep.ensures.first in
    let same = ap (λ v. v.items) c.fail.ensures.calls in
    ⊎_elim
    (λ kept. failed_cut (history_of old.first old.calls.items) _ c.args.len
    (valid old.first old.calls.items)
    (next old.first _ old.calls.items _ (FailedCut c.args.len) first (same ∙ kept)))
    (λ kept k image left. inl (subst (λ h. LeftSince h k image)
    (λ i. history_of (first i) ((same ∙ kept) i)) left))
    (kept_or_not c.keep.result c.keep.ensures.calls c.keep.ensures.same_calls)

pub returns-then-next_fails-clause-syncs : goal.returns-then-next_fails-clause-syncs
returns-then-next_fails-clause-syncs c = let old = c.args.self.now.disk in
    let first = c.fail.ensures.first ∙ c.keep.ensures.first in
    let same = ap (λ v. v.items) c.fail.ensures.calls in
    ⊎_elim
    (λ kept. ap (λ h. length h.before) (next old.first _ old.calls.items _ (FailedCut c.args.len)
    first (same ∙ kept)))
    (λ kept i. length (history_of (first i) ((same ∙ kept) i)).before)
    (kept_or_not c.keep.result c.keep.ensures.calls c.keep.ensures.same_calls)
