use Rattle.std.proofs.Common.{◌∙◌, ℕ, ap, subst, sym, refl, arith}
use Rattle.post_journal.specs.Images.{behind_gate}
use Rattle.post_journal.specs.Journals.{FitsBehind, JournalState, Stands}
use Rattle.post_journal.proofs.AppendSteps.{cut_off, gate_within, grows_appended, shows_append}
use Rattle.post_journal.proofs.AppendSteps.{stands_appended}
use Rattle.post_journal.proofs.ForAbove.{grows_cut}
use Rattle.post_journal.proofs.journal.Journal.append.Goals as goal

pub open_behind-requires-clause-gate : goal.open_behind-requires-clause-gate
open_behind-requires-clause-gate g c =
    let disk = g.D.Disk.state c.args.disk.now in
    let same = ap (λ (v : JournalState). v.end) c.self.view_is in
    gate_within disk.content c.self.inside.end
    (subst (λ (n : ℕ). Stands n disk) (sym same) c.requires.stands).run

pub returns-in_err-open_behind-clause-grows : goal.returns-in_err-open_behind-clause-grows
returns-in_err-open_behind-clause-grows g c =
    let old = g.D.Disk.state c.args.disk.now in
    let new = g.D.Disk.state c.open_behind.new.disk in
    let payload = c.args.payload.now.bytes in
    let same = ap (λ (v : JournalState). v.end) c.self.view_is in
    let stands = subst (λ (n : ℕ). Stands n old) (sym same) c.requires.stands in
    let fits = subst (λ (n : ℕ). FitsBehind n payload) (sym same) c.requires.fits in
    let is = c.put_behind.ensures ∙ ap behind_gate c.as_slice.ensures in
    cut_off _ old new payload c.from_residual.result c.from_residual.ensures.1
    (grows_cut old new payload (g.D.Disk.none_is_later c.args.disk.now) stands.sure
    (shows_append old new c.self.inside.end payload _ stands fits is c.open_behind.ensures.shows))

pub returns-clause-grows : goal.returns-clause-grows
returns-clause-grows g c =
    let old = g.D.Disk.state c.args.disk.now in
    let new = g.D.Disk.state c.open_behind.new.disk in
    let payload = c.args.payload.now.bytes in
    let same = ap (λ (v : JournalState). v.end) c.self.view_is in
    let stands = subst (λ (n : ℕ). Stands n old) (sym same) c.requires.stands in
    let fits = subst (λ (n : ℕ). FitsBehind n payload) (sym same) c.requires.fits in
    let is = c.put_behind.ensures ∙ ap behind_gate c.as_slice.ensures in
    let done = c.in_ok-open_behind.ensures in
    grows_appended old new c.self.inside.end payload _ stands fits is c.open_behind.ensures.shows
    done.ok done.sure

pub returns-clause-ends : goal.returns-clause-ends
returns-clause-ends g c =
    let old = g.D.Disk.state c.args.disk.now in
    let new = g.D.Disk.state c.open_behind.new.disk in
    let payload = c.args.payload.now.bytes in
    let same = ap (λ (v : JournalState). v.end) c.self.view_is in
    let stands = subst (λ (n : ℕ). Stands n old) (sym same) c.requires.stands in
    let fits = subst (λ (n : ℕ). FitsBehind n payload) (sym same) c.requires.fits in
    let is = c.put_behind.ensures ∙ ap behind_gate c.as_slice.ensures in
    let done = c.in_ok-open_behind.ensures in
    record {
      stands = rw c.len-len.ensures
          (stands_appended old new c.self.inside.end payload _ stands fits is done.ok done.sure);
      end = omega (arith, same, c.len-len.ensures);
      spare = omega (arith, c.clear.ensures.len);
      usable = refl;
    }
