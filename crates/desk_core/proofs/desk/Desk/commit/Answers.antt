use Rattle.std.proofs.Common.{true, ap, ◌∙◌, sym, arith}
use Rattle.doc_store.specs.Stores.{Stored}
use Rattle.desk_core.specs.DeskViews.{DeskView}
use Rattle.desk_core.proofs.KeptLemmas.{IsKept-changed, view_of}
use Rattle.desk_core.proofs.ServingLemmas.{failed-to-grow, has_risen}
use Rattle.desk_core.proofs.desk.Desk.commit.Goals as goal

pub returns-then-is_err-clause-commits : goal.returns-then-is_err-clause-commits
returns-then-is_err-clause-commits g c =
    let err = sym c.is_err.ensures.value ∙ c.if-is_err.true in
    let documents = ap (λ (s : Stored). s.documents) c.drop_slot.ensures
    ∙ c.in_ok-stage.ensures.ok.documents in (
      (λ i. view_of (record { config = c.self.inside.config; rules = c.self.inside.rules })
          (documents i) c.self.inside.top c.self.inside.closed (c.in_ok-make_room.ensures.same i)
          c.self.inside.journal true)
          ∙ ap (λ (v : DeskView). record { desk = v.desk; stopped = true }) c.self.view_is,
      failed-to-grow _ _ c.args.entry.text.bytes c.append.result err c.append.ensures.grows,
      has_risen _ _ c.append.result err c.append.ensures.cause.failed,
    )

pub invariant_of-self-2 : goal.invariant_of-self-2
invariant_of-self-2 g c =
    let journal = ap (λ (v : DeskView). v.desk.journal) c.self.view_is in
    IsKept-changed c.self.inside.config c.self.inside.rules c.self.inside.store c.stage.new.store
    c.keep.new.self c.args.self.now.desk c.args.entry.change c.left_by-left.result
    c.self.inside.top c.self.inside.records c.self.inside.journal _ c.self.invariant
    (ap (λ (v : DeskView). v.desk.serial.documents) c.self.view_is)
    (ap (λ (v : DeskView). v.desk.serial.top) c.self.view_is)
    c.requires.may.may c.left_by-left.ensures.value c.in_ok-stage.ensures.ok c.keep.ensures
    (omega (arith, journal, c.requires.may.low, c.len.ensures))
