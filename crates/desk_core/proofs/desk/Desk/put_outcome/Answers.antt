use Rattle.std.proofs.Common.{◌≡◌, ◌+◌, Some, Ok, List, ap, subst, sym}
use Rattle.reg_base.specs.declared.records.Document.{Document}
use Rattle.desk_words.specs.declared.reply.Limit.TheVariants.{Records}
use Rattle.desk_model.specs.State.{Desk}
use Rattle.desk_model.specs.Limits.{records_with, within_limit, most_kept_records}
use Rattle.desk_plans.specs.Sights.{sight_view}
use Rattle.desk_core.specs.DeskViews.{DeskView}
use Rattle.desk_core.specs.Invariants.{AreKept}
use Rattle.desk_core.proofs.PlanLemmas.{seen-short}
use Rattle.desk_core.proofs.desk.Desk.put_outcome.Goals as goal

pub growth-requires-clause-before : goal.growth-requires-clause-before
growth-requires-clause-before c = λ d seen.
    seen-short c.args.way.now c.args.self.now.desk.serial (sight_view c.args.sight.now)
    c.self.inside.top
    c.self.inside.records
    (subst (λ (ds : List Document). AreKept ds c.self.inside.top c.self.inside.records)
    (ap (λ (v : DeskView). v.desk.serial.documents) c.self.view_is) c.self.invariant.kept)
    c.requires.seen d seen

pub returns-in-None : goal.returns-in-None
returns-in-None c = λ plan lines own suits put controls.
    let desk : Desk = c.args.self.now.desk in
    let sight = sight_view c.args.sight.now in
    let document = c.args.document in
    let same : c.self.inside.store.documents ≡ desk.serial.documents =
    ap (λ (v : DeskView). v.desk.serial.documents) c.self.view_is in
    let kept : AreKept desk.serial.documents c.self.inside.top c.self.inside.records =
    subst (λ (ds : List Document). AreKept ds c.self.inside.top c.self.inside.records) same
    c.self.invariant.kept in
    let counted : c.self.inside.records + c.growth.result
    ≡ records_with desk.serial sight (Some document) =
    λ i. kept.counted i + c.growth.ensures.value i in
    let passed = c.in-None.ensures plan (Ok (Some document)) lines
    (ap (λ n. within_limit Records n most_kept_records) (sym counted)) in
    c.controlled_outcome.ensures plan own suits put controls (sym passed)
