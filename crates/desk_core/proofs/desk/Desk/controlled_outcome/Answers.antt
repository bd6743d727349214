use Rattle.std.proofs.Common.{◌≡◌, Some, Ok, List, ap, subst, sym, ◌∙◌}
use Rattle.reg_base.specs.declared.records.Document.{Document}
use Rattle.reg_base.specs.Documents.{with_document}
use Rattle.desk_model.specs.State.{Desk}
use Rattle.desk_model.specs.Stops.{or_stop}
use Rattle.desk_model.specs.Controls.{first_control}
use Rattle.desk_plans.specs.Sights.{sight_view}
use Rattle.desk_core.specs.declared.outcome.Outcome.{Outcome}
use Rattle.desk_core.specs.DeskViews.{DeskView}
use Rattle.desk_core.specs.Invariants.{AreKept}
use Rattle.desk_core.specs.Outcomes.{Comes, made_effect}
use Rattle.desk_core.proofs.PlanLemmas.{seen-short, put-comes, control-comes}
use Rattle.desk_core.proofs.desk.Desk.controlled_outcome.Goals as goal

pub failed_control-requires-clause-before : goal.failed_control-requires-clause-before
failed_control-requires-clause-before c = λ d seen.
    seen-short c.args.way.now c.args.self.now.desk.serial (sight_view c.args.sight.now)
    c.self.inside.top
    c.self.inside.records
    (subst (λ (ds : List Document). AreKept ds c.self.inside.top c.self.inside.records)
    (ap (λ (v : DeskView). v.desk.serial.documents) c.self.view_is) c.self.invariant.kept)
    c.requires.seen d seen

pub returns-in-Some : goal.returns-in-Some
returns-in-Some c = λ plan own suits put controls passed.
    let desk : Desk = c.args.self.now.desk in
    let sight = sight_view c.args.sight.now in
    let document = c.args.document in
    let documents : c.self.inside.store.documents ≡ desk.serial.documents =
    ap (λ (v : DeskView). v.desk.serial.documents) c.self.view_is in
    let config : c.self.inside.config ≡ desk.setting.config =
    ap (λ (v : DeskView). v.desk.setting.config) c.self.view_is in
    let failed = sym (c.in_ok-failure.ensures
    ∙ (λ i. first_control (config i) (controls i) (with_document document (documents i))
    sight.before (Some document))) ∙ c.in-Some.is in
    subst (λ (o : Outcome). Comes c.args.way.now desk (or_stop
    (made_effect c.args.way.now desk sight plan (Ok (Some document)))) o) (sym
    c.refusal_outcome.ensures)
    (control-comes c.args.way.now desk sight plan document c.requires.seen suits own
    c.in-Some.refusal passed
    failed)

pub returns-in-None : goal.returns-in-None
returns-in-None c = λ plan own suits put controls passed.
    let desk : Desk = c.args.self.now.desk in
    let sight = sight_view c.args.sight.now in
    let document = c.args.document in
    let documents : c.self.inside.store.documents ≡ desk.serial.documents =
    ap (λ (v : DeskView). v.desk.serial.documents) c.self.view_is in
    let config : c.self.inside.config ≡ desk.setting.config =
    ap (λ (v : DeskView). v.desk.setting.config) c.self.view_is in
    let kept : AreKept desk.serial.documents c.self.inside.top c.self.inside.records =
    subst (λ (ds : List Document). AreKept ds c.self.inside.top c.self.inside.records) documents
    c.self.invariant.kept in
    let held = sym (c.in_ok-failure.ensures
    ∙ (λ i. first_control (config i) (controls i) (with_document document (documents i))
    sight.before (Some document))) ∙ c.in-None.is in
    subst (λ (o : Outcome). Comes c.args.way.now desk (or_stop
    (made_effect c.args.way.now desk sight plan (Ok (Some document)))) o) (sym
    c.document_outcome.ensures)
    (put-comes c.args.way.now desk sight plan document c.requires.seen suits own
    c.self.inside.records
    (subst (λ n. AreKept desk.serial.documents n c.self.inside.records)
    (ap (λ (v : DeskView). v.desk.serial.top) c.self.view_is) kept)
    c.requires.bounds put passed held)
