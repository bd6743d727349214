use Rattle.std.proofs.Common.{◌≡◌, None, Ok, List, ap, subst, sym, ◌∙◌, arith}
use Rattle.reg_base.specs.declared.records.Document.{Document}
use Rattle.desk_words.specs.declared.reply.Acknowledgement.TheVariants.{Swept}
use Rattle.desk_words.specs.declared.reply.Limit.TheVariants.{Records}
use Rattle.desk_model.specs.State.{Desk}
use Rattle.desk_model.specs.Stops.{or_stop}
use Rattle.desk_model.specs.Limits.{records_with, within_limit, most_kept_records}
use Rattle.desk_plans.specs.Sights.{sight_view}
use Rattle.desk_core.specs.declared.outcome.Change.TheVariants.{Remove}
use Rattle.desk_core.specs.declared.outcome.Outcome.{Outcome}
use Rattle.desk_core.specs.declared.outcome.Outcome.TheVariants.{Changes}
use Rattle.desk_core.specs.DeskViews.{DeskView}
use Rattle.desk_core.specs.Invariants.{AreKept}
use Rattle.desk_core.specs.Outcomes.{Comes, made_effect}
use Rattle.desk_core.proofs.PlanLemmas.{remove-comes}
use Rattle.desk_core.proofs.desk.Desk.remove_outcome.Goals as goal

pub returns-in-None : goal.returns-in-None
returns-in-None c = λ plan lines own suits removed.
    let desk : Desk = c.args.self.now.desk in
    let sight = sight_view c.args.sight.now in
    let same : c.self.inside.store.documents ≡ desk.serial.documents =
    ap (λ (v : DeskView). v.desk.serial.documents) c.self.view_is in
    let kept : AreKept desk.serial.documents c.self.inside.top c.self.inside.records =
    subst (λ (ds : List Document). AreKept ds c.self.inside.top c.self.inside.records) same
    c.self.invariant.kept in
    let counted : c.self.inside.records ≡ records_with desk.serial sight None =
    omega (arith, kept.counted) in
    let passed = c.in-None.ensures plan (Ok None) lines
    (ap (λ n. within_limit Records n most_kept_records) (sym counted)) in
    subst (λ (o : Outcome). Comes c.args.way.now desk (or_stop (made_effect c.args.way.now desk
    sight plan (Ok None))) o)
    (ap (λ n. Changes (Remove n) (Swept n)) own ∙ sym c.removal_outcome.ensures)
    (remove-comes c.args.way.now desk sight plan c.requires.seen suits removed (sym passed))
