use Rattle.std.proofs.Common.{◌≡◌, ℕ, Option, Some, None, Ok, Err, IfOk, Result, List, refl, ap}
use Rattle.std.proofs.Common.{◌≤◌, subst, sym, ◌∙◌}
use Rattle.reg_base.specs.declared.records.Document.{Document}
use Rattle.reg_base.specs.Records.{Booked, records_of}
use Rattle.post_rules.specs.Sheets.{IsSheet}
use Rattle.desk_words.specs.declared.reply.Refusal.{Refusal}
use Rattle.desk_model.specs.State.{Desk}
use Rattle.desk_model.specs.Effects.{Effect}
use Rattle.desk_model.specs.Stops.{or_stop}
use Rattle.desk_model.specs.DocumentSets.{document_from}
use Rattle.desk_model.specs.Serial.{made_at}
use Rattle.desk_plans.specs.Sights.{sight_view}
use Rattle.reg_base.specs.Tries.{Tries}
use Rattle.desk_core.specs.DeskViews.{DeskView}
use Rattle.desk_core.specs.Invariants.{AreKept}
use Rattle.desk_core.specs.Outcomes.{Comes, made_effect}
use Rattle.desk_core.proofs.PlanLemmas.{seen-short}
use Rattle.desk_core.proofs.SheetLemmas.{documents-sheet}
use Rattle.desk_core.proofs.MadeLemmas.{made-own, made-put, none-removed, plan-made}
use Rattle.desk_core.proofs.desk.Desk.plan_outcome.Goals as goal

pub document_from-requires-clause-before : goal.document_from-requires-clause-before
document_from-requires-clause-before c = λ d seen.
    seen-short c.args.way.now c.args.self.now.desk.serial (sight_view c.args.sight.now)
    c.self.inside.top
    c.self.inside.records
    (subst (λ (ds : List Document). AreKept ds c.self.inside.top c.self.inside.records)
    (ap (λ (v : DeskView). v.desk.serial.documents) c.self.view_is) c.self.invariant.kept)
    c.requires.seen d seen

pub document_from-requires-clause-sheets : goal.document_from-requires-clause-sheets
document_from-requires-clause-sheets c = λ register.
    let kept = c.self.invariant.kept in
    subst (λ (ds : List Document). IsSheet (records_of register ds))
    (sym (ap (λ b. b.documents) c.new-books.ensures))
    (documents-sheet c.self.inside.store.documents kept.short
    (subst (λ (n : ℕ). n ≤ 8_000_000) kept.counted kept.within) register)

pub returns-in-Ok-Some : goal.returns-in-Ok-Some
returns-in-Ok-Some c = λ tested.
    let desk : Desk = c.args.self.now.desk in
    let sight = sight_view c.args.sight.now in
    let plan = c.args.plan in
    let document = c.in-Ok-Some.document in
    let setting : record { config = c.self.inside.config; rules = c.self.inside.rules }
    ≡ desk.setting = ap (λ (v : DeskView). v.desk.setting) c.self.view_is in
    let documents : c.self.inside.store.documents ≡ desk.serial.documents =
    ap (λ (v : DeskView). v.desk.serial.documents) c.self.view_is in
    let books : (λ (register : ℕ). records_of register c.new-books.result.documents)
    ≡ (λ (register : ℕ). records_of register c.self.inside.store.documents) =
    ap {B = ℕ → List Booked} (λ (ds : List Document) (register : ℕ). records_of register ds)
    (ap (λ b. b.documents) c.new-books.ensures) in
    let made : made_at desk.setting desk.serial sight plan ≡ Ok (Some document) =
    (λ i. document_from (sym setting i) (sym documents i) sight.before plan.doc plan.source)
    ∙ c.in-Ok-Some.ensures.value c.self.inside.store.documents books
    ∙ ap Ok c.in-Ok-Some.field-0-is in
    subst (λ (e : Result Effect Refusal). IfOk c.put_outcome.result (Comes c.args.way.now desk
    (or_stop e)))
    (sym (plan-made c.args.way.now desk tested sight plan (Ok (Some document)) made))
    (c.put_outcome.ensures plan (sym c.len-lines.ensures)
    (made-own desk.setting desk.serial.documents sight.before plan.doc plan.source document made)
    c.requires.suits
    (made-put desk.setting desk.serial.documents sight.before plan.doc plan.source document made)
    (c.deref.ensures.value ∙ c.in_ok-controls.ensures))

pub returns-in-Ok-None : goal.returns-in-Ok-None
returns-in-Ok-None c = λ tested.
    let desk : Desk = c.args.self.now.desk in
    let sight = sight_view c.args.sight.now in
    let plan = c.args.plan in
    let setting : record { config = c.self.inside.config; rules = c.self.inside.rules }
    ≡ desk.setting = ap (λ (v : DeskView). v.desk.setting) c.self.view_is in
    let documents : c.self.inside.store.documents ≡ desk.serial.documents =
    ap (λ (v : DeskView). v.desk.serial.documents) c.self.view_is in
    let books : (λ (register : ℕ). records_of register c.new-books.result.documents)
    ≡ (λ (register : ℕ). records_of register c.self.inside.store.documents) =
    ap {B = ℕ → List Booked} (λ (ds : List Document) (register : ℕ). records_of register ds)
    (ap (λ b. b.documents) c.new-books.ensures) in
    let made : made_at desk.setting desk.serial sight plan ≡ Ok None =
    (λ i. document_from (sym setting i) (sym documents i) sight.before plan.doc plan.source)
    ∙ c.in-Ok-None.ensures.value c.self.inside.store.documents books
    ∙ ap Ok c.in-Ok-None.field-0-is in
    subst (λ (e : Result Effect Refusal). Comes c.args.way.now desk (or_stop e)
    c.remove_outcome.result)
    (sym (plan-made c.args.way.now desk tested sight plan (Ok None) made))
    (c.remove_outcome.ensures plan (sym c.len-lines.ensures) refl c.requires.suits
    (none-removed desk.setting desk.serial.documents sight.before plan.doc plan.source made))

pub returns-in-Err-Refused : goal.returns-in-Err-Refused
returns-in-Err-Refused c = λ tested.
    let desk : Desk = c.args.self.now.desk in
    let sight = sight_view c.args.sight.now in
    let plan = c.args.plan in
    let setting : record { config = c.self.inside.config; rules = c.self.inside.rules }
    ≡ desk.setting = ap (λ (v : DeskView). v.desk.setting) c.self.view_is in
    let documents : c.self.inside.store.documents ≡ desk.serial.documents =
    ap (λ (v : DeskView). v.desk.serial.documents) c.self.view_is in
    let books : (λ (register : ℕ). records_of register c.new-books.result.documents)
    ≡ (λ (register : ℕ). records_of register c.self.inside.store.documents) =
    ap {B = ℕ → List Booked} (λ (ds : List Document) (register : ℕ). records_of register ds)
    (ap (λ b. b.documents) c.new-books.ensures) in
    let made : made_at desk.setting desk.serial sight plan ≡ Err c.in-Err-Refused.refusal =
    (λ i. document_from (sym setting i) (sym documents i) sight.before plan.doc plan.source)
    ∙ subst (λ why. Tries {X = Option Document} (Err why) (document_from
    (record { config = c.self.inside.config; rules = c.self.inside.rules })
    c.self.inside.store.documents sight.before plan.doc plan.source)) c.in-Err-Refused.field-0-is
    (c.in-Err-Refused.ensures.value c.self.inside.store.documents books) in
    subst (λ (e : Result Effect Refusal). Comes c.args.way.now desk (or_stop e)
    c.refused_outcome.result)
    (sym (plan-made c.args.way.now desk tested sight plan (Err c.in-Err-Refused.refusal) made))
    (subst (λ why. Comes c.args.way.now desk (or_stop (made_effect c.args.way.now desk sight plan
    (Err why)))
    c.refused_outcome.result) c.in-Err-Refused.refusal-is
    (c.refused_outcome.ensures plan (sym c.len-lines.ensures)))
