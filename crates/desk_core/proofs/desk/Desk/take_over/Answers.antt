use Rattle.std.proofs.Common.{◌≤◌, ap, ◌∙◌, arith}
use Rattle.std.proofs.lemmas.Bool.Decides.{nat_tests}
use Rattle.doc_store.specs.Stores.{Stored}
use Rattle.desk_core.specs.DeskViews.{DeskView}
use Rattle.desk_words.specs.declared.reply.Answer.TheVariants.{Acknowledged}
use Rattle.desk_model.specs.Desk.{meaning_at}
use Rattle.desk_model.specs.Journals.{longer}
use Rattle.desk_model.specs.LastRequests.{lasts_with}
use Rattle.desk_core.specs.Changes.{documents_changed}
use Rattle.desk_core.proofs.KeptLemmas.{IsKept-changed, may-replay}
use Rattle.desk_core.proofs.ReplayingLemmas.{takes-over}
use Rattle.desk_core.proofs.desk.Desk.take_over.Goals as goal

pub invariant_of-self-2 : goal.invariant_of-self-2
invariant_of-self-2 c =
    let journal = ap (λ (v : DeskView). v.desk.journal) c.self.view_is in
    IsKept-changed c.self.inside.config c.self.inside.rules c.self.inside.store c.stage.new.store
    c.keep.new.self c.args.self.now.desk c.args.change c.left_by-left.result
    c.self.inside.top c.self.inside.records c.self.inside.journal _ c.self.invariant
    (ap (λ (v : DeskView). v.desk.serial.documents) c.self.view_is)
    (ap (λ (v : DeskView). v.desk.serial.top) c.self.view_is)
    (may-replay c.args.self.now.desk c.args.change c.left_by-left.result c.requires.short
    c.requires.few c.left_by-left.ensures.value (grind (
      arith,
      nat_tests,
      c.if-left-gt-MOST_REPLAYED_RECORDS.false,
    )))
    c.left_by-left.ensures.value c.in_ok-stage.ensures.ok c.keep.ensures
    (omega (arith, journal, c.requires.low))

pub returns : goal.returns
returns c =
    let desk = c.args.self.now.desk in
    let within : c.left_by-left.result.records ≤ 8_000_000 =
    grind (arith, nat_tests, c.if-left-gt-MOST_REPLAYED_RECORDS.false) in
    takes-over desk c.args.self.now.stopped
    (record { config = c.self.inside.config; rules = c.self.inside.rules }) c.args.change
    c.args.acknowledgement c.args.request c.args.entry c.left_by-left.result
    c.keep.new.self.documents _ _ c.self.inside.stopped
    (ap (λ (v : DeskView). v.desk.setting) c.self.view_is)
    (ap (λ (s : Stored). s.documents) c.keep.ensures ∙ c.in_ok-stage.ensures.ok.kept_are
    ∙ ap (λ (v : DeskView). documents_changed c.args.change v.desk.serial.documents) c.self.view_is)
    c.left_by-left.ensures.value
    (c.keep_request.ensures desk.setting.config
    ∙ ap (lasts_with (meaning_at desk c.args.request).clerk
    (meaning_at desk c.args.request).number c.args.request
    (Acknowledged c.args.acknowledgement)) (c.in_ok-make_room.ensures.same
    ∙ ap (λ (v : DeskView). v.desk.serial.lasts) c.self.view_is))
    (ap (λ (v : DeskView). longer v.desk.journal c.args.entry) c.self.view_is)
    (ap (λ (v : DeskView). v.stopped) c.self.view_is) within
