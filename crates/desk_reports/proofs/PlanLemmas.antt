-- The plans of all requests give no amount past the largest number by hand.
use Rattle.std.proofs.Common.{ℕ, ◌≤◌, unsigned_abs, nat_le, List, IfOk}
use Rattle.std.specs.Prelude.{⊤}
use Rattle.std.specs.List.{All}
use Rattle.reg_base.specs.declared.records.DocState.{DocState}
use Rattle.reg_base.specs.declared.records.DocState.TheVariants.{Posted, Written}
use Rattle.reg_base.specs.Numbers.{largest_units, parse_num}
use Rattle.reg_base.specs.Results.{each, some_or}
use Rattle.reg_base.proofs.ForAbove.{IfOk-next, IfOk-then, IfOk-unless}
use Rattle.cfg_model.specs.declared.config.Config.{Config}
use Rattle.desk_words.specs.declared.reply.Field.TheVariants.{Space as SpaceField}
use Rattle.desk_words.specs.declared.reply.Refusal.TheVariants.{BadField, Closed as ClosedBooks}
use Rattle.desk_words.specs.declared.reply.Refusal.TheVariants.{UnknownDoc, WrongState}
use Rattle.desk_words.specs.declared.request.Manual.{Manual as ManualRequest}
use Rattle.desk_words.specs.declared.request.Post.TheVariants.{Content, Standing}
use Rattle.desk_words.specs.declared.request.Request.{Request}
use Rattle.desk_words.specs.declared.request.Request.TheVariants.{AccountBalance, AccountBoth}
use Rattle.desk_words.specs.declared.request.Request.TheVariants.{AccountTurnovers, Activity}
use Rattle.desk_words.specs.declared.request.Request.TheVariants.{Balance, Both, Close, Doc}
use Rattle.desk_words.specs.declared.request.Request.TheVariants.{Documents, DrCr, Manual, Mark}
use Rattle.desk_words.specs.declared.request.Request.TheVariants.{Post, Sweep, Turnovers, Unpost}
use Rattle.desk_words.specs.declared.request.Request.TheVariants.{Write}
use Rattle.desk_words.specs.declared.request.Switch.{Switch}
use Rattle.desk_words.specs.declared.request.Write.{Write as WriteRequest}
use Rattle.desk_model.specs.declared.plan.Plan.{Plan}
use Rattle.desk_model.specs.declared.plan.Source.{Source}
use Rattle.desk_model.specs.declared.plan.Source.TheVariants.{ByRules, Nothing}
use Rattle.desk_model.specs.Manuals.{are_distinct, given_sets, plan_manual, sets_in, space_of}
use Rattle.desk_model.specs.Meanings.{meaning_of}
use Rattle.desk_model.specs.Plans.{Deed, Sight, asks, changes, closes}
use Rattle.desk_model.specs.Posts.{is_posted_kind, is_unmarked_kind, plan_post, plan_standing}
use Rattle.desk_model.specs.Posts.{plan_unpost}
use Rattle.desk_model.specs.States.{dates_are_open, is_marked, is_posted_manual, key_is_free}
use Rattle.desk_model.specs.States.{named_is_seen, plan_activity, plan_mark, plan_sweep, takes}
use Rattle.desk_model.specs.States.{takes_switch}
use Rattle.desk_model.specs.Writes.{content_of, is_written_kind, plan_content, plan_write}
use Rattle.desk_reports.proofs.AmountLemmas.{GivesSmall, GivesSmallIn, sets_in-small}

-- what a plan gives by hand has no amount past the largest number
abbrev pub PlansSmall : Plan → Type 0
PlansSmall plan = GivesSmall plan.source

-- a plan whose records are not given by hand
plan_content-small : (state : DocState) (source : Source) (config : Config) (w : WriteRequest)
    (sight : Sight) → GivesSmall source
    → IfOk (plan_content state source config w sight) PlansSmall
unfolding plan_content
plan_content-small state source config w sight small =
    IfOk-next PlansSmall (content_of config w sight.before) _
    (λ content. IfOk-next PlansSmall (key_is_free sight.holder) _
    (λ _. IfOk-next PlansSmall (dates_are_open sight.closed sight.before w.date) _ (λ _. small)))

plan_write-small : (config : Config) (w : WriteRequest) (sight : Sight)
    → IfOk (plan_write config w sight) PlansSmall
unfolding plan_write
plan_write-small config w sight =
    IfOk-next PlansSmall (named_is_seen w.doc sight.before) _
    (λ _. IfOk-next PlansSmall (takes is_written_kind sight.before) _
    (λ _. plan_content-small Written Nothing config w sight tt))

plan_post-small : (config : Config) (w : WriteRequest) (sight : Sight)
    → IfOk (plan_post config w sight) PlansSmall
unfolding plan_post
plan_post-small config w sight =
    IfOk-next PlansSmall (named_is_seen w.doc sight.before) _
    (λ _. IfOk-next PlansSmall (takes is_unmarked_kind sight.before) _
    (λ _. plan_content-small Posted ByRules config w sight tt))

plan_standing-small : (sight : Sight) → IfOk (plan_standing sight) PlansSmall
unfolding plan_standing
plan_standing-small sight =
    IfOk-next PlansSmall (some_or sight.before UnknownDoc) _
    (λ d. IfOk-unless PlansSmall (is_unmarked_kind d.doc) (WrongState d.doc.state) _
    (λ _. IfOk-unless PlansSmall (nat_le sight.closed d.doc.date) (ClosedBooks sight.closed) _
    (λ _. tt)))

plan_unpost-small : (sight : Sight) → IfOk (plan_unpost sight) PlansSmall
unfolding plan_unpost
plan_unpost-small sight =
    IfOk-next PlansSmall (some_or sight.before UnknownDoc) _
    (λ d. IfOk-unless PlansSmall (is_posted_kind d.doc) (WrongState d.doc.state) _
    (λ _. IfOk-unless PlansSmall (nat_le sight.closed d.doc.date) (ClosedBooks sight.closed) _
    (λ _. tt)))

plan_mark-small : (m : Switch) (sight : Sight) → IfOk (plan_mark m sight) PlansSmall
unfolding plan_mark
plan_mark-small m sight =
    IfOk-next PlansSmall (some_or sight.before UnknownDoc) _
    (λ d. IfOk-unless PlansSmall (takes_switch m.on d.doc) (WrongState d.doc.state) _
    (λ _. IfOk-unless PlansSmall (nat_le sight.closed d.doc.date) (ClosedBooks sight.closed) _
    (λ _. tt)))

plan_activity-small : (m : Switch) (sight : Sight) → IfOk (plan_activity m sight) PlansSmall
unfolding plan_activity
plan_activity-small m sight =
    IfOk-next PlansSmall (some_or sight.before UnknownDoc) _
    (λ d. IfOk-unless PlansSmall (is_posted_manual d.doc) (WrongState d.doc.state) _
    (λ _. IfOk-unless PlansSmall (nat_le sight.closed d.doc.date) (ClosedBooks sight.closed) _
    (λ _. tt)))

plan_sweep-small : (sight : Sight) → IfOk (plan_sweep sight) PlansSmall
unfolding plan_sweep
plan_sweep-small sight =
    IfOk-next PlansSmall (some_or sight.before UnknownDoc) _
    (λ d. IfOk-unless PlansSmall (is_marked d.doc.state) (WrongState d.doc.state) _
    (λ _. IfOk-unless PlansSmall (nat_le sight.closed d.doc.date) (ClosedBooks sight.closed) _
    (λ _. tt)))

-- what a deed plans gives no amount past the largest number
abbrev pub DeedIsSmall : Deed → Type 0
DeedIsSmall (changes change) = (sight : Sight) → IfOk (change.plan sight) PlansSmall
DeedIsSmall (closes date) = ⊤
DeedIsSmall (asks question) = ⊤

module _ (in_range : (text : List ℕ) (scale : ℕ)
    → IfOk (parse_num text scale) (λ n. unsigned_abs n.units ≤ largest_units)) where
  plan_manual-small : (config : Config) (m : ManualRequest) (sight : Sight)
      → IfOk (plan_manual config m sight) PlansSmall
  unfolding plan_manual given_sets
  plan_manual-small config m sight =
      IfOk-next PlansSmall (named_is_seen m.doc sight.before) _
      (λ _. IfOk-next PlansSmall (takes is_posted_manual sight.before) _
      (λ _. IfOk-then (All GivesSmallIn) PlansSmall (given_sets config m.sets) _
      (IfOk-next (All GivesSmallIn) (each (space_of config) m.sets) _
      (λ spaces. IfOk-then (All GivesSmallIn) (All GivesSmallIn) (sets_in config spaces m.sets) _
      (sets_in-small in_range config spaces m.sets)
      (λ given are. IfOk-unless (All GivesSmallIn) (are_distinct spaces) (BadField SpaceField) _
      (λ _. are))))
      (λ given are. IfOk-next PlansSmall (key_is_free sight.holder) _
      (λ _. IfOk-next PlansSmall (dates_are_open sight.closed sight.before m.date) _
      (λ _. are)))))

  -- so do those of all requests
  pub meaning-small : (config : Config) (r : Request) → DeedIsSmall (meaning_of config r).deed
  meaning-small config (Write w) = plan_write-small config w
  meaning-small config (Post (Content w)) = plan_post-small config w
  meaning-small config (Post (Standing s)) = plan_standing-small
  meaning-small config (Unpost u) = plan_unpost-small
  meaning-small config (Mark m) = plan_mark-small m
  meaning-small config (Manual m) = plan_manual-small config m
  meaning-small config (Activity m) = plan_activity-small m
  meaning-small config (Close c) = tt
  meaning-small config (Sweep s) = plan_sweep-small
  meaning-small config (Balance b) = tt
  meaning-small config (Turnovers t) = tt
  meaning-small config (Both b) = tt
  meaning-small config (AccountBalance b) = tt
  meaning-small config (AccountTurnovers t) = tt
  meaning-small config (AccountBoth t) = tt
  meaning-small config (DrCr q) = tt
  meaning-small config (Documents q) = tt
  meaning-small config (Doc q) = tt
