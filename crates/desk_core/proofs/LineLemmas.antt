-- What a line is answered, from what is prepared of it.
use Rattle.std.specs.Prelude.{Vec}
use Rattle.std.specs.declared.alloc.Global.{Global}
use Rattle.std.proofs.Common.{◌≡◌, ℕ, true, false, cond, Some, None, List, [], ◌∷◌, ◌++◌, ap, ◌∙◌}
use Rattle.std.proofs.Common.{refl, sym, subst}
use Rattle.reg_io.specs.Disks.{DiskState}
use Rattle.post_journal.specs.Journals.{Grows, JournalState}
use Rattle.post_journal.proofs.ForAbove.{grows_none}
use Rattle.desk_history.specs.Histories.{event_entries, line_entries}
use Rattle.desk_core.specs.DeskViews.{DeskView}
use Rattle.std.specs.Prelude.{Result, Ok, Err}
use Rattle.std.proofs.lemmas.Bool.{false≢true}
use Rattle.desk_words.specs.declared.reply.Refusal.{Refusal}
use Rattle.desk_core.specs.declared.desk.StepEnd.{StepEnd}
use Rattle.desk_core.specs.declared.desk.StepEnd.TheVariants.{Memory, DiskFault, Closed}
use Rattle.desk_core.specs.Histories.{Holds, IsReady, Makes, ReplaysToEither}
use Rattle.reg_base.specs.declared.line.Line.{Line}
use Rattle.desk_words.specs.ReplyTexts.{reply_text}
use Rattle.desk_model.specs.State.{Desk}
use Rattle.desk_model.specs.Answers.{is_blank_line, line_event, line_answer, line_desk}
use Rattle.desk_model.specs.Answers.{refusal_event}
use Rattle.desk_core.specs.Lines.{AnswersLine, IsRefusedText, LineDone, LineEnds, TextEnds}

-- nothing is answered to a blank line, and the desk stays
pub AnswersLine-blank : (desk : Desk) (line : Line) → is_blank_line line ≡ true →
    AnswersLine desk line None desk
unfolding line_answer line_desk
AnswersLine-blank desk line blank = record {
  text = ap (λ b. cond b [] (reply_text (line_event desk line).reply ++ 10 ∷ [])) (sym blank);
  blank = sym blank;
  desk_is = ap (λ b. cond b desk (line_event desk line).desk) (sym blank);
}

-- so is a desk over its journal, whether it is stopped or not
pub LineDone-blank : (view : DeskView) (line : Line) (journal : JournalState) (disk : DiskState) →
    is_blank_line line ≡ true → IsReady view journal disk → LineDone view view line None disk disk
unfolding line_entries
LineDone-blank view line journal disk blank ready = record {
  answers = AnswersLine-blank view.desk line blank;
  same = refl;
  blank = λ stopped. blank;
  grows = λ going. subst (λ (es : List (List ℕ)). Grows disk disk es [])
      (ap (λ b. cond b [] (event_entries (line_event view.desk line))) (sym blank))
      (grows_none disk (ready going).stands.stands.sure);
}

-- the desk after a line that is not blank is that of its event
line_desk-event : (desk : Desk) (line : Line) → is_blank_line line ≡ false →
    (line_event desk line).desk ≡ line_desk desk line
unfolding line_desk
line_desk-event desk line not_blank =
    ap (λ b. cond b desk (line_event desk line).desk) (sym not_blank)

-- another line is answered as its event is
pub AnswersLine-event : (desk : Desk) (line : Line) (text : Vec ℕ Global) (new : Desk) →
    is_blank_line line ≡ false →
    text.items ≡ reply_text (line_event desk line).reply ++ 10 ∷ [] →
    new ≡ (line_event desk line).desk → AnswersLine desk line (Some text) new
unfolding line_answer
AnswersLine-event desk line text new not_blank text_is desk_is = record {
  text = text_is ∙ ap (λ b. cond b [] (reply_text (line_event desk line).reply ++ 10 ∷ []))
      (sym not_blank);
  blank = sym not_blank;
  desk_is = desk_is ∙ line_desk-event desk line not_blank;
}

-- the entries of a line that is not blank are those of its event
line_entries-event : (desk : Desk) (line : Line) → is_blank_line line ≡ false →
    event_entries (line_event desk line) ≡ line_entries desk line
unfolding line_entries
line_entries-event desk line not_blank =
    ap (λ b. cond b [] (event_entries (line_event desk line))) (sym not_blank)

-- what a line's text comes to is what the line comes to
pub line-done : (old new : DeskView) (line : Line) (text : Vec ℕ Global) (disk disk_now : DiskState)
    → is_blank_line line ≡ false →
    (text.items ≡ reply_text (line_event old.desk line).reply ++ 10 ∷ [])
    × Makes (event_entries (line_event old.desk line)) (line_event old.desk line).desk old new disk
    disk_now → LineDone old new line (Some text) disk disk_now
line-done old new line text disk disk_now not_blank ends = record {
  answers = AnswersLine-event old.desk line text new.desk not_blank ends.0
      (ap (λ (v : DeskView). v.desk) ends.1.new_is);
  same = ap (λ (v : DeskView). v.stopped) ends.1.new_is ∙ sym ends.1.going;
  blank = λ stopped. absurd (false≢true (sym ends.1.going ∙ stopped));
  grows = λ going. subst (λ (es : List (List ℕ)). Grows disk disk_now es [])
      (line_entries-event old.desk line not_blank) ends.1.grows;
}

pub line-failed : (old new : DeskView) (line : Line) (disk disk_now : DiskState)
    (faults faults_now : ℕ) (end : StepEnd) → is_blank_line line ≡ false → old.stopped ≡ false →
    TextEnds (line_event old.desk line) old new disk disk_now faults faults_now (Err end) →
    LineEnds old new line disk disk_now faults faults_now (Err end)
line-failed old new line disk disk_now faults faults_now Memory not_blank going ends = (going, ends)
line-failed old new line disk disk_now faults faults_now DiskFault not_blank going ends = record {
  going = going;
  new_is = ends.new_is;
  grows = subst (λ (es : List (List ℕ)). Grows disk disk_now [] es)
      (line_entries-event old.desk line not_blank) ends.grows;
  replays = subst (λ (d : Desk). ReplaysToEither old.desk d disk_now.content)
      (line_desk-event old.desk line not_blank) ends.replays;
  cause = ends.cause;
}
line-failed old new line disk disk_now faults faults_now Closed not_blank going ends = absurd ends

-- a refusal changes nothing
pub refused-ends : (refusal : Refusal) (view : DeskView) (journal : JournalState) (disk : DiskState)
    (faults : ℕ) (result : Result (Vec ℕ Global) StepEnd) → view.stopped ≡ false →
    Holds view.desk journal disk → IsRefusedText refusal result →
    TextEnds (refusal_event view.desk refusal) view view disk disk faults faults result
refused-ends refusal view journal disk faults (Ok text) going holds is = (
  is,
  record {
    going = going;
    new_is = ap (λ b. record { desk = view.desk; stopped = b }) going;
    grows = grows_none disk holds.stands.stands.sure;
  },
)
refused-ends refusal view journal disk faults (Err Memory) going holds is = refl
refused-ends refusal view journal disk faults (Err DiskFault) going holds is = absurd is
refused-ends refusal view journal disk faults (Err Closed) going holds is = absurd is
