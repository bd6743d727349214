-- The numbers of a clerk rise, and a repeat changes nothing and is given the same reply.
use Rattle.std.proofs.Common.{◌≡◌, ℕ, ◌<◌, ◌≤◌, Bool, true, false, cond, Option, Some, None, List}
use Rattle.std.proofs.Common.{[], ◌∷◌, Result, Ok, Err, refl, sym, ap, ◌∙◌, subst, ◌⊎◌, inl, inr}
use Rattle.std.proofs.Common.{arith}
use Rattle.std.specs.Str.{bytes_eq}
use Rattle.std.proofs.lemmas.Slice.Eq.{bytes_eq-Decides}
use Rattle.reg_base.specs.declared.line.Line.{Line}
use Rattle.desk_words.specs.declared.request.Request.{Request}
use Rattle.desk_words.specs.declared.fault.WordFault.{WordFault}
use Rattle.desk_words.specs.declared.reply.Refusal.TheVariants.{UnknownClerk}
use Rattle.desk_words.specs.Reading.{request}
use Rattle.desk_model.specs.declared.last.Last.{Last}
use Rattle.desk_model.specs.State.{Desk}
use Rattle.desk_model.specs.Clerks.{is_batch}
use Rattle.desk_model.specs.LastRequests.{last_of, with_last}
use Rattle.desk_model.specs.Desk.{Event, meaning_at, step}
use Rattle.desk_model.specs.Answers.{is_blank_line, refusal_event}
use Rattle.desk_model.specs.Answers.{desk_after, event_of_reading, line_event, line_desk}
use Rattle.desk_model.specs.Laws.{Commits}
use Rattle.desk_model.proofs.StepCases.{IsAbove, Stays, Enters, Comes, step-comes}

-- ---- the last request of a clerk

pub bytes_eq-same : (bytes : List ℕ) → bytes_eq bytes bytes ≡ true
bytes_eq-same bytes = (bytes_eq-Decides bytes bytes).1 refl

-- what was put is the clerk's last
pub last_of-put : (last : Last) (lasts : List Last) →
    last_of last.clerk (with_last last lasts) ≡ Some last
last_of-put last [] = ap (λ b. cond b (Some last) None) (bytes_eq-same last.clerk)
last_of-put last (l ∷ ls) = at (bytes_eq l.clerk last.clerk) refl (last_of-put last ls)
  where
    at : (b : Bool) → bytes_eq l.clerk last.clerk ≡ b →
        last_of last.clerk (with_last last ls) ≡ Some last →
        last_of last.clerk (cond b (last ∷ ls) (l ∷ with_last last ls)) ≡ Some last
    at true is ih = ap (λ c. cond c (Some last) (last_of last.clerk ls)) (bytes_eq-same last.clerk)
    at false is ih =
        ap (λ c. cond c (Some l) (last_of last.clerk (with_last last ls))) is ∙ ih

-- the last request of another clerk stays
pub last_of-other : (last : Last) (lasts : List Last) (clerk : List ℕ) →
    bytes_eq last.clerk clerk ≡ false →
    last_of clerk (with_last last lasts) ≡ last_of clerk lasts
last_of-other last [] clerk apart = ap (λ b. cond b (Some last) None) apart
last_of-other last (l ∷ ls) clerk apart =
    at (bytes_eq l.clerk last.clerk) refl (last_of-other last ls clerk apart)
  where
    at : (b : Bool) → bytes_eq l.clerk last.clerk ≡ b →
        last_of clerk (with_last last ls) ≡ last_of clerk ls →
        last_of clerk (cond b (last ∷ ls) (l ∷ with_last last ls))
        ≡ cond (bytes_eq l.clerk clerk) (Some l) (last_of clerk ls)
    at true is ih =
        let same = (bytes_eq-Decides l.clerk last.clerk).0 is in
        ap (λ c. cond c (Some last) (last_of clerk ls)) apart
        ∙ sym (ap (λ c. cond c (Some l) (last_of clerk ls))
        (ap (λ x. bytes_eq x clerk) same ∙ apart))
    at false is ih = ap (λ x. cond (bytes_eq l.clerk clerk) (Some l) x) ih

-- ---- what a line comes to

-- a line leaves the desk and commits nothing
pub record StaysAt (desk : Desk) (line : Line) : Type 0 where
  pub same : line_desk desk line ≡ desk
  pub none : (clerk : List ℕ) (number : ℕ) → Commits desk line clerk number → ⊥

-- the request of a line enters
pub record EntersAt (desk : Desk) (line : Line) : Type 0 where
  pub r : Request
  pub read : request line ≡ Ok r
  pub sighted : is_blank_line line ≡ false
  pub outside : is_batch (meaning_at desk r).clerk ≡ false
  pub event_is : line_event desk line ≡ step desk r
  pub desk_is : line_desk desk line ≡ (step desk r).desk
  pub enters : Enters desk (meaning_at desk r) r (step desk r)

apart : {X : Type 0} (x : X) (xs : List X) → [] ≡ x ∷ xs → ⊥
apart x xs e = absurd (cc)

-- an event that commits nothing and stays
event-stays : (desk : Desk) (line : Line) (event : Event) → line_event desk line ≡ event →
    Stays desk event → StaysAt desk line
unfolding line_desk
event-stays desk line event is stays = record {
  same = at (is_blank_line line);
  none = λ clerk number commits. apart _ []
      (sym stays.commits_none ∙ ap (λ e. e.commits) (sym is) ∙ commits.committed);
}
  where
    at : (blank : Bool) → cond blank desk (line_event desk line).desk ≡ desk
    at true = refl
    at false = ap (λ e. e.desk) is ∙ stays.same

-- a blank line
blank-stays : (desk : Desk) (line : Line) → is_blank_line line ≡ true → StaysAt desk line
unfolding line_desk
blank-stays desk line blank = record {
  same = ap (λ b. cond b desk (line_event desk line).desk) blank;
  none = λ clerk number commits. clash (sym blank ∙ commits.sighted);
}
  where
    clash : true ≡ false → ⊥
    clash e = absurd (cc)

refused-stays : (desk : Desk) (event : Event) → event.commits ≡ [] → event.desk ≡ desk →
    Stays desk event
refused-stays desk event none same = record { commits_none = none; same = same }

pub line-comes : (desk : Desk) (line : Line) → StaysAt desk line ⊎ EntersAt desk line
unfolding line_desk
line-comes desk line = at (is_blank_line line) refl
  where
    stepped : (r : Request) → request line ≡ Ok r → is_blank_line line ≡ false →
        is_batch (meaning_at desk r).clerk ≡ false →
        line_event desk line ≡ step desk r →
        Comes desk (meaning_at desk r) r (step desk r) → StaysAt desk line ⊎ EntersAt desk line
    stepped r read sighted outside event_is (inl stays) =
        inl (event-stays desk line (step desk r) event_is stays)
    stepped r read sighted outside event_is (inr enters) = inr (record {
      r = r;
      read = read;
      sighted = sighted;
      outside = outside;
      event_is = event_is;
      desk_is = ap (λ b. cond b desk (line_event desk line).desk) sighted
          ∙ ap (λ e. e.desk) event_is;
      enters = enters;
    })

    asked : (r : Request) → request line ≡ Ok r → is_blank_line line ≡ false →
        (batch : Bool) → is_batch (meaning_at desk r).clerk ≡ batch →
        StaysAt desk line ⊎ EntersAt desk line
    asked r read sighted true is =
        inl (event-stays desk line (refusal_event desk UnknownClerk)
        (ap (event_of_reading desk) read
        ∙ ap (λ b. cond b (refusal_event desk UnknownClerk) (step desk r)) is)
        (record { commits_none = refl; same = refl }))
    asked r read sighted false is =
        stepped r read sighted is
        (ap (event_of_reading desk) read
        ∙ ap (λ b. cond b (refusal_event desk UnknownClerk) (step desk r)) is)
        (step-comes desk r)

    reading : is_blank_line line ≡ false → (found : Result Request WordFault) →
        request line ≡ found → StaysAt desk line ⊎ EntersAt desk line
    reading sighted (Ok r) read = asked r read sighted (is_batch (meaning_at desk r).clerk) refl
    reading sighted (Err fault) read =
        inl (event-stays desk line _ (ap (event_of_reading desk) read)
        (record { commits_none = refl; same = refl }))

    at : (blank : Bool) → is_blank_line line ≡ blank → StaysAt desk line ⊎ EntersAt desk line
    at true is = inl (blank-stays desk line is)
    at false is = reading is (request line) refl

-- lines leave the setting
line_desk-setting : (desk : Desk) (line : Line) → (line_desk desk line).setting ≡ desk.setting
line_desk-setting desk line = elim (line-comes desk line) [
  | inl stays ↦ ap (λ (d : Desk). d.setting) stays.same
  | inr at_line ↦ ap (λ (d : Desk). d.setting) at_line.desk_is ∙ at_line.enters.setting_is
]

pub desk_after-setting : (desk : Desk) (lines : List Line) →
    (desk_after desk lines).setting ≡ desk.setting
desk_after-setting desk [] = refl
desk_after-setting desk (line ∷ lines) =
    desk_after-setting (line_desk desk line) lines ∙ line_desk-setting desk line

-- ---- numbers rise

-- a number was reached by a clerk's last request
unfoldable pub HasReached : ℕ → Option Last → Type 0
HasReached number None = ⊥
HasReached number (Some last) = number ≤ last.number

-- what enters above what was reached is greater
pub reached-below : (number greater : ℕ) (last : Option Last) → HasReached number last →
    IsAbove last greater → number < greater
unfolding HasReached
reached-below number greater None reached above = absurd reached
reached-below number greater (Some last) reached above = omega arith

-- what a request leaves as its clerk's last
unfoldable pub left_by : (desk : Desk) (r : Request) →
    Enters desk (meaning_at desk r) r (step desk r) → Last
left_by desk r enters = record {
  clerk = (meaning_at desk r).clerk;
  number = enters.number;
  request = r;
  acknowledgement = enters.acknowledgement;
}

-- what is reached stays reached where a greater number takes the place of its clerk's last
pub reached-put : (last : Last) (lasts : List Last) (clerk : List ℕ) (number : ℕ) →
    IsAbove (last_of last.clerk lasts) last.number → HasReached number (last_of clerk lasts) →
    HasReached number (last_of clerk (with_last last lasts))
unfolding HasReached
reached-put last lasts clerk number above reached = at (bytes_eq last.clerk clerk) refl
  where
    at : (own : Bool) → bytes_eq last.clerk clerk ≡ own →
        HasReached number (last_of clerk (with_last last lasts))
    at true own =
        let same = (bytes_eq-Decides last.clerk clerk).0 own in
        let before = subst (λ (c : List ℕ). HasReached number (last_of c lasts)) (sym same)
        reached in
        let below = reached-below number last.number (last_of last.clerk lasts) before above in
        let is : last_of clerk (with_last last lasts) ≡ Some last =
        ap (λ c. last_of c (with_last last lasts)) (sym same) ∙ last_of-put last lasts in
        subst (HasReached number) (sym is) (omega (arith, below))
    at false own = subst (HasReached number) (sym (last_of-other last lasts clerk own)) reached

-- what is reached stays reached
pub reached-kept : (desk : Desk) (line : Line) (clerk : List ℕ) (number : ℕ) →
    HasReached number (last_of clerk desk.serial.lasts) →
    HasReached number (last_of clerk (line_desk desk line).serial.lasts)
unfolding left_by
reached-kept desk line clerk number reached = elim (line-comes desk line) [
  | inl stays ↦ subst (λ (d : Desk). HasReached number (last_of clerk d.serial.lasts))
      (sym stays.same) reached
  | inr at_line ↦ entered at_line
]
  where
    entered : (e : EntersAt desk line) →
        HasReached number (last_of clerk (line_desk desk line).serial.lasts)
    entered e =
        let is : last_of clerk (line_desk desk line).serial.lasts
        ≡ last_of clerk (with_last (left_by desk e.r e.enters) desk.serial.lasts) =
        ap (λ d. last_of clerk d.serial.lasts) e.desk_is ∙ ap (last_of clerk) e.enters.lasts_are in
        subst (HasReached number) (sym is) (reached-put (left_by desk e.r e.enters)
        desk.serial.lasts clerk number e.enters.above reached)
