-- The laws on the numbers of a clerk and on repeats, over the lines that were answered.
use Rattle.std.proofs.Common.{◌≡◌, ℕ, ◌<◌, Bool, true, false, cond, Some, List, []}
use Rattle.std.proofs.Common.{◌∷◌, ◌++◌, Result, Ok, Err, refl, sym, ap, ◌∙◌, subst, ◌⊎◌, inl, inr}
use Rattle.std.proofs.Common.{arith}
use Rattle.std.specs.Str.{bytes_eq}
use Rattle.std.specs.Cmp.{nat_cmp_is}
use Rattle.std.specs.Ordering.{match_ordering}
use Rattle.std.specs.declared.cmp.Ordering.TheVariants.{Equal}
use Rattle.std.proofs.lemmas.Slice.Eq.{bytes_eq-Decides}
use Rattle.reg_base.specs.declared.line.Line.{Line}
use Rattle.reg_base.specs.Results.{◌>>=◌, unless}
use Rattle.desk_words.specs.RequestTexts.{request_text}
use Rattle.desk_words.specs.declared.request.Request.{Request}
use Rattle.desk_words.specs.declared.fault.WordFault.{WordFault}
use Rattle.desk_words.specs.declared.reply.Acknowledgement.{Acknowledgement}
use Rattle.desk_words.specs.declared.reply.Refusal.TheVariants.{UnknownClerk, NotAllowed, Stale}
use Rattle.desk_words.specs.Reading.{request}
use Rattle.desk_model.specs.declared.last.Last.{Last}
use Rattle.desk_model.specs.State.{Desk, Command}
use Rattle.desk_model.specs.Stops.{Stop, refuses, repeats, or_stop}
use Rattle.desk_model.specs.Clerks.{is_clerk, is_allowed, is_batch}
use Rattle.desk_model.specs.LastRequests.{is_same, last_of, same_number, number_after, number_test}
use Rattle.desk_model.specs.Meanings.{meaning_of}
use Rattle.desk_model.specs.Serial.{deed_effect, effect_of}
use Rattle.desk_model.specs.Desk.{meaning_at, command_at, tests_of, reply_at, event_of, step}
use Rattle.desk_model.specs.Answers.{refusal_event, event_of_reading}
use Rattle.desk_model.specs.Answers.{line_event, line_desk, desk_after}
use Rattle.desk_model.specs.Laws.{Commits, NumbersRise, NoneCommits, RepeatsChangeNothing}
use Rattle.desk_model.specs.Laws.{RepeatsAreAnswered, LawsHold}
use Rattle.desk_model.proofs.TableLemmas.{TablesHold-always}
use Rattle.desk_model.proofs.StepCases.{IsAbove}
use Rattle.desk_model.proofs.NumberLemmas.{bytes_eq-same, last_of-put, last_of-other}
use Rattle.desk_model.proofs.NumberLemmas.{StaysAt, EntersAt, line-comes, HasReached}
use Rattle.desk_model.proofs.NumberLemmas.{reached-below, reached-kept, left_by}

-- ---- lines one after another

desk_after-append : (desk : Desk) (xs ys : List Line) →
    desk_after desk (xs ++ ys) ≡ desk_after (desk_after desk xs) ys
desk_after-append desk [] ys = refl
desk_after-append desk (x ∷ xs) ys = desk_after-append (line_desk desk x) xs ys

-- the desk behind a line and others
desk_after-line : (desk : Desk) (before between : List Line) (line : Line) →
    desk_after desk (before ++ line ∷ between)
    ≡ desk_after (line_desk (desk_after desk before) line) between
desk_after-line desk before between line = desk_after-append desk before (line ∷ between)

-- ---- what a committed line is

-- the line that is committed enters, for this clerk and under this number
record EntersFor (desk : Desk) (line : Line) (clerk : List ℕ) (number : ℕ) : Type 0 where
  entry : EntersAt desk line
  clerk_is : (meaning_at desk entry.r).clerk ≡ clerk
  number_is : entry.enters.number ≡ number

committed-enters : (desk : Desk) (line : Line) (clerk : List ℕ) (number : ℕ) →
    Commits desk line clerk number → EntersFor desk line clerk number
committed-enters desk line clerk number commits = elim (line-comes desk line) [
  | inl stays ↦ absurd (stays.none clerk number commits)
  | inr entry ↦ entered entry
]
  where
    first : (c d : Command) → (c ∷ []) ∷ [] ≡ (d ∷ []) ∷ [] → c ≡ d
    first c d e = cc

    same : (m n : ℕ) → Some m ≡ Some n → m ≡ n
    same m n e = cc

    entered : (entry : EntersAt desk line) → EntersFor desk line clerk number
    entered entry =
        let is : command_at desk entry.r ≡ commits.command =
        first _ _ (sym entry.enters.commits_it ∙ sym (ap (λ e. e.commits) entry.event_is)
        ∙ commits.committed) in
        record {
          entry = entry;
          clerk_is = ap (λ c. (meaning_at desk c.request).clerk) is ∙ commits.clerk_is;
          number_is = same _ _ (sym entry.enters.number_is
              ∙ ap (λ c. (meaning_at desk c.request).number) is ∙ commits.number_is);
        }

-- behind a committed line its request is the clerk's last
entered-last : (desk : Desk) (line : Line) (entry : EntersAt desk line) →
    last_of (meaning_at desk entry.r).clerk (line_desk desk line).serial.lasts
    ≡ Some (left_by desk entry.r entry.enters)
unfolding left_by
entered-last desk line entry =
    ap (λ d. last_of (meaning_at desk entry.r).clerk d.serial.lasts) entry.desk_is
    ∙ ap (last_of (meaning_at desk entry.r).clerk) entry.enters.lasts_are
    ∙ last_of-put (left_by desk entry.r entry.enters) desk.serial.lasts

-- so its number was reached
committed-reached : (desk : Desk) (line : Line) (clerk : List ℕ) (number : ℕ) →
    Commits desk line clerk number →
    HasReached number (last_of clerk (line_desk desk line).serial.lasts)
unfolding HasReached left_by
committed-reached desk line clerk number commits =
    let for = committed-enters desk line clerk number commits in
    let entry = for.entry in
    let is : last_of clerk (line_desk desk line).serial.lasts
    ≡ Some (left_by desk entry.r entry.enters) =
    ap (λ c. last_of c (line_desk desk line).serial.lasts) (sym for.clerk_is)
    ∙ entered-last desk line entry in
    subst (HasReached number) (sym is) (omega (arith, for.number_is))

reached-after : (desk : Desk) (lines : List Line) (clerk : List ℕ) (number : ℕ) →
    HasReached number (last_of clerk desk.serial.lasts) →
    HasReached number (last_of clerk (desk_after desk lines).serial.lasts)
reached-after desk [] clerk number reached = reached
reached-after desk (line ∷ lines) clerk number reached =
    reached-after (line_desk desk line) lines clerk number
    (reached-kept desk line clerk number reached)

-- what stands reached behind a committed line and others
reached-between : (desk : Desk) (before between : List Line) (line : Line) (clerk : List ℕ)
    (number : ℕ) → Commits (desk_after desk before) line clerk number →
    HasReached number
    (last_of clerk (desk_after desk (before ++ line ∷ between)).serial.lasts)
reached-between desk before between line clerk number commits =
    subst (λ (d : Desk). HasReached number (last_of clerk d.serial.lasts))
    (sym (desk_after-line desk before between line))
    (reached-after (line_desk (desk_after desk before) line) between clerk number
    (committed-reached (desk_after desk before) line clerk number commits))

NumbersRise-always : (desk : Desk) (lines : List Line) → NumbersRise desk lines
NumbersRise-always desk lines =
    λ before between after line later clerk number greater place first second.
    let d = desk_after desk (before ++ line ∷ between) in
    let reached = reached-between desk before between line clerk number first in
    let for = committed-enters d later clerk greater second in
    let above = subst (λ (c : List ℕ). IsAbove (last_of c d.serial.lasts) for.entry.enters.number)
    for.clerk_is for.entry.enters.above in
    let below = reached-below number for.entry.enters.number (last_of clerk d.serial.lasts)
    reached above in
    subst (λ n. number < n) for.number_is below

-- ---- repeats

line-setting : (desk : Desk) (line : Line) → (line_desk desk line).setting ≡ desk.setting
line-setting desk line = elim (line-comes desk line) [
  | inl stays ↦ ap (λ d. d.setting) stays.same
  | inr entry ↦ ap (λ d. d.setting) entry.desk_is ∙ entry.enters.setting_is
]

-- no line changes what a desk is set up with
setting-after : (desk : Desk) (lines : List Line) → (desk_after desk lines).setting ≡ desk.setting
setting-after desk [] = refl
setting-after desk (line ∷ lines) =
    setting-after (line_desk desk line) lines ∙ line-setting desk line

setting-between : (desk : Desk) (before between : List Line) (line : Line) →
    (desk_after desk (before ++ line ∷ between)).setting ≡ (desk_after desk before).setting
setting-between desk before between line =
    setting-after desk (before ++ line ∷ between) ∙ sym (setting-after desk before)

-- the request of a committed line is read from every line with the same request
read-again : (desk : Desk) (line again : Line) (clerk : List ℕ) (number : ℕ)
    (for : EntersFor desk line clerk number) → request again ≡ request line →
    request again ≡ Ok for.entry.r
read-again desk line again clerk number for same = same ∙ for.entry.read

same-meaning : (desk later : Desk) (r s : Request) → later.setting ≡ desk.setting → s ≡ r →
    meaning_at later s ≡ meaning_at desk r
same-meaning desk later r s setting is = λ i. meaning_of (setting i).config (is i)

RepeatsChangeNothing-always : (desk : Desk) (lines : List Line) → RepeatsChangeNothing desk lines
RepeatsChangeNothing-always desk lines =
    λ before between after line again clerk number place commits same.
    stays before between line again clerk number commits same
    (line-comes (desk_after desk (before ++ line ∷ between)) again)
  where
    nothing_below : (n : ℕ) → n < n → ⊥
    nothing_below n h = omega (arith, h)

    numbers : (m n : ℕ) → Some m ≡ Some n → m ≡ n
    numbers m n e = cc

    requests : (x : Result Request WordFault) (r s : Request) → x ≡ Ok s → x ≡ Ok r → s ≡ r
    requests x r s e f = cc

    stays : (before between : List Line) (line again : Line) (clerk : List ℕ) (number : ℕ) →
        Commits (desk_after desk before) line clerk number → request again ≡ request line →
        StaysAt (desk_after desk (before ++ line ∷ between)) again
        ⊎ EntersAt (desk_after desk (before ++ line ∷ between)) again →
        line_desk (desk_after desk (before ++ line ∷ between)) again
        ≡ desk_after desk (before ++ line ∷ between)
    stays before between line again clerk number commits same (inl s) = s.same
    stays before between line again clerk number commits same (inr e) =
        let first = desk_after desk before in
        let later = desk_after desk (before ++ line ∷ between) in
        let for = committed-enters first line clerk number commits in
        let r_is : e.r ≡ for.entry.r = requests (request again) for.entry.r e.r e.read
        (read-again first line again clerk number for same) in
        let means = same-meaning first later for.entry.r e.r
        (setting-between desk before between line) r_is in
        let clerk_is : (meaning_at later e.r).clerk ≡ clerk = ap (λ m. m.clerk) means
        ∙ for.clerk_is in
        let number_is : e.enters.number ≡ number = numbers e.enters.number for.entry.enters.number
        (sym e.enters.number_is ∙ ap (λ m. m.number) means ∙ for.entry.enters.number_is)
        ∙ for.number_is in
        let above = subst (λ (c : List ℕ). IsAbove (last_of c later.serial.lasts) e.enters.number)
        clerk_is e.enters.above in
        let below = reached-below number e.enters.number (last_of clerk later.serial.lasts)
        (reached-between desk before between line clerk number commits) above in
        absurd (nothing_below number (subst (λ n. number < n) number_is below))

-- ---- the reply to a repeat

-- a clerk's last request stays where nothing is committed for him
last-stays : (desk : Desk) (lines : List Line) (clerk : List ℕ) → NoneCommits desk clerk lines →
    last_of clerk (desk_after desk lines).serial.lasts ≡ last_of clerk desk.serial.lasts
unfolding left_by
last-stays desk [] clerk none = refl
last-stays desk (line ∷ lines) clerk none =
    last-stays (line_desk desk line) lines clerk none.1 ∙ at (line-comes desk line)
  where
    other : (entry : EntersAt desk line) (own : Bool) →
        bytes_eq (meaning_at desk entry.r).clerk clerk ≡ own →
        last_of clerk (line_desk desk line).serial.lasts ≡ last_of clerk desk.serial.lasts
    other entry true own =
        absurd (none.0 entry.enters.number (record {
          command = command_at desk entry.r;
          sighted = entry.sighted;
          committed = ap (λ e. e.commits) entry.event_is ∙ entry.enters.commits_it;
          clerk_is = (bytes_eq-Decides (meaning_at desk entry.r).clerk clerk).0 own;
          number_is = entry.enters.number_is;
        }))
    other entry false own =
        ap (λ d. last_of clerk d.serial.lasts) entry.desk_is
        ∙ ap (last_of clerk) entry.enters.lasts_are
        ∙ last_of-other (left_by desk entry.r entry.enters) desk.serial.lasts clerk
        own

    at : StaysAt desk line ⊎ EntersAt desk line →
        last_of clerk (line_desk desk line).serial.lasts ≡ last_of clerk desk.serial.lasts
    at (inl stays) = ap (λ d. last_of clerk d.serial.lasts) stays.same
    at (inr entry) = other entry (bytes_eq (meaning_at desk entry.r).clerk clerk) refl

-- a request under the number of its clerk's last one goes no further: what its text says beside the
-- last one's is the reply
pub step-same_number : (desk : Desk) (r : Request) (last : Last) (number : ℕ) (stop : Stop) →
    is_clerk desk.setting.config (meaning_at desk r).clerk ≡ true →
    is_allowed desk.setting.config (meaning_at desk r).clerk (meaning_at desk r).right ≡ true →
    (meaning_at desk r).number ≡ Some number →
    last_of (meaning_at desk r).clerk desk.serial.lasts ≡ Some last → last.number ≡ number →
    same_number (is_same r last.request) last.acknowledgement ≡ Err stop →
    (step desk r).reply ≡ reply_at stop
unfolding step effect_of
step-same_number desk r last number stop known allowed numbered found number_is beside =
    ap (λ t. (event_of desk (meaning_at desk r) (command_at desk r) t).reply) stops
  where
    tested : number_test desk.serial.lasts (meaning_at desk r).clerk (meaning_at desk r).number
        r ≡ Err stop
    tested =
        ap (λ n. number_test desk.serial.lasts (meaning_at desk r).clerk n r)
        numbered
        ∙ ap (λ l. number_after l number r) found
        ∙ ap (λ o. match_ordering o (Err (refuses (Stale last.number)))
        (same_number (is_same r last.request) last.acknowledgement) (Ok tt))
        (sym (nat_cmp_is number last.number Equal (sym number_is)))
        ∙ beside

    stops : (unless (is_clerk desk.setting.config (meaning_at desk r).clerk)
        (refuses UnknownClerk) >>= λ _. unless
        (is_allowed desk.setting.config (meaning_at desk r).clerk (meaning_at desk r).right)
        (refuses (NotAllowed (meaning_at desk r).right)) >>= λ _.
        number_test desk.serial.lasts (meaning_at desk r).clerk (meaning_at desk r).number
        r >>= λ _. or_stop
        (deed_effect (tests_of desk (meaning_at desk r) r) desk.setting desk.serial
        (command_at desk r).number (meaning_at desk r).deed))
        ≡ Err stop
    stops = rw (known, allowed, tested)

-- the same request beside the last one is a repeat
pub same_number-same : (r : Request) (acknowledgement : Acknowledgement) →
    same_number (is_same r r) acknowledgement ≡ Err (repeats acknowledgement)
same_number-same r acknowledgement =
    ap (λ b. same_number b acknowledgement) (bytes_eq-same (request_text r))

RepeatsAreAnswered-always : (desk : Desk) (lines : List Line) → RepeatsAreAnswered desk lines
unfolding left_by
RepeatsAreAnswered-always desk lines =
    λ before between after line again clerk number place commits same none.
    answered before between line again clerk number commits same
    (subst (λ (d : Desk). NoneCommits d clerk between)
    (desk_after-line desk before [] line) none)
  where
    answered : (before between : List Line) (line again : Line) (clerk : List ℕ) (number : ℕ) →
        Commits (desk_after desk before) line clerk number → request again ≡ request line →
        NoneCommits (line_desk (desk_after desk before) line) clerk between →
        (line_event (desk_after desk (before ++ line ∷ between)) again).reply
        ≡ (line_event (desk_after desk before) line).reply
    answered before between line again clerk number commits same none =
        let first = desk_after desk before in
        let later = desk_after desk (before ++ line ∷ between) in
        let for = committed-enters first line clerk number commits in
        let r = for.entry.r in
        let setting = setting-between desk before between line in
        let means = same-meaning first later r r setting refl in
        let last = left_by first r for.entry.enters in
        let kept : last_of clerk later.serial.lasts ≡ Some last =
        ap (λ d. last_of clerk d.serial.lasts) (desk_after-line desk before between line)
        ∙ last-stays (line_desk first line) between clerk none
        ∙ ap (λ c. last_of c (line_desk first line).serial.lasts) (sym for.clerk_is)
        ∙ entered-last first line for.entry in
        let found : last_of (meaning_at later r).clerk later.serial.lasts ≡ Some last =
        ap (λ c. last_of c later.serial.lasts) (ap (λ m. m.clerk) means ∙ for.clerk_is) ∙ kept in
        let known : is_clerk later.setting.config (meaning_at later r).clerk ≡ true =
        (λ i. is_clerk (setting i).config (means i).clerk) ∙ for.entry.enters.known in
        let allowed : is_allowed later.setting.config (meaning_at later r).clerk
        (meaning_at later r).right ≡ true =
        (λ i. is_allowed (setting i).config (means i).clerk (means i).right)
        ∙ for.entry.enters.allowed in
        let stepped = step-same_number later r last for.entry.enters.number
        (repeats last.acknowledgement) known allowed
        (ap (λ m. m.number) means ∙ for.entry.enters.number_is) found refl
        (same_number-same r last.acknowledgement) in
        let read = read-again first line again clerk number for same in
        let outside : is_batch (meaning_at later r).clerk ≡ false =
        (λ i. is_batch (means i).clerk) ∙ for.entry.outside in
        let event : line_event later again ≡ step later r = ap (event_of_reading later) read
        ∙ ap (λ b. cond b (refusal_event later UnknownClerk) (step later r)) outside in
        ap (λ e. e.reply) event ∙ stepped ∙ sym for.entry.enters.reply_is
        ∙ sym (ap (λ e. e.reply) for.entry.event_is)

pub LawsHold-always : (desk : Desk) (lines : List Line) → LawsHold desk lines
LawsHold-always desk lines = record {
  tables = TablesHold-always desk lines;
  order = NumbersRise-always desk lines;
  once = RepeatsChangeNothing-always desk lines;
  repeats = RepeatsAreAnswered-always desk lines;
}
