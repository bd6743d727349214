-- What holds of every answer: an accepted table is the one asked for over what is at its place, the
-- numbers of a clerk rise and a repeat changes nothing, a refusal changes nothing, and what is
-- accepted replays.
use Rattle.std.specs.Prelude.{◌≡◌, ℕ, ◌≤◌, ◌<◌, ⊤, false, Some, Ok, List, [], ◌∷◌, ◌++◌, All}
use Rattle.reg_base.specs.declared.line.Line.{Line}
use Rattle.desk_words.specs.declared.request.Request.{Request}
use Rattle.desk_words.specs.declared.reply.Reply.{Reply}
use Rattle.desk_words.specs.declared.reply.Reply.TheVariants.{Done, Refused}
use Rattle.desk_words.specs.declared.reply.Answer.{Answer}
use Rattle.desk_words.specs.Reading.{request}
use Rattle.desk_model.specs.State.{State, Desk, Command}
use Rattle.desk_model.specs.Effects.{Effect}
use Rattle.desk_model.specs.Serial.{serial}
use Rattle.desk_model.specs.Tables.{IsTable}
use Rattle.desk_model.specs.Desk.{meaning_at, effect_at, command_at}
use Rattle.desk_model.specs.Answers.{is_blank_line, line_event, line_desk, desk_after}

-- each accepted table among the lines is the one that was asked for, at its place: over the
-- documents that the lines before it left
abbrev pub TablesHold : Desk → List Line → Type 0
TablesHold desk lines =
    (before after : List Line) (line : Line) (asked : Request) (answer : Answer)
    → lines ≡ before ++ line ∷ after
    → request line ≡ Ok asked
    → (line_event (desk_after desk before) line).reply ≡ Done answer
    → IsTable (desk_after desk before) asked answer

-- the reply is a refusal
abbrev pub IsRefusal : Reply → Type 0
IsRefusal (Done answer) = ⊥
IsRefusal (Refused refusal) = ⊤

-- a line that is refused leaves the desk as it was
abbrev pub RefusalKeeps : Desk → Line → Type 0
RefusalKeeps desk line = IsRefusal (line_event desk line).reply → line_desk desk line ≡ desk

-- the request of a line is committed at this desk, of this clerk and under this number
pub record Commits (desk : Desk) (line : Line) (clerk : List ℕ) (number : ℕ) : Type 0 where
  pub command : Command
  pub sighted : is_blank_line line ≡ false
  pub committed : (line_event desk line).commits ≡ (command ∷ []) ∷ []
  pub clerk_is : (meaning_at desk command.request).clerk ≡ clerk
  pub number_is : (meaning_at desk command.request).number ≡ Some number

-- of two lines whose requests are committed for one clerk, the later one has the greater number
abbrev pub NumbersRise : Desk → List Line → Type 0
NumbersRise desk lines =
    (before between after : List Line) (line later : Line) (clerk : List ℕ) (number greater : ℕ)
    → lines ≡ before ++ line ∷ between ++ later ∷ after
    → Commits (desk_after desk before) line clerk number
    → Commits (desk_after desk (before ++ line ∷ between)) later clerk greater
    → number < greater

-- none of the lines, one after another, is committed for this clerk
abbrev pub NoneCommits : Desk → List ℕ → List Line → Type 0
NoneCommits desk clerk [] = ⊤
NoneCommits desk clerk (line ∷ lines) =
    ((number : ℕ) → Commits desk line clerk number → ⊥)
    × NoneCommits (line_desk desk line) clerk lines

-- a line with the request of one that was committed changes nothing
abbrev pub RepeatsChangeNothing : Desk → List Line → Type 0
RepeatsChangeNothing desk lines =
    (before between after : List Line) (line again : Line) (clerk : List ℕ) (number : ℕ)
    → lines ≡ before ++ line ∷ between ++ again ∷ after
    → Commits (desk_after desk before) line clerk number
    → request again ≡ request line
    → line_desk (desk_after desk (before ++ line ∷ between)) again
    ≡ desk_after desk (before ++ line ∷ between)

-- and it is given the same reply, where nothing was committed for its clerk in between
abbrev pub RepeatsAreAnswered : Desk → List Line → Type 0
RepeatsAreAnswered desk lines =
    (before between after : List Line) (line again : Line) (clerk : List ℕ) (number : ℕ)
    → lines ≡ before ++ line ∷ between ++ again ∷ after
    → Commits (desk_after desk before) line clerk number
    → request again ≡ request line
    → NoneCommits (desk_after desk (before ++ line ∷ [])) clerk between
    → (line_event (desk_after desk (before ++ line ∷ between)) again).reply
    ≡ (line_event (desk_after desk before) line).reply

-- what holds of the lines that a desk answered
pub record LawsHold (desk : Desk) (lines : List Line) : Type 0 where
  pub tables : TablesHold desk lines
  pub order : NumbersRise desk lines
  pub once : RepeatsChangeNothing desk lines
  pub repeats : RepeatsAreAnswered desk lines

-- each document has a number up to the greatest one
abbrev pub AreNumbered : State → Type 0
AreNumbered state = All (λ d. d.doc.number ≤ state.top) state.documents

-- a request that a desk accepts is a command that the serial machine accepts, with the same effect
abbrev pub Replays : Desk → Request → Type 0
Replays desk request =
    (effect : Effect)
    → AreNumbered desk.serial
    → effect_at desk request ≡ Ok effect
    → serial desk.setting desk.serial (command_at desk request) ≡ Ok effect
