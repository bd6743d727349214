-- What is written for the lines of an input.
use Rattle.std.specs.Prelude.{ℕ, Bool, false, ◌||◌, ◌==◌, if◌then◌else◌, List, [], ◌∷◌, ◌++◌}
use Rattle.std.specs.Prelude.{Result, Ok, Err}
use Rattle.std.specs.List.{list_all}
use Rattle.reg_base.specs.declared.line.Line.{Line}
use Rattle.reg_base.specs.declared.line.Line.TheVariants.{Text, TooLong}
use Rattle.desk_words.specs.declared.request.Request.{Request}
use Rattle.desk_words.specs.declared.fault.WordFault.{WordFault}
use Rattle.desk_words.specs.declared.reply.Reply.TheVariants.{Refused}
use Rattle.desk_words.specs.declared.reply.Refusal.{Refusal}
use Rattle.desk_words.specs.declared.reply.Refusal.TheVariants.{BadLine, UnknownClerk}
use Rattle.desk_words.specs.Reading.{request}
use Rattle.desk_words.specs.ReplyTexts.{reply_text}
use Rattle.desk_model.specs.State.{Desk}
use Rattle.desk_model.specs.Clerks.{is_batch}
use Rattle.desk_model.specs.Desk.{Event, meaning_at, step}

-- whether a line has nothing but spaces and tabs
abbrev pub is_blank_line : Line → Bool
is_blank_line (Text bytes) = list_all (λ b. b == 32 || b == 9) bytes
is_blank_line (TooLong bytes) = false

-- what is refused changes nothing
abbrev pub refusal_event : Desk → Refusal → Event
refusal_event desk refusal = record {
  reply = Refused refusal;
  desk = desk;
  commits = [];
}

-- what a line's request comes to: one step, but no line speaks for the clerk that is built in
abbrev pub event_of_request : Desk → Request → Event
event_of_request desk request =
    if is_batch (meaning_at desk request).clerk then refusal_event desk UnknownClerk
    else step desk request

-- what a reading comes to: its request, or the refusal of a line that is none
abbrev pub event_of_reading : Desk → Result Request WordFault → Event
event_of_reading desk (Ok request) = event_of_request desk request
event_of_reading desk (Err fault) = refusal_event desk (BadLine fault)

-- what a line that is not blank comes to
abbrev pub line_event : Desk → Line → Event
line_event desk line = event_of_reading desk (request line)

-- what is written for a line: nothing for a blank one, and else its reply with a line feed
unfoldable pub line_answer : Desk → Line → List ℕ
line_answer desk line =
    if is_blank_line line then [] else reply_text (line_event desk line).reply ++ 10 ∷ []

-- the desk after a line
unfoldable pub line_desk : Desk → Line → Desk
line_desk desk line = if is_blank_line line then desk else (line_event desk line).desk

-- what is written for lines, one after another
abbrev pub answers_to : Desk → List Line → List ℕ
answers_to desk [] = []
answers_to desk (line ∷ lines) = line_answer desk line ++ answers_to (line_desk desk line) lines

-- the desk after lines, one after another
abbrev pub desk_after : Desk → List Line → Desk
desk_after desk [] = desk
desk_after desk (line ∷ lines) = desk_after (line_desk desk line) lines
