-- The last request of each clerk, and what a number says beside it.
use Rattle.std.specs.Prelude.{ℕ, Bool, true, false, Option, Some, None, List, [], ◌∷◌, Result, Ok}
use Rattle.std.specs.Prelude.{Err, if◌then◌else◌}
use Rattle.std.specs.Ordering.{nat_cmp, match_ordering}
use Rattle.std.specs.Str.{bytes_eq}
use Rattle.desk_words.specs.declared.request.Request.{Request}
use Rattle.desk_words.specs.RequestTexts.{request_text}
use Rattle.desk_words.specs.declared.reply.Acknowledgement.{Acknowledgement}
use Rattle.desk_words.specs.declared.reply.Answer.{Answer}
use Rattle.desk_words.specs.declared.reply.Answer.TheVariants.{Acknowledged, Balance, Shown}
use Rattle.desk_words.specs.declared.reply.Answer.TheVariants.{Turnovers, Both, AccountBalance}
use Rattle.desk_words.specs.declared.reply.Answer.TheVariants.{AccountTurnovers, AccountBoth, DrCr}
use Rattle.desk_words.specs.declared.reply.Answer.TheVariants.{Documents}
use Rattle.desk_words.specs.declared.reply.Refusal.TheVariants.{Stale, NumberReused}
use Rattle.desk_model.specs.declared.last.Last.{Last}
use Rattle.desk_model.specs.Stops.{Stop, refuses, repeats}

-- the last request of this clerk
abbrev pub last_of : List ℕ → List Last → Option Last
last_of clerk [] = None
last_of clerk (l ∷ ls) = if bytes_eq l.clerk clerk then Some l else last_of clerk ls

-- the last requests with this one in the place of its clerk's
abbrev pub with_last : Last → List Last → List Last
with_last last [] = last ∷ []
with_last last (l ∷ ls) =
    if bytes_eq l.clerk last.clerk then last ∷ ls else l ∷ with_last last ls

-- the last requests once a request of this clerk was accepted: one with a number takes the place of
-- the clerk's last
abbrev pub lasts_with : List ℕ → Option ℕ → Request → Answer → List Last → List Last
lasts_with clerk None request answer lasts = lasts
lasts_with clerk (Some number) request (Balance rows scales) lasts = lasts
lasts_with clerk (Some number) request (Turnovers balances rows scales) lasts = lasts
lasts_with clerk (Some number) request (Both rows scales) lasts = lasts
lasts_with clerk (Some number) request (AccountBalance rows scale) lasts = lasts
lasts_with clerk (Some number) request (AccountTurnovers rows scale) lasts = lasts
lasts_with clerk (Some number) request (AccountBoth rows scale) lasts = lasts
lasts_with clerk (Some number) request (DrCr rows scale) lasts = lasts
lasts_with clerk (Some number) request (Documents rows) lasts = lasts
lasts_with clerk (Some number) request (Shown document) lasts = lasts
lasts_with clerk (Some number) request (Acknowledged acknowledgement) lasts = with_last
    (record {
      clerk = clerk;
      number = number;
      request = request;
      acknowledgement = acknowledgement;
    }) lasts

-- whether two requests have the same canonical text
abbrev pub is_same : Request → Request → Bool
is_same request other = bytes_eq (request_text request) (request_text other)

-- what the same number says by whether the request is the same too: a repeat, or a number that is
-- used again
abbrev pub same_number : Bool → Acknowledgement → Result (Unit {0}) Stop
same_number true acknowledgement = Err (repeats acknowledgement)
same_number false acknowledgement = Err (refuses NumberReused)

-- what a request's number says beside the clerk's last: a lesser one is stale
abbrev pub number_beside : ℕ → Request → Last → Result (Unit {0}) Stop
number_beside number request last = match_ordering (nat_cmp number last.number)
    (Err (refuses (Stale last.number)))
    (same_number (is_same request last.request) last.acknowledgement)
    (Ok tt)

-- a first request may have any number
abbrev pub number_after : Option Last → ℕ → Request → Result (Unit {0}) Stop
number_after None number request = Ok tt
number_after (Some last) number request = number_beside number request last

-- a request goes on where its number is above that of its clerk's last one, or it has none
abbrev pub number_test : List Last → List ℕ → Option ℕ → Request → Result (Unit {0}) Stop
number_test lasts clerk None request = Ok tt
number_test lasts clerk (Some number) request =
    number_after (last_of clerk lasts) number request
