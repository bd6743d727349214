-- From a line as it stands to what it is of the bytes ahead, where they are told.
use Rattle.std.proofs.Common.{◌≡◌, ℕ, ◌+◌, ◌≤◌, ◌≢◌, Bool, true, false, List, [], ◌∷◌, ◌++◌}
use Rattle.std.proofs.Common.{length, take, Option, None, Some, Result, Ok, Err, refl, ap, ◌∙◌}
use Rattle.std.proofs.Common.{inl, inr, arith, append_assoc, append-nil}
use Rattle.std.specs.Prelude.{map, filter}
use Rattle.std.proofs.lemmas.List.{take-append-le}
use Rattle.std.specs.Io.KnownBytes.{Consumes}
use Rattle.reg_io.specs.Lines.{raw_bytes, line_feed, lines_of, whole_lines_of, line_of}
use Rattle.reg_io.specs.LineStates.{LinesState, IsFirstLine, HasNoWholeLine, IsBeyondRoom}
use Rattle.reg_io.specs.LineStates.{NextLine, OnTold}
use Rattle.reg_io.specs.LineReaders.{HasNoLineFeed, IsLast, GivesRaw, PassesInPart}
use Rattle.reg_io.specs.LineReaders.{NextRaw}
use Rattle.reg_base.specs.declared.line.Line.{Line}
use Rattle.reg_io.specs.declared.line.LineFault.{LineFault}
use Rattle.reg_io.specs.declared.line.LineFault.TheVariants.{Read, InputTooLong, Memory}
use Rattle.reg_io.proofs.LineLaws.{raw_lines-line_feed, raw_lines-part, whole_lines_of-part}

-- the lines of a line with its line feed and what follows
lines_of-line : (content rest : List ℕ) → HasNoLineFeed content
    → lines_of ((content ++ line_feed ∷ []) ++ rest)
    ≡ line_of (record { content = content; ended = true }) ∷ lines_of rest
lines_of-line content rest h = ap (λ l. lines_of l) (append_assoc content (line_feed ∷ []) rest)
    ∙ ap (map line_of) (raw_lines-line_feed content rest h)

whole_lines_of-line : (content rest : List ℕ) → HasNoLineFeed content
    → whole_lines_of ((content ++ line_feed ∷ []) ++ rest)
    ≡ line_of (record { content = content; ended = true }) ∷ whole_lines_of rest
whole_lines_of-line content rest h =
    ap (λ l. whole_lines_of l) (append_assoc content (line_feed ∷ []) rest)
    ∙ ap (λ l. map line_of (filter (λ line. line.ended) l)) (raw_lines-line_feed content rest h)

-- the lines of a last line, which has no line feed
lines_of-last : (content now : List ℕ) → HasNoLineFeed content → content ≢ [] → now ≡ []
    → lines_of (content ++ now)
    ≡ line_of (record { content = content; ended = false }) ∷ lines_of now
lines_of-last content now h some none = rw none (ap (λ l. lines_of l) (append-nil content)
    ∙ ap (map line_of) (raw_lines-part content h some))

first_line : (r1 r2 : ℕ) (content : List ℕ) (ended raw_ended : Bool) (before now : List ℕ)
    → HasNoLineFeed content
    → before ≡ raw_bytes (record { content = content; ended = raw_ended }) ++ now
    → r1 ≡ length (raw_bytes (record { content = content; ended = raw_ended })) + r2
    → (raw_ended ≡ false
    → IsLast (record { content = content; ended = raw_ended }) (Some now) ended)
    → IsFirstLine r1 r2 ended (line_of (record { content = content; ended = raw_ended })) before now
first_line r1 r2 content ended true before now h taken room last = record {
  lines = ap (λ l. lines_of l) taken ∙ lines_of-line content now h;
  bytes = content ++ line_feed ∷ [];
  taken = taken;
  room = room;
  whole = inl (λ more. whole_lines_of-line content more h);
}
first_line r1 r2 content ended false before now h taken room last = record {
  lines = ap (λ l. lines_of l) taken
      ∙ lines_of-last content now h (last refl).some (last refl).at_end;
  bytes = content;
  taken = taken;
  room = room;
  whole = inr ((last refl).at_end, (last refl).told);
}

IsFirstLine-raw : (before now : Option (List ℕ)) (r1 r2 : ℕ) (ended : Bool) (line : Line)
    → GivesRaw before now r1 r2 ended line → OnTold before now (IsFirstLine r1 r2 ended line)
IsFirstLine-raw None now r1 r2 ended line gives = tt
IsFirstLine-raw (Some before) None r1 r2 ended line gives = absurd gives.taken
IsFirstLine-raw (Some before) (Some now) r1 r2 ended line gives =
    rw gives.told (first_line r1 r2 gives.raw.content ended gives.raw.ended before now
    gives.one_line gives.taken gives.room gives.last)

HasNoWholeLine-part : (before now : Option (List ℕ)) (room : ℕ) (part : List ℕ)
    → Consumes before now part → HasNoLineFeed part → length part ≤ room
    → OnTold before now (HasNoWholeLine room)
HasNoWholeLine-part None now room part taken h within = tt
HasNoWholeLine-part (Some before) None room part taken h within = absurd taken
HasNoWholeLine-part (Some before) (Some now) room part taken h within = record {
  part = part;
  taken = taken;
  within = within;
  none = whole_lines_of-part part h;
}

IsBeyondRoom-part : (before now : Option (List ℕ)) (room : ℕ) → PassesInPart before now room
    → OnTold before now (IsBeyondRoom room)
IsBeyondRoom-part None now room passes = tt
IsBeyondRoom-part (Some before) None room passes = absurd passes.taken
IsBeyondRoom-part (Some before) (Some now) room passes =
    let within : room ≤ length passes.part = omega (arith, passes.beyond) in record {
      part = passes.part;
      taken = passes.taken;
      beyond = passes.beyond;
      none = ap (λ l. whole_lines_of (take room l)) passes.taken
          ∙ ap (λ l. whole_lines_of l) (take-append-le room passes.part now within)
          ∙ whole_lines_of-part (take room passes.part) passes.one_line;
    }

-- what the next line is as it stands, is what it is of the bytes ahead
pub NextLine-raw : {S : Type 0} (left : S → Option (List ℕ)) (faults : S → ℕ)
    (old new : LinesState S) (result : Result (Option Line) LineFault)
    → NextRaw left faults old new result → NextLine left faults old new result
NextLine-raw left faults old new (Ok None) end = end
NextLine-raw left faults old new (Ok (Some line)) gives = record {
  first = IsFirstLine-raw _ _ _ _ _ line gives;
  size = gives.size;
  falls = gives.falls;
}
NextLine-raw left faults old new (Err Read) stops = record {
  left = HasNoWholeLine-part _ _ _ stops.part stops.taken stops.one_line stops.within;
  not_ended = stops.not_ended;
  cause = stops.cause;
}
NextLine-raw left faults old new (Err InputTooLong) passes = IsBeyondRoom-part _ _ _ passes
NextLine-raw left faults old new (Err Memory) keeps = keeps
