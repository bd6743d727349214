-- Private: a source with the window in front of it, while it looks for the next line.
use Rattle.std.specs.Prelude.{◌≡◌, ◌≢◌, ℕ, ◌+◌, ◌<◌, ◌≤◌, Bool, true, false, List, [], ◌++◌, length}
use Rattle.std.specs.Prelude.{take, slice_index, All, Option, None, Some, Result, Ok, Err}
use Rattle.std.specs.Io.KnownBytes.{Consumes, Keeps, IsAtEnd}
use Rattle.reg_io.specs.Counts.{Rose}
use Rattle.reg_io.specs.Lines.{RawLine, raw_bytes, line_of, line_feed}
use Rattle.reg_io.specs.LineStates.{LinesState, HasLineSize, IsEnd, KeepsAhead, ahead}
use Rattle.reg_io.specs.declared.line_reader.LineReader.{LineReader}
use Rattle.reg_io.specs.declared.line_reader.Look.{Look}
use Rattle.reg_io.specs.declared.line_reader.Look.TheVariants.{Line as LineAt, Past, Ended, Open}
use Rattle.reg_base.specs.declared.line.Line.{Line}
use Rattle.reg_base.specs.declared.line.Line.TheVariants.{TooLong}
use Rattle.reg_io.specs.declared.line.LineFault.{LineFault}
use Rattle.reg_io.specs.declared.line.LineFault.TheVariants.{Read, InputTooLong, Memory}

-- no byte is a line feed
abbrev pub HasNoLineFeed : List ℕ → Type 0
HasNoLineFeed bytes = All (λ byte. byte ≢ line_feed) bytes

-- the reader as a reader of lines without a fault
abbrev pub state_of : {S : Type 0} → LineReader S → LinesState S
state_of reader = record {
  source = reader.source;
  pending = reader.window;
  room = reader.room;
  ended = reader.ended;
  fault = None;
}

-- the source is at its end where it told so
abbrev pub IsSound : {S : Type 0} → (S → Option (List ℕ)) → LineReader S → Type 0
IsSound left reader = reader.ended ≡ true → IsAtEnd (left reader.source)

-- what reads leave of a source besides the bytes that they take
pub record LeavesRest {S : Type 0} (taken : S → Option (List ℕ))
    (read_faults write_faults name : S → ℕ) (old new : S) : Type 0 where
  pub bytes : taken new ≡ taken old
  pub later : read_faults old ≤ read_faults new
  pub others : write_faults old ≤ write_faults new
  pub same : name new ≡ name old

-- the first line reader of the bytes stands here
pub record IsFirstLineFeed (bytes : List ℕ) (place : ℕ) : Type 0 where
  pub within : place < length bytes
  pub before : HasNoLineFeed (take place bytes)
  pub here : slice_index bytes place ≡ line_feed

-- one read put bytes behind those in the window, or told the end
pub record ReadsMore {S : Type 0} (left : S → Option (List ℕ))
    (old new : LineReader S) : Type 0 where
  pub got : List ℕ
  pub grows : new.window ≡ old.window ++ got
  pub taken : Consumes (left old.source) (left new.source) got
  pub room : new.room ≡ old.room
  pub sound : IsSound left new

-- reads moved bytes into the window and nothing else
pub record ReadsOn {S : Type 0} (left : S → Option (List ℕ)) (old new : LineReader S) : Type 0 where
  pub bytes : Keeps (ahead left (state_of old)) (ahead left (state_of new))
  pub room : new.room ≡ old.room
  pub ended : new.ended ≡ false → old.ended ≡ false
  pub sound : IsSound left new

-- no line reader is in the window, which lies within the room
pub record IsPart {S : Type 0} (reader : LineReader S) : Type 0 where
  pub one_line : HasNoLineFeed reader.window
  pub within : length reader.window ≤ reader.room

-- what the window shows: a line, more bytes than the room, or a part of a line that is the last
-- one or may go on
abbrev pub Shows : {S : Type 0} → LineReader S → Look → Type 0
Shows reader (LineAt len) = IsFirstLineFeed reader.window len × (len < reader.room)
Shows reader Past = (reader.room < length reader.window) × HasNoLineFeed
    (take reader.room reader.window)
Shows reader Ended = IsPart reader × (reader.ended ≡ true)
Shows reader Open = IsPart reader × (reader.ended ≡ false)

-- a line as it stands was taken from the window
pub record TakesRaw {S : Type 0} (left : S → Option (List ℕ)) (old new : LineReader S)
    (raw : RawLine) : Type 0 where
  pub one_line : HasNoLineFeed raw.content
  pub taken : Consumes (ahead left (state_of old)) (ahead left (state_of new)) (raw_bytes raw)
  pub room : old.room ≡ length (raw_bytes raw) + new.room
  pub last : raw.ended ≡ false → IsAtEnd (ahead left (state_of new)) × (new.ended ≡ true)

-- so many bytes without line reader were passed over
pub record Skips {S : Type 0} (left : S → Option (List ℕ)) (old new : LineReader S)
    (count : ℕ) : Type 0 where
  pub bytes : List ℕ
  pub len : length bytes ≡ count
  pub one_line : HasNoLineFeed bytes
  pub taken : Consumes (ahead left (state_of old)) (ahead left (state_of new)) bytes
  pub room : old.room ≡ count + new.room

-- behind so many skipped bytes the line ends, or the input is too long
abbrev pub EndsSkip : {S : Type 0} → (S → Option (List ℕ)) → LineReader S → LineReader S → ℕ
    → Result (Option Line) LineFault → Type 0
EndsSkip left old new skipped (Ok None) = ⊥
EndsSkip left old new skipped (Ok (Some line)) =
    (raw : RawLine) × TakesRaw left old new raw × (line ≡ TooLong (skipped + length raw.content))
EndsSkip left old new skipped (Err Read) = ⊥
EndsSkip left old new skipped (Err InputTooLong) = Shows old Past × (new ≡ old)
EndsSkip left old new skipped (Err Memory) = ⊥

-- a line without line feed is not empty, and comes where the source told its end
pub record IsLast (line : RawLine) (now : Option (List ℕ)) (ended : Bool) : Type 0 where
  pub some : line.content ≢ []
  pub at_end : IsAtEnd now
  pub told : ended ≡ true

-- a line as it stands was given: its bytes went from what was ahead, and are no longer in the room
pub record GivesRaw (before now : Option (List ℕ)) (room_before room_now : ℕ) (ended : Bool)
    (line : Line) : Type 0 where
  pub raw : RawLine
  pub told : line ≡ line_of raw
  pub size : HasLineSize line
  pub one_line : HasNoLineFeed raw.content
  pub taken : Consumes before now (raw_bytes raw)
  pub room : room_before ≡ length (raw_bytes raw) + room_now
  pub falls : room_now < room_before
  pub last : raw.ended ≡ false → IsLast raw now ended

-- a read failed: the part of a line that was taken has no line feed and lies within the room
pub record StopsInPart (before left_now : Option (List ℕ)) (room : ℕ) (ended : Bool)
    (faults_before faults_now : ℕ) : Type 0 where
  pub part : List ℕ
  pub taken : Consumes before left_now part
  pub one_line : HasNoLineFeed part
  pub within : length part ≤ room
  pub not_ended : ended ≡ false
  pub cause : Rose faults_before faults_now

-- more bytes were taken than the room has, and no line feed stands within it
pub record PassesInPart (before left_now : Option (List ℕ)) (room : ℕ) : Type 0 where
  pub part : List ℕ
  pub taken : Consumes before left_now part
  pub one_line : HasNoLineFeed (take room part)
  pub beyond : room < length part

-- what the next line is as it stands, or why there is none
abbrev pub NextRaw : {S : Type 0} → (S → Option (List ℕ)) → (S → ℕ) → LinesState S → LinesState S
    → Result (Option Line) LineFault → Type 0
NextRaw left faults old new (Ok (Some line)) =
    GivesRaw (ahead left old) (ahead left new) old.room new.room new.ended line
NextRaw left faults old new (Ok None) = IsEnd left old new
NextRaw left faults old new (Err Read) =
    StopsInPart (ahead left old) (left new.source) old.room old.ended
    (faults old.source) (faults new.source)
NextRaw left faults old new (Err InputTooLong) =
    PassesInPart (ahead left old) (left new.source) old.room
NextRaw left faults old new (Err Memory) = KeepsAhead left old new
