-- What a reader of lines holds, and what one call of it gives, over any source.
use Rattle.std.specs.Prelude.{◌≡◌, ℕ, ◌+◌, ◌<◌, ◌≤◌, Bool, true, false, List, [], ◌∷◌, ◌++◌, length}
use Rattle.std.specs.Prelude.{take, Option, None, Some, Result, Ok, Err, ⊤, ◌⊎◌}
use Rattle.std.specs.Io.KnownBytes.{prepend_known, Keeps, IsAtEnd}
use Rattle.reg_io.specs.Counts.{Rose}
use Rattle.reg_io.specs.Lines.{lines_of, whole_lines_of, most_line_bytes}
use Rattle.reg_base.specs.declared.line.Line.{Line}
use Rattle.reg_base.specs.declared.line.Line.TheVariants.{Text, TooLong}
use Rattle.reg_io.specs.declared.line.LineFault.{LineFault}
use Rattle.reg_io.specs.declared.line.LineFault.TheVariants.{Read, InputTooLong, Memory}

-- a reader of lines: its source, the bytes that were read and not yet given, how many bytes may
-- still be given, whether the source told its end, and the fault that stays
pub record LinesState (S : Type 0) : Type 0 where
  pub source : S
  pub pending : List ℕ
  pub room : ℕ
  pub ended : Bool
  pub fault : Option LineFault

-- the bytes ahead: those read and not yet given, then those that the source has left
abbrev pub ahead : {S : Type 0} → (S → Option (List ℕ)) → LinesState S → Option (List ℕ)
ahead left state = prepend_known state.pending (left state.source)

-- a fact of the bytes before and behind a call, where they are told; told bytes stay told
abbrev pub OnTold : Option (List ℕ) → Option (List ℕ) → (List ℕ → List ℕ → Type 0) → Type 0
OnTold None now P = ⊤
OnTold (Some before) None P = ⊥
OnTold (Some before) (Some now) P = P before now

-- a text has at most the bytes of a line, and a line that is too long has more
abbrev pub HasLineSize : Line → Type 0
HasLineSize (Text bytes) = length bytes ≤ most_line_bytes
HasLineSize (TooLong bytes) = most_line_bytes < bytes

-- these bytes are a line with its line feed, whatever follows them; or nothing follows, and the
-- source told its end
abbrev pub EndsLine : List ℕ → List ℕ → Bool → Line → Type 0
EndsLine bytes now ended line =
    ((more : List ℕ) → whole_lines_of (bytes ++ more) ≡ line ∷ whole_lines_of more)
    ⊎ ((now ≡ []) × (ended ≡ true))

-- a line is the first of those ahead, and the others are still ahead; its bytes go from the room
pub record IsFirstLine (room_before room_now : ℕ) (ended : Bool) (line : Line)
    (before now : List ℕ) : Type 0 where
  pub lines : lines_of before ≡ line ∷ lines_of now
  pub bytes : List ℕ
  pub taken : before ≡ bytes ++ now
  pub room : room_before ≡ length bytes + room_now
  pub whole : EndsLine bytes now ended line

-- a line was given, and the room fell
pub record GivesLine (before now : Option (List ℕ)) (room_before room_now : ℕ) (ended : Bool)
    (line : Line) : Type 0 where
  pub first : OnTold before now (IsFirstLine room_before room_now ended line)
  pub size : HasLineSize line
  pub falls : room_now < room_before

-- the bytes that were taken from the source and not given lie within the room, and no whole line
-- is among them
pub record HasNoWholeLine (room : ℕ) (before left_now : List ℕ) : Type 0 where
  pub part : List ℕ
  pub taken : before ≡ part ++ left_now
  pub within : length part ≤ room
  pub none : whole_lines_of part ≡ []

-- a read failed, before the source told its end, and no whole line is left of the bytes taken
pub record StopsReading (before left_now : Option (List ℕ)) (room : ℕ) (ended : Bool)
    (faults_before faults_now : ℕ) : Type 0 where
  pub left : OnTold before left_now (HasNoWholeLine room)
  pub not_ended : ended ≡ false
  pub cause : Rose faults_before faults_now

-- more bytes were taken from the source than the room has, and no whole line is within it
pub record IsBeyondRoom (room : ℕ) (before left_now : List ℕ) : Type 0 where
  pub part : List ℕ
  pub taken : before ≡ part ++ left_now
  pub beyond : room < length part
  pub none : whole_lines_of (take room before) ≡ []

-- nothing is ahead, and the source told its end
pub record IsEnd {S : Type 0} (left : S → Option (List ℕ)) (old new : LinesState S) : Type 0 where
  pub before : IsAtEnd (ahead left old)
  pub now : IsAtEnd (ahead left new)
  pub room : new.room ≡ old.room
  pub ended : new.ended ≡ true

-- all that was ahead is ahead
pub record KeepsAhead {S : Type 0} (left : S → Option (List ℕ))
    (old new : LinesState S) : Type 0 where
  pub bytes : Keeps (ahead left old) (ahead left new)
  pub room : new.room ≡ old.room

-- what the next line is, or why there is none
abbrev pub NextLine : {S : Type 0} → (S → Option (List ℕ)) → (S → ℕ) → LinesState S → LinesState S
    → Result (Option Line) LineFault → Type 0
NextLine left faults old new (Ok (Some line)) =
    GivesLine (ahead left old) (ahead left new) old.room new.room new.ended line
NextLine left faults old new (Ok None) = IsEnd left old new
NextLine left faults old new (Err Read) =
    StopsReading (ahead left old) (left new.source) old.room old.ended
    (faults old.source) (faults new.source)
NextLine left faults old new (Err InputTooLong) =
    OnTold (ahead left old) (left new.source) (IsBeyondRoom old.room)
NextLine left faults old new (Err Memory) = KeepsAhead left old new

-- the fault that stays: want of memory does not
abbrev pub lasting_of : LineFault → Option LineFault
lasting_of Read = Some Read
lasting_of InputTooLong = Some InputTooLong
lasting_of Memory = None

-- the fault that stays after an answer
abbrev pub lasting_fault : Result (Option Line) LineFault → Option LineFault
lasting_fault (Ok line) = None
lasting_fault (Err fault) = lasting_of fault
