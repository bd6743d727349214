-- The lines of bytes: each line feed ends one, and a last line may lack it.
use Rattle.std.specs.Prelude.{ℕ, ◌-◌, ◌==◌, Bool, true, false, List, [], ◌∷◌, ◌++◌, length, take}
use Rattle.std.specs.Prelude.{slice_index, map, filter, nat_le, if◌then◌else◌}
use Rattle.reg_base.specs.declared.line.Line.{Line}
use Rattle.reg_base.specs.declared.line.Line.TheVariants.{Text, TooLong}

-- the bytes of a line that is told, at the most
abbrev pub most_line_bytes : ℕ
most_line_bytes = 1_048_576

-- the byte of a line feed, and that of a carriage return
abbrev pub line_feed : ℕ
line_feed = 10

abbrev pub carriage_return : ℕ
carriage_return = 13

-- a line as it stands: its bytes without the line feed, and whether it has one
pub record RawLine : Type 0 where
  pub content : List ℕ
  pub ended : Bool

-- the bytes that a line takes, its line feed among them
abbrev pub raw_bytes : RawLine → List ℕ
raw_bytes line = if line.ended then line.content ++ line_feed ∷ [] else line.content

-- a byte in front of lines is on the front of the first; in front of none it is a line without end
abbrev pub onto : ℕ → List RawLine → List RawLine
onto byte [] = (record { content = byte ∷ []; ended = false }) ∷ []
onto byte (line ∷ lines) = (record line { content = byte ∷ line.content }) ∷ lines

-- the lines as they stand in the bytes
abbrev pub raw_lines : List ℕ → List RawLine
raw_lines [] = []
raw_lines (byte ∷ bytes) =
    if byte == line_feed
    then (record { content = []; ended = true }) ∷ raw_lines bytes
    else onto byte (raw_lines bytes)

-- bytes without one carriage return at their end
abbrev pub without_return : List ℕ → List ℕ
without_return bytes =
    if slice_index bytes (length bytes - 1) == carriage_return
    then take (length bytes - 1) bytes
    else bytes

-- the text of a line: a carriage return goes with the line feed, and stays where there is none
abbrev pub raw_text : RawLine → List ℕ
raw_text line = if line.ended then without_return line.content else line.content

-- a line as it is told: its text, or its length where it is too long
abbrev pub line_of : RawLine → Line
line_of line =
    if nat_le (length line.content) most_line_bytes
    then Text (raw_text line)
    else TooLong (length line.content)

-- all lines of the bytes
abbrev pub lines_of : List ℕ → List Line
lines_of bytes = map line_of (raw_lines bytes)

-- the lines of the bytes that have their line feed
abbrev pub whole_lines_of : List ℕ → List Line
whole_lines_of bytes = map line_of (filter (λ line. line.ended) (raw_lines bytes))
