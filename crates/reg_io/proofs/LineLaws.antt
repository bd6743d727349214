-- How bytes are cut into lines: a line that has its line feed, one that lacks it, and none.
use Rattle.std.proofs.Common.{◌≡◌, ℕ, ◌≢◌, true, false, List, [], ◌∷◌, ◌++◌, refl, ap, ◌∙◌, arith}
use Rattle.std.specs.List.{AllByRecursion}
use Rattle.std.proofs.lemmas.List.Elements.{recursion_from_All}
use Rattle.reg_io.specs.Lines.{line_feed, raw_lines, onto, whole_lines_of}
use Rattle.reg_io.specs.LineReaders.{HasNoLineFeed}

-- a byte that is no line feed stands on the front of the lines behind it
raw_lines-other : (byte : ℕ) (bytes : List ℕ) → byte ≢ line_feed
    → raw_lines (byte ∷ bytes) ≡ onto byte (raw_lines bytes)
raw_lines-other byte bytes h = grind (arith, h)

raw_lines-line_feed_by : (content rest : List ℕ) → AllByRecursion (λ byte. byte ≢ line_feed) content
    → raw_lines (content ++ line_feed ∷ rest)
    ≡ (record { content = content; ended = true }) ∷ raw_lines rest
raw_lines-line_feed_by [] rest h = refl
raw_lines-line_feed_by (byte ∷ bytes) rest h =
    raw_lines-other byte (bytes ++ line_feed ∷ rest) h.0
    ∙ ap (onto byte) (raw_lines-line_feed_by bytes rest h.1)

raw_lines-part_by : (byte : ℕ) (bytes : List ℕ)
    → AllByRecursion (λ byte. byte ≢ line_feed) (byte ∷ bytes)
    → raw_lines (byte ∷ bytes) ≡ (record { content = byte ∷ bytes; ended = false }) ∷ []
raw_lines-part_by byte [] h = raw_lines-other byte [] h.0
raw_lines-part_by byte (next ∷ bytes) h =
    raw_lines-other byte (next ∷ bytes) h.0
    ∙ ap (onto byte) (raw_lines-part_by next bytes h.1)

-- the first line of bytes, up to their first line feed
pub raw_lines-line_feed : (content rest : List ℕ) → HasNoLineFeed content
    → raw_lines (content ++ line_feed ∷ rest)
    ≡ (record { content = content; ended = true }) ∷ raw_lines rest
raw_lines-line_feed content rest h =
    raw_lines-line_feed_by content rest (recursion_from_All (λ byte. byte ≢ line_feed) content h)

-- bytes without a line feed are one line that has none
pub raw_lines-part : (part : List ℕ) → HasNoLineFeed part → part ≢ []
    → raw_lines part ≡ (record { content = part; ended = false }) ∷ []
raw_lines-part [] h some = absurd (some refl)
raw_lines-part (byte ∷ bytes) h some =
    raw_lines-part_by byte bytes (recursion_from_All (λ byte. byte ≢ line_feed) (byte ∷ bytes) h)

-- and no whole line stands in them
pub whole_lines_of-part : (part : List ℕ) → HasNoLineFeed part → whole_lines_of part ≡ []
whole_lines_of-part [] h = refl
whole_lines_of-part (byte ∷ bytes) h =
    rw (raw_lines-part (byte ∷ bytes) h (λ e. absurd (cc))) refl
