-- For the crates above: the lemmas of this crate that their proofs may cite.
use Rattle.std.proofs.Common.{◌≡◌, ◌≤◌, ◌==◌, IsUtf8, Some, false}
use Rattle.std.specs.List.{list_any}
use Rattle.serde_json.specs.Data.{Data, depth}
use Rattle.serde_json.specs.Read.{max_depth, read}
use Rattle.serde_json.specs.Written.{compact_text}
use Rattle.json_laws.specs.Plain.{IsPlain}
use Rattle.json_laws.proofs.ReadBack as texts_read
use Rattle.json_laws.proofs.Texts as texts
use Rattle.json_laws.proofs.LineLemmas as lines

-- the compact text of a plain value is read as that value
pub read-compact_text : (d : Data) → IsPlain d → depth d ≤ max_depth
    → read (compact_text d) ≡ Some d
read-compact_text = texts_read.read-compact_text

-- the compact text of a plain value is UTF-8
pub IsUtf8-compact_text : (d : Data) → IsPlain d → IsUtf8 (compact_text d)
IsUtf8-compact_text = texts.IsUtf8-compact_text

-- the compact text of a plain value has no line feed
pub list_any-compact_text : (d : Data) → IsPlain d
    → list_any (λ b. b == 10) (compact_text d) ≡ false
list_any-compact_text = lines.has_feed-compact_text
