-- What a line says, where it is UTF-8 and where it is not.
use Rattle.std.proofs.Common.{◌≡◌, ℕ, List, length, None, eq-eqb, ne_eqb, arith}
use Rattle.std.specs.Str.{IsUtf8, IsValidUpTo}
use Rattle.std.specs.Str.Lossy.{utf8_valid_len}
use Rattle.std.proofs.lemmas.Str.{utf8_valid_len-IsUtf8, utf8_valid_len-IsValidUpTo}
use Rattle.serde_json.specs.Read.{read}
use Rattle.desk_words.specs.Reading.{json_document}

-- a text is read as it is
pub json_document-text : (bytes : List ℕ) → IsUtf8 bytes → json_document bytes ≡ read bytes
unfolding json_document
json_document-text bytes is = rw (eq-eqb _ _ (utf8_valid_len-IsUtf8 bytes is))

-- other bytes are no JSON
pub json_document-fault : (bytes : List ℕ) (n : ℕ) → IsValidUpTo bytes n
    → json_document bytes ≡ None
unfolding json_document
json_document-fault bytes n is =
    let short = is.short in
    let apart : utf8_valid_len bytes ≡ length bytes
    → ⊥ = λ e. omega (arith, utf8_valid_len-IsValidUpTo bytes n is) in
    rw (ne_eqb _ _ apart)
