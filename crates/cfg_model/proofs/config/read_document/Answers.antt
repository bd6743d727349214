-- A text that is UTF-8 is the document that it parses to.
use Rattle.std.proofs.Common.{◌≡◌, ℕ, List, refl, length}
use Rattle.std.specs.Str.{IsUtf8}
use Rattle.std.proofs.lemmas.Bool.{eq-eqb}
use Rattle.std.proofs.lemmas.Str.{utf8_valid_len-IsUtf8}
use Rattle.toml.specs.Parse.{parse_document}
use Rattle.cfg_model.specs.Reading.{toml_document}
use Rattle.cfg_model.proofs.config.read_document.Goals as goal

toml_document-utf8 : (bytes : List ℕ) → IsUtf8 bytes → toml_document bytes ≡ parse_document bytes
unfolding toml_document
toml_document-utf8 bytes utf8 =
    let same = eq-eqb (length bytes) (length bytes) refl in
    rw (utf8_valid_len-IsUtf8 bytes utf8, same) refl

pub returns-in-Ok-table_from_str : goal.returns-in-Ok-table_from_str
returns-in-Ok-table_from_str c =
    let text_is = c.in-Ok.ensures.cases.0 in
    let read = rw text_is at c.in-Ok-table_from_str.ensures.ok in
    rw (toml_document-utf8 c.args.bytes.now c.in-Ok.ensures.cases.1, read) refl
