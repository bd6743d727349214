use Rattle.json_laws.proofs.Texts.{IsUtf8-compact_text}
use Rattle.json_laws.proofs.laws.texts_are_utf8.Goals as goal

pub returns : goal.returns
returns c = IsUtf8-compact_text
