use Rattle.json_laws.proofs.ReadBack.{read-compact_text}
use Rattle.json_laws.proofs.laws.texts_read_back.Goals as goal

pub returns : goal.returns
returns c = read-compact_text
