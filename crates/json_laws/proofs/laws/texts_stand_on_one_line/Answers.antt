use Rattle.json_laws.proofs.LineLemmas.{has_feed-compact_text}
use Rattle.json_laws.proofs.laws.texts_stand_on_one_line.Goals as goal

pub returns : goal.returns
returns c = has_feed-compact_text
