use Rattle.json_laws.proofs.Values.{HasUtf8-view}
use Rattle.json_laws.proofs.laws.value_has_utf8.Goals as goal

pub returns : goal.returns
returns c = HasUtf8-view c.args.value.now
