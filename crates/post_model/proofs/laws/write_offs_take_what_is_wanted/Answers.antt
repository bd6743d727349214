use Rattle.post_model.proofs.TakeLemmas.{write_off-takes}
use Rattle.post_model.proofs.laws.write_offs_take_what_is_wanted.Goals as goal

pub returns : goal.returns
returns c = write_off-takes
