use Rattle.desk_words.proofs.ReadBackLemmas.{request-back}
use Rattle.desk_words.proofs.laws.requests_read_back.Goals as goal

pub returns : goal.returns
returns c = request-back
