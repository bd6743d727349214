use Rattle.desk_history.proofs.EntryLemmas.{command_of-commands_text}
use Rattle.desk_history.proofs.laws.entries_read_back.Goals as goal

pub returns : goal.returns
returns c = command_of-commands_text c.requests_read_back.ensures
