-- None of the names so far is wrong.
use Rattle.std.proofs.Common.{◌≡◌, [], drop, take}
use Rattle.cfg_model.specs.Asks.{first_wrong}
use Rattle.virt_tables.proofs.ask.first_wrong.Given as goal

abbrev pub invariant-loop-index : goal.invariant-loop-index
invariant-loop-index l =
    first_wrong l.dimensions (take l.index l.names) (drop l.index l.names)
    ≡ first_wrong l.dimensions [] l.names
