use Rattle.std.proofs.Common.{◌≡◌, drop}
use Rattle.desk_model.specs.LastRequests.{last_of}
use Rattle.desk_core.proofs.numbers.last_of.Given as goal

abbrev pub invariant-lasts : goal.invariant-lasts
invariant-lasts l = last_of l.clerk (drop l.last-index l.lasts) ≡ last_of l.clerk l.lasts
