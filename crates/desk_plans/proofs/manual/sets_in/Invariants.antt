-- The sets so far are read, and those that are left come behind them.
use Rattle.std.proofs.Common.{◌≡◌, drop}
use Rattle.desk_model.specs.Manuals.{sets_in}
use Rattle.desk_plans.proofs.ReadingLemmas.{following}
use Rattle.desk_plans.proofs.manual.sets_in.Given as goal

abbrev pub invariant-sets : goal.invariant-sets
invariant-sets l = following l.given.items
    (sets_in l.config (drop l.index l.spaces) (drop l.index l.sets)) ≡ sets_in l.config l.spaces
    l.sets
