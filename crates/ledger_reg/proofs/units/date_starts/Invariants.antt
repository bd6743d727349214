use Rattle.std.proofs.Common.{◌≡◌, ◌+◌, ◌/◌, ◌++◌, map}
use Rattle.reg_base.specs.Units.{midnight, starts_unit, starts_between}
use Rattle.ledger_reg.proofs.StartLemmas.{days_to}
use Rattle.ledger_reg.proofs.units.date_starts.Given as goal

abbrev pub invariant-loop-day : goal.invariant-loop-day
invariant-loop-day l = l.starts
    ++ map midnight (days_to (starts_unit l.range.by) (l.range.to / 86_400 + 1) l.day)
    ≡ starts_between l.range.by l.range.from l.range.to
