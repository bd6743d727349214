use Rattle.std.proofs.Common.{◌≡◌, drop}
use Rattle.reg_base.specs.Results.{each}
use Rattle.desk_plans.proofs.ReadingLemmas.{following}
use Rattle.desk_plans.proofs.manual.read_each.Given as goal

abbrev pub invariant-texts : goal.invariant-texts
invariant-texts g l = following l.records.items
    (each (g.S.ReadsRecord.reads l.space) (drop l.text-index l.texts)) ≡ each
    (g.S.ReadsRecord.reads l.space) l.texts
