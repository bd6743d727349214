use Rattle.std.proofs.Common.{All, sym, subst}
use Rattle.reg_base.specs.Documents.{HasShortSets}
use Rattle.desk_core.proofs.ShortLemmas.{short-documents}
use Rattle.desk_core.proofs.desk.Desk.walk.Goals as goal

pub returns-clause-short : goal.returns-clause-short
returns-clause-short c =
    subst (All HasShortSets) (sym c.walk.ensures.walk)
    (short-documents c.self.inside.store.documents c.self.invariant.kept.short)
