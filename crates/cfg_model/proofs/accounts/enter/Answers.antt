use Rattle.std.proofs.Common.{ap, ◌∙◌, subst, sym}
use Rattle.cfg_model.specs.AccountMaps.{AreKeyed, values_of}
use Rattle.cfg_model.proofs.ChartLemmas.{put_account-entry, AreKeyed-entry}
use Rattle.cfg_model.proofs.accounts.enter.Goals as goal

pub returns-clause-values : goal.returns-clause-values
returns-clause-values c =
    ap values_of c.in_ok-insert.ensures.entries
    ∙ put_account-entry c.args.account c.args.by_code.now.entries c.requires

pub returns-clause-keyed : goal.returns-clause-keyed
returns-clause-keyed c =
    subst AreKeyed (sym c.in_ok-insert.ensures.entries)
    (AreKeyed-entry c.args.account c.args.by_code.now.entries c.requires)
