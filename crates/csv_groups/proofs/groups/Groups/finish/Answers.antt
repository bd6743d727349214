use Rattle.std.proofs.Common.{◌∙◌}
use Rattle.csv_groups.proofs.GroupLemmas.{held-all, held-posts}
use Rattle.csv_groups.proofs.groups.Groups.finish.Goals as goal

pub returns-clause-value : goal.returns-clause-value
returns-clause-value c = λ groups h.
    c.in_ok-close.ensures ∙ held-all c.args.columns.now _ _ groups h.are_held

pub returns-clause-posts : goal.returns-clause-posts
returns-clause-posts c = λ groups h.
    rw c.in_ok-close.ensures (held-posts c.args.columns.now _ _ groups h.are_held h.formed)
