use Rattle.std.proofs.Common.{cond, true, ap, ◌∙◌}
use Rattle.std.proofs.lemmas.Map.Text.{is_eq-slice_cmp}
use Rattle.csv_groups.specs.Standing.{has_key_in}
use Rattle.csv_groups.proofs.groups.put_key.Goals as goal

pub returns-clause-keys : goal.returns-clause-keys
returns-clause-keys c = λ q.
    c.in_ok-insert.ensures.updates.0 q
    ∙ ap (λ same. cond same true (has_key_in q c.args.keys.now.keys))
    (is_eq-slice_cmp c.args.key q)
