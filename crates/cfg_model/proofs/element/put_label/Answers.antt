use Rattle.std.proofs.Common.{cond, true, ap, ◌∙◌}
use Rattle.std.proofs.lemmas.Map.Text.{is_eq-slice_cmp}
use Rattle.cfg_model.specs.Labels.{has_label}
use Rattle.cfg_model.proofs.element.put_label.Goals as goal

pub returns-clause-labels : goal.returns-clause-labels
returns-clause-labels c = λ q.
    c.in_ok-insert.ensures.updates.0 (record { ref_ptr = (0, 0); now = q })
    ∙ ap (λ same. cond same true (has_label q c.args.labels.now.keys))
    (is_eq-slice_cmp c.args.label.now q)
