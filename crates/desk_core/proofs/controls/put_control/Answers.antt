use Rattle.std.proofs.Common.{ap, ◌∙◌}
use Rattle.std.specs.List.{insert, prefix_len}
use Rattle.std.specs.Ordering.{is_lt}
use Rattle.desk_model.specs.Controls.{control_cmp}
use Rattle.desk_core.proofs.ControlLemmas.{insert-put}
use Rattle.desk_core.proofs.controls.put_control.Goals as goal

pub returns : goal.returns
returns c =
    c.in_ok-insert.ensures.items
    ∙ ap (λ n. insert c.args.controls.now.items n c.args.control)
    (c.place_among-place.ensures.value
    ∙ ap (prefix_len (λ x. is_lt (control_cmp x c.args.control))) c.deref.ensures.value)
    ∙ insert-put c.args.control c.args.controls.now.items
