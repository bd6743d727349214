use Rattle.desk_plans.proofs.ShownLemmas.{sets-shown}
use Rattle.desk_plans.proofs.shown.shown_sets.Goals as goal

pub returns : goal.returns
returns c =
    sets-shown c.args.config.now c.args.sets.now _ _ _ _ _ _ _ c.new-shown.ensures
    c.as_slice.ensures c.as_slice-2.ensures c.as_slice-3.ensures c.as_slice-4.ensures
    c.in_ok-put_sets.ensures c.in_ok-put_sets-2.ensures
