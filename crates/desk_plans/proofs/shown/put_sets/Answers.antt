use Rattle.std.proofs.Common.{◌++◌}
use Rattle.std.proofs.lemmas.Slice.Zip.{either_empty_from_Zip}
use Rattle.desk_plans.specs.ShownSets.{shown_spaces}
use Rattle.desk_plans.proofs.ShownLemmas.{shown_spaces-spent}
use Rattle.desk_plans.proofs.shown.put_sets.Goals as goal

pub returns : goal.returns
returns g c =
    let ended = either_empty_from_Zip c.spaces.space-iterator c.next.new.self _ c.in-None.is
    c.next.ensures.steps in
    shown_spaces-spent g.S.Shows.name_of g.S.Shows.text_of c.spaces.shown _ _
    (c.args.shown.now
    ++ shown_spaces g.S.Shows.name_of g.S.Shows.text_of c.args.spaces.now c.args.sets.now)
    ended c.spaces.invariant
