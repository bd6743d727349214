use Rattle.std.proofs.Common.{ap, ◌∙◌, sym, length, subst, IfOk, All}
use Rattle.desk_model.specs.Manuals.{space_of}
use Rattle.desk_plans.specs.Bounds.{GivesNumbersIn}
use Rattle.desk_plans.proofs.GivenLemmas.{sets_in-numbers}
use Rattle.desk_plans.proofs.ReadingLemmas.{length-each}
use Rattle.desk_plans.proofs.manual.given_sets.Goals as goal

pub sets_in-requires : goal.sets_in-requires
sets_in-requires c =
    ap length c.as_slice.ensures
    ∙ length-each (space_of c.args.config.now) c.args.sets.now c.in_ok-spaces.spaces
    (sym c.in_ok-spaces.ensures)

pub returns-clause-numbers : goal.returns-clause-numbers
returns-clause-numbers c =
    subst (λ given. IfOk given (All GivesNumbersIn)) c.in_ok-given.ensures
    (sets_in-numbers c.what_is_read_is_in_range.ensures.numbers c.args.config.now
    c.as_slice.result.now c.args.sets.now)
