use Rattle.std.proofs.Common.{ap, ◌∙◌, rules, SFits}
use Rattle.std.specs.Int.{w128}
use Rattle.std.proofs.lemmas.Int.{to_z-of_z}
use Rattle.row_sums.specs.Sums.{sum_at}
use Rattle.row_sums.specs.Rows.{sums_at}
use Rattle.row_sums.proofs.AddLemmas.{sum_at-old}
use Rattle.row_sums.proofs.sums.RowSums.sum_of.Goals as goal

pub returns : goal.returns
returns c = λ by n bs h l.
    let fits : SFits w128 c.sum_in.result = search rules in
    to_z-of_z w128 c.sum_in.result fits ∙ c.sum_in.ensures
    ∙ ap (λ s. sum_at s c.args.resource) c.totals_of.ensures
    ∙ ap (λ rows. sum_at (sums_at c.args.group.now rows) c.args.resource) c.self.view_is
    ∙ sum_at-old by n bs c.args.self.now h c.args.group.now c.args.resource l
