use Rattle.std.proofs.Common.{ap, ◌∙◌, is_eq}
use Rattle.row_sums.proofs.RowLemmas.{sums_of, sums_of-lookup, derived-values_cmp}
use Rattle.row_sums.proofs.sums.totals_of.Goals as goal

pub returns-in-Some : goal.returns-in-Some
returns-in-Some c =
    c.as_slice.ensures.value ∙ ap sums_of c.in-Some.ensures.value
    ∙ sums_of-lookup c.args.group.now _
    (λ x. ap is_eq (derived-values_cmp c.args.group.now x.items)) c.args.sums.now.entries

pub returns-in-None : goal.returns-in-None
returns-in-None c =
    ap sums_of c.in-None.ensures.value
    ∙ sums_of-lookup c.args.group.now _
    (λ x. ap is_eq (derived-values_cmp c.args.group.now x.items)) c.args.sums.now.entries
