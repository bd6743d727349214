use Rattle.std.proofs.Common.{ap, ◌∙◌, sym, subst, arith, length, is_eq, ◌^◌, ◌+ℤ◌}
use Rattle.reg_base.specs.Records.{amount_at}
use Rattle.row_sums.specs.Sums.{booked, sum_at, IsInReach}
use Rattle.row_sums.specs.Rows.{rows_of}
use Rattle.row_sums.proofs.RowLemmas.{sums_of, sums_of-lookup, derived-values_cmp}
use Rattle.row_sums.proofs.ReachLemmas.{found-reach}
use Rattle.row_sums.proofs.AddsLemmas.{Adds-raise}
use Rattle.row_sums.proofs.RaiseLemmas.{raised-whole}
use Rattle.row_sums.proofs.sums.add_to.Goals as goal

pub raise-requires : goal.raise-requires
raise-requires c =
    λ j l. subst (λ s. IsInReach (2 ^ 46) (sum_at s j))
    (sym (c.as_mut_slice.ensures.value ∙ ap sums_of c.in-Some.ensures.value
    ∙ sums_of-lookup c.args.group.now _
    (λ x. ap is_eq (derived-values_cmp c.args.group.now x.items)) c.args.sums.now.entries))
    (found-reach (2 ^ 46) c.args.group.now (rows_of c.args.sums.now.entries) c.requires j)

pub make_row-requires : goal.make_row-requires
make_row-requires c =
    rw c.get_mut.follows.holds-at-none
    (sym (sums_of-lookup c.args.group.now _
    (λ x. ap is_eq (derived-values_cmp c.args.group.now x.items)) c.args.sums.now.entries)
    ∙ ap sums_of (sym c.in-None.ensures.value))

pub returns-in-Some : goal.returns-in-Some
returns-in-Some c = λ by number own.
    Adds-raise by c.args.resources (booked number c.args.rec.now) c.args.group.now own _
    (λ x. ap is_eq (derived-values_cmp c.args.group.now x.items))
    c.args.sums.now.entries _ c.in-Some.found.now _ (sym c.in-Some.ensures.value)
    (raised-whole (λ xs j. amount_at j c.args.rec.now +ℤ sum_at xs j) c.in-Some.found.now.items
    c.as_mut_slice.result.now c.raise.new.sums _ c.as_mut_slice.ensures.value
    c.as_mut_slice.ensures.len c.raise.ensures.value)
    (λ j l. c.raise.ensures.small j (omega (arith, l, ap length c.as_mut_slice.ensures.value)))
    (c.get_mut.follows.holds _).0
