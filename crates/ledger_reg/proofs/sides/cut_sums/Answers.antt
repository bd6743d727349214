use Rattle.std.proofs.Common.{◌≡◌, ◌≤◌, ◌*◌, ◌^◌, [], IfOk, List, map, ap, subst, arith}
use Rattle.std.specs.List.{filter}
use Rattle.ledger_reg.specs.declared.sides.AccountSum.{AccountSum}
use Rattle.ledger_reg.specs.declared.walk.Span.TheVariants.{Inside}
use Rattle.ledger_reg.specs.Walks.{counts}
use Rattle.ledger_reg.specs.Sides.{account_sum, amounts_size, is_moved, sides_in}
use Rattle.ledger_reg.specs.Sizes.{total_size}
use Rattle.ledger_reg.specs.Balances.{sums_size}
use Rattle.ledger_reg.proofs.NetBelowLemmas.{moved-size, entries-few}
use Rattle.ledger_reg.proofs.SizeLemmas.{IfOk-map}
use Rattle.ledger_reg.proofs.sides.cut_sums.Goals as goal

pub returns-clause-value : goal.returns-clause-value
returns-clause-value c =
    subst (λ (xs : List AccountSum). IfOk c.into_moved.result (λ rows. rows ≡ xs))
    (ap (λ es. filter is_moved (map account_sum es))
    (c.in_ok-add_documents.ensures.sums [] (ap sides_in c.new-sums.ensures)))
    c.into_moved.ensures

pub returns-clause-small : goal.returns-clause-small
returns-clause-small c =
    let none = ap (total_size amounts_size) c.new-sums.ensures in
    let few = entries-few (counts (Inside c.args.cut.now)) c.args.ledger c.args.documents
    c.requires.short c.requires.few in
    IfOk-map _ (λ sums. sums_size sums ≤ 2 ^ 64 * 2 ^ 46)
    (λ rows e. omega (
      arith,
      ap sums_size e,
      moved-size c.add_documents.new.sums.sums.entries,
      c.in_ok-add_documents.ensures.growth,
      none,
      few,
    ))
    c.into_moved.result c.into_moved.ensures
