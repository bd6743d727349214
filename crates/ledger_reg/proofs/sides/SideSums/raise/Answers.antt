use Rattle.std.proofs.Common.{◌≡◌, ◌+◌, ◌≤◌, List, ap, ◌∙◌, sym, subst, arith}
use Rattle.std.specs.BTreeMap.{insert_entry}
use Rattle.ledger_reg.specs.declared.sides.SideKey.{SideKey}
use Rattle.ledger_reg.specs.declared.sides.Amounts.{Amounts}
use Rattle.ledger_reg.specs.contracts.sides.SideKeyOrd.TheImpl.{ghosts}
use Rattle.ledger_reg.specs.Sides.{SideAmounts, place_cmp, place_in, sides_in, plus_side}
use Rattle.ledger_reg.specs.Sides.{amounts_at, amounts_size}
use Rattle.ledger_reg.specs.Sizes.{size_of, total_size}
use Rattle.ledger_reg.proofs.MapLemmas.{insert-seen}
use Rattle.ledger_reg.proofs.SizeLemmas.{raised-fits, raised-value}
use Rattle.ledger_reg.proofs.SideLemmas.{amounts_at-size, sides-grown, derived-place_cmp}
use Rattle.ledger_reg.proofs.sides.SideSums.raise.Goals as goal

pub overflow_add-after : goal.overflow_add-after
overflow_add-after c =
    let small = amounts_at-size (record { account = c.args.account; extras = c.args.extras.items })
    c.args.self.now.sums.entries in
    raised-fits c.args.debit c.from.result c.amounts_at-before.result.debit _ c.from.ensures
    (ap (λ (v : Amounts). v.debit) c.amounts_at-before.ensures) c.ranges.debit
    (omega (arith, small, c.requires))

pub overflow_add-after-2 : goal.overflow_add-after-2
overflow_add-after-2 c =
    let small = amounts_at-size (record { account = c.args.account; extras = c.args.extras.items })
    c.args.self.now.sums.entries in
    raised-fits c.args.credit c.from-2.result c.amounts_at-before.result.credit _ c.from-2.ensures
    (ap (λ (v : Amounts). v.credit) c.amounts_at-before.ensures) c.ranges.credit
    (omega (arith, small, c.requires))

pub returns : goal.returns
returns c =
    let key : SideKey = record { account = c.args.account; extras = c.args.extras } in
    let es : List (SideKey × Amounts) = c.args.self.now.sums.entries in
    let at : Amounts = amounts_at (place_in key) (sides_in es) in
    let s : SideAmounts = record {
      place = place_in key;
      debit = c.args.debit;
      credit = c.args.credit;
    } in
    let small = amounts_at-size (place_in key) es in
    let debit = raised-value c.args.debit c.from.result c.amounts_at-before.result.debit at.debit
    c.from.ensures (ap (λ (v : Amounts). v.debit) c.amounts_at-before.ensures) c.ranges.debit
    (omega (arith, small, c.requires)) in
    let credit = raised-value c.args.credit c.from-2.result c.amounts_at-before.result.credit
    at.credit c.from-2.ensures (ap (λ (v : Amounts). v.credit) c.amounts_at-before.ensures)
    c.ranges.credit (omega (arith, small, c.requires)) in
    let entries : c.insert.new.self.entries ≡ insert_entry ghosts.cmp es key (plus_side s at) =
    c.in_ok-insert.ensures.entries
    ∙ (λ i. insert_entry ghosts.cmp es key (record { debit = debit i; credit = credit i })) in
    record {
      value = ap sides_in entries
          ∙ insert-seen place_in (λ (v : Amounts). v) ghosts.cmp place_cmp derived-place_cmp es key
          (plus_side s at);
      growth = subst (λ (ms : List (SideKey × Amounts)). total_size amounts_size ms
          ≤ total_size amounts_size es + (size_of s.debit + size_of s.credit)) (sym entries)
          (sides-grown key s es c.in_ok-insert.ensures.was_ordered);
    }
