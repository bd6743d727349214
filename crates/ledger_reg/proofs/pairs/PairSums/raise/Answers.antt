use Rattle.std.proofs.Common.{◌≡◌, ◌+◌, ◌*◌, ◌^◌, ◌≤◌, ℤ, pos, ◌+ℤ◌, refl, ap, ◌∙◌, sym, subst}
use Rattle.std.proofs.Common.{List, is_eq, arith}
use Rattle.std.specs.Prelude.{unwrap_or}
use Rattle.std.specs.Map.{lookup}
use Rattle.std.specs.BTreeMap.{insert_entry}
use Rattle.cfg_model.specs.AccountTables.{pair_cmp}
use Rattle.ledger_reg.specs.declared.pairs.PairKey.{PairKey}
use Rattle.ledger_reg.specs.contracts.pairs.PairKeyOrd.TheImpl.{ghosts}
use Rattle.ledger_reg.specs.Pairs.{pair_in, pairs_in, sum_at}
use Rattle.ledger_reg.specs.Sizes.{size_of, total_size}
use Rattle.ledger_reg.proofs.MapLemmas.{lookup-seen, insert-seen, insert-size}
use Rattle.ledger_reg.proofs.PairLemmas.{derived-pair_cmp, derived_total, sum_at-size}
use Rattle.ledger_reg.proofs.SizeLemmas.{amount-size, size-plus, raised-fits, raised-value}
use Rattle.ledger_reg.proofs.pairs.PairSums.raise.Goals as goal

-- the map with an amount added to the sum of a pair is no larger than by the amount
grown : (key : PairKey) (amount : ℤ) (es : List (PairKey × ℤ))
    → Rattle.std.specs.List.Sorted.IsStrictlySortedBy ghosts.cmp (Rattle.std.specs.Map.keys_of es)
    → size_of amount ≤ 2 ^ 63
    → total_size size_of (insert_entry ghosts.cmp es key
    (amount +ℤ sum_at (pair_in key) (pairs_in es))) ≤ total_size size_of es + 2 ^ 63
grown key amount es rise small =
    let found : ℤ = unwrap_or (lookup (λ x. is_eq (ghosts.cmp key x)) es) (pos 0) in
    let is : found ≡ sum_at (pair_in key) (pairs_in es) =
    lookup-seen pair_in (λ n. n) (λ x. is_eq (ghosts.cmp key x))
    (λ p. is_eq (pair_cmp (pair_in key) p)) (λ x. ap is_eq (derived-pair_cmp key x)) (pos 0) es in
    let sums = size-plus amount (sum_at (pair_in key) (pairs_in es)) in
    let same = ap size_of is in
    insert-size derived_total size_of (pos 0) key
    (amount +ℤ sum_at (pair_in key) (pairs_in es)) (2 ^ 63) refl es rise
    (omega (arith, sums, same, small))

pub overflow_add-sum : goal.overflow_add-sum
overflow_add-sum c =
    let small = sum_at-size (pair_in (record { debit = c.args.debit; credit = c.args.credit }))
    c.args.self.now.sums.entries in
    raised-fits c.args.amount c.from.result c.sum_of.result _ c.from.ensures c.sum_of.ensures
    c.ranges.amount (omega (arith, small, c.requires))

pub returns : goal.returns
returns c =
    let key : PairKey = record { debit = c.args.debit; credit = c.args.credit } in
    let es : List (PairKey × ℤ) = c.args.self.now.sums.entries in
    let at : ℤ = sum_at (pair_in key) (pairs_in es) in
    let small : size_of at ≤ 2 ^ 64 * 2 ^ 47 =
    omega (arith, sum_at-size (pair_in key) es, c.requires) in
    let value = raised-value c.args.amount c.from.result c.sum_of.result at c.from.ensures
    c.sum_of.ensures c.ranges.amount small in
    let entries : c.insert.new.self.entries ≡ insert_entry ghosts.cmp es key (c.args.amount +ℤ at) =
    c.in_ok-insert.ensures.entries ∙ ap (insert_entry ghosts.cmp es key) value in
    record {
      value = ap pairs_in entries
          ∙ insert-seen pair_in (λ n. n) ghosts.cmp pair_cmp derived-pair_cmp es key
          (c.args.amount +ℤ at);
      growth = subst (λ (ms : List (PairKey × ℤ)). total_size size_of ms
          ≤ total_size size_of es + 2 ^ 63) (sym entries)
          (grown key c.args.amount es c.in_ok-insert.ensures.was_ordered
          (amount-size c.args.amount c.ranges.amount));
    }
