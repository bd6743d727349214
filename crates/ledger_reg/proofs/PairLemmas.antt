-- Sums by pairs of accounts: their order, one entry more, and the rows that are shown.
use Rattle.std.proofs.Common.{◌≡◌, ℕ, ◌≤◌, ℤ, pos, ◌+ℤ◌, Bool, true, false, ◌&&◌, not}
use Rattle.std.proofs.Common.{cond, Option, Some, None, List, [], ◌∷◌, ◌++◌, map, refl, ap, ◌∙◌}
use Rattle.std.proofs.Common.{sym}
use Rattle.std.proofs.Common.{subst, arith}
use Rattle.std.specs.Prelude.{unwrap_or, IsPermutation}
use Rattle.std.specs.List.{filter, flat_map}
use Rattle.std.specs.Map.{lookup}
use Rattle.std.specs.BTreeMap.{insert_entry}
use Rattle.std.specs.Cmp.{IsTotalOrder, on_total, then_total}
use Rattle.std.specs.Cmp.Lexicographic.{slice_cmp, options_total, nat_list_cmp_total}
use Rattle.std.specs.Option.{option_cmp}
use Rattle.std.specs.Ordering.{nat_cmp, ordering_then, is_eq, int_eq}
use Rattle.std.specs.declared.cmp.Ordering.{Ordering}
use Rattle.std.specs.declared.cmp.Ordering.TheVariants.{Less, Equal, Greater}
use Rattle.std.proofs.lemmas.Int.{ints}
use Rattle.std.proofs.lemmas.List.Sorted.{IsPermutation-map, IsPermutation-append_comm}
use Rattle.std.proofs.lemmas.Map.Lookups.{CmpEqualImpliesEq, exact_bytes}
use Rattle.reg_base.specs.declared.tables.PairRow.{PairRow}
use Rattle.reg_base.specs.declared.tables.Range.{Range}
use Rattle.reg_base.specs.declared.records.Document.{Document}
use Rattle.reg_base.specs.BookedEntries.{BookedEntry, entered_by, entries_of}
use Rattle.reg_base.specs.BookedEntries.{entries_in}
use Rattle.reg_base.specs.Sums.{in_order_once}
use Rattle.reg_base.proofs.ForTables.{sum_over-permutation, in_order_once-permutation}
use Rattle.reg_base.proofs.ForTables.{IsPermutation-filter, entries_of-permutation}
use Rattle.cfg_model.specs.declared.ledger.Chart.{Chart}
use Rattle.cfg_model.specs.AccountTables.{Pair, pair_of, pair_cmp, absent_first, joins_asked}
use Rattle.cfg_model.specs.AccountTables.{pair_row, pair_rows, dr_cr_of}
use Rattle.ledger_reg.specs.declared.pairs.PairKey.{PairKey}
use Rattle.ledger_reg.specs.contracts.pairs.PairKeyOrd.TheImpl.{ghosts}
use Rattle.ledger_reg.specs.declared.pairs.PairSums.{PairSums}
use Rattle.ledger_reg.specs.Pairs.{pair_in, pairs_in, pair_sum, pair_sums, shown_pair, sum_at}
use Rattle.ledger_reg.specs.Pairs.{RaisesPair, SumsPairs, pairs_size}
use Rattle.ledger_reg.specs.Sizes.{size_of, total_size}
use Rattle.ledger_reg.specs.declared.walk.Span.TheVariants.{During}
use Rattle.ledger_reg.specs.Walks.{Adds, counts}
use Rattle.ledger_reg.proofs.MapLemmas.{added-totals, found-size, size-seen}

-- ---- the order of pairs

same-option_cmp : (x y : Option (List ℕ)) → option_cmp (slice_cmp nat_cmp) x y ≡ absent_first x y
same-option_cmp None None = refl
same-option_cmp None (Some b) = refl
same-option_cmp (Some a) None = refl
same-option_cmp (Some a) (Some b) = refl

absent_first_total : IsTotalOrder absent_first
absent_first_total =
    subst (λ (R : Option (List ℕ) → Option (List ℕ) → Ordering). IsTotalOrder R)
    (λ i. λ x y. same-option_cmp x y i) (options_total nat_list_cmp_total)

absent_first_exact : CmpEqualImpliesEq absent_first
absent_first_exact None None h = refl
absent_first_exact None (Some b) h = cc
absent_first_exact (Some a) None h = cc
absent_first_exact (Some a) (Some b) h = ap Some (exact_bytes a b h)

pub pair_cmp_total : IsTotalOrder pair_cmp
pair_cmp_total =
    then_total (on_total (λ (p : Pair). p.debit) absent_first_total)
    (on_total (λ (p : Pair). p.credit) absent_first_total)

then-Equal : (a b : Ordering) → ordering_then a b ≡ Equal → (a ≡ Equal) × (b ≡ Equal)
then-Equal Less b h = (cc, cc)
then-Equal Equal b h = (refl, h)
then-Equal Greater b h = (cc, cc)

pub pair_cmp_exact : CmpEqualImpliesEq pair_cmp
pair_cmp_exact p q h =
    let parts = then-Equal (absent_first p.debit q.debit) (absent_first p.credit q.credit) h in
    let debit = absent_first_exact p.debit q.debit parts.0 in
    let credit = absent_first_exact p.credit q.credit parts.1 in
    λ i. record { debit = debit i; credit = credit i }

-- the order that the code derives is that of pairs
pub derived-pair_cmp : (x y : PairKey) → ghosts.cmp x y ≡ pair_cmp (pair_in x) (pair_in y)
derived-pair_cmp x y =
    λ i. ordering_then (same-option_cmp x.debit y.debit i) (same-option_cmp x.credit y.credit i)

pub derived_total : IsTotalOrder ghosts.cmp
derived_total =
    subst (λ (R : PairKey → PairKey → Ordering). IsTotalOrder R)
    (sym (λ i. λ x y. derived-pair_cmp x y i)) (on_total pair_in pair_cmp_total)

-- ---- one entry more

zero_first : (n : ℤ) → pos 0 +ℤ n ≡ n
zero_first n = omega (arith, ints)

pair_sum-own : (b : BookedEntry) (bs : List BookedEntry) (p : Pair)
    → is_eq (pair_cmp (pair_of b) p) ≡ true → pair_sum (b ∷ bs) p ≡ b.entry.amount +ℤ pair_sum bs p
pair_sum-own b bs p e = ap (λ t. cond t b.entry.amount (pos 0) +ℤ pair_sum bs p) e

pair_sum-other : (b : BookedEntry) (bs : List BookedEntry) (p : Pair)
    → is_eq (pair_cmp (pair_of b) p) ≡ false → pair_sum (b ∷ bs) p ≡ pair_sum bs p
pair_sum-other b bs p e =
    ap (λ t. cond t b.entry.amount (pos 0) +ℤ pair_sum bs p) e ∙ zero_first (pair_sum bs p)

-- the sums of the same entries in another order
pub pair_sums-permutation : (xs ys : List BookedEntry) → IsPermutation xs ys
    → pair_sums xs ≡ pair_sums ys
pair_sums-permutation xs ys same =
    λ i. map (λ (p : Pair). (
      p,
      sum_over-permutation
          (λ b. cond (is_eq (pair_cmp (pair_of b) p)) b.entry.amount (pos 0)) xs ys same i,
    ))
    (in_order_once-permutation pair_cmp_total pair_cmp_exact (map pair_of xs) (map pair_of ys)
    (IsPermutation-map pair_of xs ys same) i)

pub pair_sums-more : (b : BookedEntry) (bs : List BookedEntry)
    → insert_entry pair_cmp (pair_sums bs) (pair_of b) (b.entry.amount
    +ℤ unwrap_or (lookup (λ p. is_eq (pair_cmp (pair_of b) p)) (pair_sums bs)) (pos 0))
    ≡ pair_sums (bs ++ b ∷ [])
pair_sums-more b bs =
    added-totals pair_cmp_total pair_cmp_exact pair_of (pos 0)
    (λ (x : BookedEntry) (n : ℤ). x.entry.amount +ℤ n) pair_sum (λ p. refl) pair_sum-own
    pair_sum-other b bs
    ∙ pair_sums-permutation (b ∷ bs) (bs ++ b ∷ [])
    (IsPermutation-append_comm (b ∷ []) bs)

-- the sum of a pair is no larger than all sums together
pub sum_at-size : (p : Pair) (es : List (PairKey × ℤ))
    → size_of (sum_at p (pairs_in es)) ≤ total_size size_of es
sum_at-size p es = omega (
  arith,
  found-size pair_cmp_total size_of (pos 0) (λ q. is_eq (pair_cmp p q)) (pairs_in es) refl,
  size-seen pair_in (λ n. n) size_of size_of (λ n. refl) es,
)

-- an entry whose amount is added to the sum of its pair
pub pair-adds : (b : BookedEntry) (p : Pair) (old new : PairSums) → p ≡ pair_of b
    → RaisesPair p b.entry.amount old new → Adds SumsPairs pairs_size (b ∷ []) old new
pair-adds b p old new same h = record {
  sums = λ bs e. h.value
      ∙ (λ i. insert_entry pair_cmp (e i) (same i) (b.entry.amount +ℤ sum_at (same i) (e i)))
      ∙ pair_sums-more b bs;
  growth = omega (arith, h.growth);
}

-- ---- the rows that are shown

module _ (chart : Chart) (asked : Option (List ℕ)) (entries : List BookedEntry) where
  abbrev is_shown : PairRow → Bool
  is_shown row = not (int_eq row.amount (pos 0))

  -- the rows of pairs, where they are shown
  abbrev rows_of : List Pair → List PairRow
  rows_of ps = filter is_shown (map (pair_row entries) (filter (joins_asked chart asked) ps))

  shown-rows : (ps : List Pair)
      → flat_map (shown_pair chart asked) (map (λ (p : Pair). (p, pair_sum entries p)) ps)
      ≡ filter is_shown (map (pair_row entries) (filter (joins_asked chart asked) ps))
  shown-rows [] = refl
  shown-rows (p ∷ ps) =
      at (is_shown (pair_row entries p)) refl (joins_asked chart asked p) (shown-rows ps)
    where
      at : (b : Bool) → is_shown (pair_row entries p) ≡ b → (j : Bool)
          → flat_map (shown_pair chart asked) (map (λ (p : Pair). (p, pair_sum entries p)) ps)
          ≡ filter is_shown (map (pair_row entries) (filter (joins_asked chart asked) ps))
          → cond (b && j) (pair_row entries p ∷ []) []
          ++ flat_map (shown_pair chart asked) (map (λ (p : Pair). (p, pair_sum entries p)) ps)
          ≡ filter is_shown (map (pair_row entries)
          (cond j (p ∷ filter (joins_asked chart asked) ps) (filter (joins_asked chart asked) ps)))
      at true e true ih =
          ap (λ t. pair_row entries p ∷ t) ih
          ∙ ap (λ b. cond b (pair_row entries p ∷ rows_of ps) (rows_of ps)) (sym e)
      at true e false ih = ih
      at false e true ih =
          ih ∙ ap (λ b. cond b (pair_row entries p ∷ rows_of ps) (rows_of ps)) (sym e)
      at false e false ih = ih

  -- the rows of the pairs of the table
  pub shown-pair_rows : flat_map (shown_pair chart asked) (pair_sums entries)
      ≡ pair_rows chart asked entries
  unfolding pair_rows
  shown-pair_rows = shown-rows (in_order_once pair_cmp (map pair_of entries))

-- the table over the entries as the documents hold them
pub shown-dr_cr : (chart : Chart) (asked : Option (List ℕ)) (range : Range) (ledger : ℕ)
    (documents : List Document)
    → flat_map (shown_pair chart asked)
    (pair_sums (filter (counts (During range)) (flat_map (entered_by ledger) documents)))
    ≡ dr_cr_of chart (entries_of ledger documents) asked range
shown-dr_cr chart asked range ledger documents =
    let entered = flat_map (entered_by ledger) documents in
    ap (flat_map (shown_pair chart asked))
    (pair_sums-permutation (filter (counts (During range)) entered)
    (entries_in range (entries_of ledger documents))
    (IsPermutation-filter (counts (During range)) entered (entries_of ledger documents)
    (entries_of-permutation ledger documents)))
    ∙ shown-pair_rows chart asked (entries_in range (entries_of ledger documents))
