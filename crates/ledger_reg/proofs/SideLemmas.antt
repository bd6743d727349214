-- Sums of sides by account and extras: their order, one side more, and sums of all entries.
use Rattle.std.proofs.Common.{◌≡◌, ℕ, ◌+◌, ◌^◌, ◌≤◌, ℤ, pos, ◌+ℤ◌, true, false, cond}
use Rattle.std.proofs.Common.{List, [], ◌∷◌, ◌++◌, map, refl, ap, ◌∙◌, sym}
use Rattle.std.proofs.Common.{subst, arith, append_assoc}
use Rattle.std.specs.Prelude.{unwrap_or, IsPermutation}
use Rattle.std.specs.List.{filter, flat_map}
use Rattle.std.specs.List.Sorted.{IsStrictlySortedBy}
use Rattle.std.specs.Map.{lookup, keys_of}
use Rattle.std.specs.BTreeMap.{insert_entry}
use Rattle.std.specs.Cmp.{IsTotalOrder, on_total, then_total}
use Rattle.std.specs.Cmp.Lexicographic.{slice_cmp, nat_list_cmp_total}
use Rattle.std.specs.Ordering.{nat_cmp, ordering_then, is_eq}
use Rattle.std.specs.declared.cmp.Ordering.{Ordering}
use Rattle.std.specs.declared.cmp.Ordering.TheVariants.{Less, Equal, Greater}
use Rattle.std.proofs.lemmas.Cmp.{lists_total}
use Rattle.std.proofs.lemmas.Int.{ints}
use Rattle.std.proofs.lemmas.List.{append-nil}
use Rattle.std.proofs.lemmas.List.Sorted.{IsPermutation-map, IsPermutation-append_comm}
use Rattle.std.proofs.lemmas.List.Sorted.{IsPermutation-append_left, IsPermutation-append_right}
use Rattle.std.proofs.lemmas.Map.Lookups.{CmpEqualImpliesEq, exact_bytes}
use Rattle.reg_base.specs.BookedEntries.{BookedEntry}
use Rattle.reg_base.proofs.ForTables.{sum_over-permutation, in_order_once-permutation}
use Rattle.reg_base.proofs.ForTables.{value-permutation}
use Rattle.ledger_reg.specs.declared.sides.SideKey.{SideKey}
use Rattle.ledger_reg.specs.declared.sides.Amounts.{Amounts}
use Rattle.ledger_reg.specs.declared.sides.SideSums.{SideSums}
use Rattle.ledger_reg.specs.contracts.sides.SideKeyOrd.TheImpl.{ghosts}
use Rattle.ledger_reg.specs.Sides.{SidePlace, SideAmounts, place_cmp, place_in, sides_in}
use Rattle.ledger_reg.specs.Sides.{no_amounts, account_sum, account_sums, is_moved}
use Rattle.ledger_reg.specs.Sides.{plus_side, place_sums, side_sums, sides_of, amounts_at}
use Rattle.ledger_reg.specs.Sides.{amounts_size, sides_size, RaisesSide, AddsSide, SumsSides}
use Rattle.ledger_reg.specs.Sizes.{size_of, total_size}
use Rattle.ledger_reg.specs.Walks.{Adds}
use Rattle.ledger_reg.proofs.MapLemmas.{added-totals, lookup-seen, found-size, insert-size}
use Rattle.ledger_reg.proofs.MapLemmas.{size-seen}
use Rattle.ledger_reg.proofs.SizeLemmas.{size-plus}

-- ---- the order of places

pub then-Equal : (a b : Ordering) → ordering_then a b ≡ Equal → (a ≡ Equal) × (b ≡ Equal)
then-Equal Less b h = (cc, cc)
then-Equal Equal b h = (refl, h)
then-Equal Greater b h = (cc, cc)

pub exact_lists : {X : Type 0} (R : X → X → Ordering) → CmpEqualImpliesEq R
    → CmpEqualImpliesEq (slice_cmp R)
exact_lists R exact [] [] h = refl
exact_lists R exact [] (y ∷ ys) h = cc
exact_lists R exact (x ∷ xs) [] h = cc
exact_lists R exact (x ∷ xs) (y ∷ ys) h =
    let parts = then-Equal (R x y) (slice_cmp R xs ys) h in
    let first = exact x y parts.0 in
    let others = exact_lists R exact xs ys parts.1 in
    cc

pub place_cmp_total : IsTotalOrder place_cmp
place_cmp_total =
    then_total (on_total (λ (p : SidePlace). p.account) nat_list_cmp_total)
    (on_total (λ (p : SidePlace). p.extras) (lists_total nat_list_cmp_total))

pub place_cmp_exact : CmpEqualImpliesEq place_cmp
place_cmp_exact p q h =
    let parts = then-Equal (slice_cmp nat_cmp p.account q.account)
    (slice_cmp (slice_cmp nat_cmp) p.extras q.extras) h in
    let account = exact_bytes p.account q.account parts.0 in
    let extras = exact_lists (slice_cmp nat_cmp) exact_bytes p.extras q.extras parts.1 in
    λ i. record { account = account i; extras = extras i }

-- the order that the code derives is that of places
pub derived-place_cmp : (x y : SideKey) → ghosts.cmp x y ≡ place_cmp (place_in x) (place_in y)
derived-place_cmp x y = refl

pub derived_total : IsTotalOrder ghosts.cmp
derived_total =
    subst (λ (R : SideKey → SideKey → Ordering). IsTotalOrder R)
    (sym (λ i. λ x y. derived-place_cmp x y i)) (on_total place_in place_cmp_total)

-- ---- one side more

pub zero_first : (n : ℤ) → pos 0 +ℤ n ≡ n
zero_first n = omega (arith, ints)

place_sums-own : (s : SideAmounts) (ds : List SideAmounts) (p : SidePlace)
    → is_eq (place_cmp s.place p) ≡ true → place_sums (s ∷ ds) p ≡ plus_side s (place_sums ds p)
place_sums-own s ds p e = λ i. record {
  debit = cond (e i) s.debit (pos 0) +ℤ (place_sums ds p).debit;
  credit = cond (e i) s.credit (pos 0) +ℤ (place_sums ds p).credit;
}

place_sums-other : (s : SideAmounts) (ds : List SideAmounts) (p : SidePlace)
    → is_eq (place_cmp s.place p) ≡ false → place_sums (s ∷ ds) p ≡ place_sums ds p
place_sums-other s ds p e =
    (λ i. record {
      debit = cond (e i) s.debit (pos 0) +ℤ (place_sums ds p).debit;
      credit = cond (e i) s.credit (pos 0) +ℤ (place_sums ds p).credit;
    })
    ∙ (λ i. record {
      debit = zero_first (place_sums ds p).debit i;
      credit = zero_first (place_sums ds p).credit i;
    })

-- the sums of the same sides in another order
pub side_sums-permutation : (xs ys : List SideAmounts) → IsPermutation xs ys
    → side_sums xs ≡ side_sums ys
side_sums-permutation xs ys same =
    λ i. map (λ (p : SidePlace). (p, sums p i))
    (in_order_once-permutation place_cmp_total place_cmp_exact (map (λ s. s.place) xs)
    (map (λ s. s.place) ys) (IsPermutation-map (λ (s : SideAmounts). s.place) xs ys same) i)
  where
    sums : (p : SidePlace) → place_sums xs p ≡ place_sums ys p
    sums p = λ i. record {
      debit = sum_over-permutation (λ s. cond (is_eq (place_cmp s.place p)) s.debit (pos 0))
          xs ys same i;
      credit = sum_over-permutation (λ s. cond (is_eq (place_cmp s.place p)) s.credit (pos 0))
          xs ys same i;
    }

pub side_sums-more : (s : SideAmounts) (ds : List SideAmounts)
    → insert_entry place_cmp (side_sums ds) s.place
    (plus_side s (amounts_at s.place (side_sums ds)))
    ≡ side_sums (ds ++ s ∷ [])
side_sums-more s ds =
    added-totals place_cmp_total place_cmp_exact (λ (x : SideAmounts). x.place) no_amounts
    plus_side place_sums (λ p. refl) place_sums-own place_sums-other s ds
    ∙ side_sums-permutation (s ∷ ds) (ds ++ s ∷ []) (IsPermutation-append_comm (s ∷ []) ds)

-- the sums of a place are no larger than all sums together
pub amounts_at-size : (p : SidePlace) (es : List (SideKey × Amounts))
    → amounts_size (amounts_at p (sides_in es)) ≤ total_size amounts_size es
amounts_at-size p es = omega (
  arith,
  found-size place_cmp_total amounts_size no_amounts (λ q. is_eq (place_cmp p q)) (sides_in es)
      refl,
  size-seen place_in (λ (v : Amounts). v) amounts_size amounts_size (λ v. refl) es,
)

-- a map with a side added is no larger than by the side
pub sides-grown : (key : SideKey) (s : SideAmounts) (es : List (SideKey × Amounts))
    → IsStrictlySortedBy ghosts.cmp (keys_of es)
    → total_size amounts_size (insert_entry ghosts.cmp es key
    (plus_side s (amounts_at (place_in key) (sides_in es))))
    ≤ total_size amounts_size es + (size_of s.debit + size_of s.credit)
sides-grown key s es rise =
    let found : Amounts = unwrap_or (lookup (λ x. is_eq (ghosts.cmp key x)) es) no_amounts in
    let at : Amounts = amounts_at (place_in key) (sides_in es) in
    let is : found ≡ at =
    lookup-seen place_in (λ (v : Amounts). v) (λ x. is_eq (ghosts.cmp key x))
    (λ p. is_eq (place_cmp (place_in key) p)) (λ x. ap is_eq (derived-place_cmp key x)) no_amounts
    es in
    let debit = size-plus s.debit at.debit in
    let credit = size-plus s.credit at.credit in
    let same = ap amounts_size is in
    insert-size derived_total amounts_size no_amounts key (plus_side s at)
    (size_of s.debit + size_of s.credit) refl es rise
    (omega (arith, debit, credit, same))

-- a side that is there
pub raised-adds : (s : SideAmounts) (old new : SideSums) → RaisesSide s old new
    → AddsSide (s ∷ []) (size_of s.debit + size_of s.credit) old new
raised-adds s old new h = record {
  sums = λ ds e. h.value
      ∙ (λ i. insert_entry place_cmp (e i) s.place (plus_side s (amounts_at s.place (e i))))
      ∙ side_sums-more s ds;
  growth = h.growth;
}

-- no side
pub none-added : (most : ℕ) (s : SideSums) → AddsSide [] most s s
none-added most s = record {
  sums = λ ds e. e ∙ ap side_sums (sym (append-nil ds));
  growth = omega arith;
}

flat_map-push : (bs : List BookedEntry) (b : BookedEntry)
    → flat_map sides_of bs ++ sides_of b ≡ flat_map sides_of (bs ++ b ∷ [])
flat_map-push [] b = sym (append-nil (sides_of b))
flat_map-push (x ∷ xs) b =
    append_assoc (sides_of x) (flat_map sides_of xs) (sides_of b)
    ∙ ap (λ t. sides_of x ++ t) (flat_map-push xs b)

-- both sides of an entry
pub both-added : (b : BookedEntry) (xs ys : List SideAmounts) (m n : ℕ) (old mid new : SideSums)
    → sides_of b ≡ xs ++ ys → m + n ≤ 2 ^ 64
    → AddsSide xs m old mid → AddsSide ys n mid new → Adds SumsSides sides_size (b ∷ []) old new
both-added b xs ys m n old mid new same few h k = record {
  sums = λ bs e.
      k.sums (flat_map sides_of bs ++ xs) (h.sums (flat_map sides_of bs) e)
      ∙ ap side_sums (append_assoc (flat_map sides_of bs) xs ys
      ∙ ap (λ t. flat_map sides_of bs ++ t) (sym same) ∙ flat_map-push bs b);
  growth = omega (arith, h.growth, k.growth, few);
}

-- ---- entries in another order

-- the sums of sides in front of those of entries
abbrev behind : List BookedEntry → List SideAmounts → List (SidePlace × Amounts)
behind es ds = side_sums (ds ++ flat_map sides_of es)

behind-more : (b : BookedEntry) (xs ys : List BookedEntry) → behind xs ≡ behind ys
    → behind (b ∷ xs) ≡ behind (b ∷ ys)
behind-more b xs ys h = λ i. λ ds. at ds i
  where
    at : (ds : List SideAmounts) → behind (b ∷ xs) ds ≡ behind (b ∷ ys) ds
    at ds =
        ap side_sums (sym (append_assoc ds (sides_of b) (flat_map sides_of xs)))
        ∙ (λ i. h i (ds ++ sides_of b))
        ∙ ap side_sums (append_assoc ds (sides_of b) (flat_map sides_of ys))

behind-flip : (a b : BookedEntry) (xs : List BookedEntry)
    → behind (a ∷ b ∷ xs) ≡ behind (b ∷ a ∷ xs)
behind-flip a b xs = λ i. λ ds. at ds i
  where
    rest : List SideAmounts
    rest = flat_map sides_of xs

    turned : IsPermutation (sides_of a ++ (sides_of b ++ rest)) (sides_of b ++ (sides_of a ++ rest))
    turned =
        subst (λ (xs : List SideAmounts). IsPermutation xs (sides_of b ++ (sides_of a ++ rest)))
        (append_assoc (sides_of a) (sides_of b) rest)
        (subst (λ (ys : List SideAmounts). IsPermutation ((sides_of a ++ sides_of b) ++ rest) ys)
        (append_assoc (sides_of b) (sides_of a) rest)
        (IsPermutation-append_left rest _ _
        (IsPermutation-append_comm (sides_of a) (sides_of b))))

    at : (ds : List SideAmounts) → behind (a ∷ b ∷ xs) ds ≡ behind (b ∷ a ∷ xs) ds
    at ds = side_sums-permutation _ _ (IsPermutation-append_right ds _ _ turned)

-- the sums of the same entries in another order
pub account_sums-permutation : (xs ys : List BookedEntry) → IsPermutation xs ys
    → account_sums xs ≡ account_sums ys
account_sums-permutation xs ys same =
    let sums : behind xs ≡ behind ys =
    value-permutation behind behind-more behind-flip xs ys same in
    λ i. filter is_moved (map account_sum (sums i []))
