-- A balance does not depend on the order of the records.
use Rattle.std.proofs.Common.{◌≡◌, ℕ, ℤ, pos, ◌+ℤ◌, Bool, true, false, ◌&&◌, cond, Option, List, []}
use Rattle.std.proofs.Common.{◌∷◌, ◌++◌, map, refl, ap, ◌∙◌, sym, arith}
use Rattle.std.specs.Prelude.{IsPermutation}
use Rattle.std.specs.List.{filter, flat_map, range_with_len, AllByRecursion}
use Rattle.std.specs.List.Sorted.{IsStrictlySortedBy}
use Rattle.std.proofs.lemmas.Int.{ints}
use Rattle.reg_base.specs.declared.value.Value.{Value}
use Rattle.reg_base.specs.declared.records.Document.{Document}
use Rattle.reg_base.specs.declared.records.Filter.{Filter}
use Rattle.reg_base.specs.declared.records.SumRow.{SumRow}
use Rattle.reg_base.specs.declared.cut.Cut.{Cut}
use Rattle.reg_base.specs.Cuts.{inside}
use Rattle.reg_base.specs.Records.{Booked, values_cmp, put_once, point_of, booked_cmp, booked_by}
use Rattle.reg_base.specs.Records.{records_of, matches}
use Rattle.reg_base.specs.Balances.{group_of, groups_of, contribution, total, is_shown, sum_rows}
use Rattle.reg_base.specs.Balances.{balance_of}
use Rattle.reg_base.proofs.OrderLemmas.{values_cmp_total, values_cmp_exact}
use Rattle.reg_base.proofs.OnceLemmas.{put_once-put_once, put_once-all, put_once-rising}
use Rattle.reg_base.proofs.PermutationLemmas.{value-permutation, IsPermutation-in_order}

+-left_comm : (a b c : ℤ) → a +ℤ (b +ℤ c) ≡ b +ℤ (a +ℤ c)
+-left_comm a b c = omega (arith, ints)

+-zero : (a : ℤ) → pos 0 +ℤ a ≡ a
+-zero a = omega (arith, ints)

module _ (by : Option (List ℕ)) where
  -- one record more, at the end
  pub groups_of-push : (bs : List Booked) (b : Booked)
      → groups_of by (bs ++ b ∷ []) ≡ put_once values_cmp (group_of by b) (groups_of by bs)
  groups_of-push [] b = refl
  groups_of-push (x ∷ xs) b =
      let first = group_of by x in
      ap (put_once values_cmp first) (groups_of-push xs b)
      ∙ put_once-put_once values_cmp_total values_cmp_exact first (group_of by b) (groups_of by xs)

  pub total-push : (g : List Value) (bs : List Booked) (b : Booked) (j : ℕ)
      → total by g (bs ++ b ∷ []) j ≡ contribution by g j b +ℤ total by g bs j
  total-push g [] b j = refl
  total-push g (x ∷ xs) b j =
      ap (λ t. contribution by g j x +ℤ t) (total-push g xs b j)
      ∙ +-left_comm (contribution by g j x) (contribution by g j b) (total by g xs j)

  -- the groups with that of a record, where the record passes a test
  abbrev with_group : Bool → Booked → List (List Value) → List (List Value)
  with_group passes b gs = cond passes (put_once values_cmp (group_of by b) gs) gs

  with_group-with_group : (p q : Bool) (a b : Booked) (gs : List (List Value))
      → with_group p a (with_group q b gs) ≡ with_group q b (with_group p a gs)
  with_group-with_group true true a b gs =
      put_once-put_once values_cmp_total values_cmp_exact (group_of by a) (group_of by b) gs
  with_group-with_group true false a b gs = refl
  with_group-with_group false true a b gs = refl
  with_group-with_group false false a b gs = refl

  -- groups rise
  pub groups_of-rising : (bs : List Booked) → IsStrictlySortedBy values_cmp (groups_of by bs)
  unfolding IsStrictlySortedBy
  groups_of-rising [] = tt
  groups_of-rising (b ∷ bs) =
      put_once-rising values_cmp_total values_cmp_exact (group_of by b) (groups_of by bs)
      (groups_of-rising bs)

  -- what holds of the group of each record holds of all groups
  pub groups_of-all : (P : List Value → Type 0) → ((b : Booked) → P (group_of by b))
      → (bs : List Booked) → AllByRecursion P (groups_of by bs)
  groups_of-all P each [] = tt
  groups_of-all P each (b ∷ bs) =
      put_once-all values_cmp_total values_cmp_exact P (group_of by b) (groups_of by bs) (each b)
      (groups_of-all P each bs)

  -- what a record adds to a group, where it passes a test
  abbrev part : Bool → List Value → ℕ → Booked → ℤ
  part passes g j b = cond passes (contribution by g j b) (pos 0)

  module _ (p : Booked → Bool) where
    -- the groups and the sums of the records that pass a test, with one record more
    groups-more : (b : Booked) (bs : List Booked)
        → groups_of by (filter p (b ∷ bs)) ≡ with_group (p b) b (groups_of by (filter p bs))
    groups-more b bs = at (p b)
      where
        at : (v : Bool) → groups_of by (cond v (b ∷ filter p bs) (filter p bs))
            ≡ with_group v b (groups_of by (filter p bs))
        at true = refl
        at false = refl

    total-more : (g : List Value) (j : ℕ) (b : Booked) (bs : List Booked)
        → total by g (filter p (b ∷ bs)) j ≡ part (p b) g j b +ℤ total by g (filter p bs) j
    total-more g j b bs = at (p b)
      where
        at : (v : Bool) → total by g (cond v (b ∷ filter p bs) (filter p bs)) j
            ≡ part v g j b +ℤ total by g (filter p bs) j
        at true = refl
        at false = sym (+-zero (total by g (filter p bs) j))

    -- the same for two records in front, in both orders
    groups-two : (a b : Booked) (bs : List Booked) → groups_of by (filter p (a ∷ b ∷ bs))
        ≡ with_group (p a) a (with_group (p b) b (groups_of by (filter p bs)))
    groups-two a b bs = groups-more a (b ∷ bs) ∙ ap (with_group (p a) a) (groups-more b bs)

    groups-flip : (a b : Booked) (bs : List Booked)
        → groups_of by (filter p (a ∷ b ∷ bs)) ≡ groups_of by (filter p (b ∷ a ∷ bs))
    groups-flip a b bs =
        groups-two a b bs ∙ with_group-with_group (p a) (p b) a b (groups_of by (filter p bs))
        ∙ sym (groups-two b a bs)

    total-two : (g : List Value) (j : ℕ) (a b : Booked) (bs : List Booked)
        → total by g (filter p (a ∷ b ∷ bs)) j
        ≡ part (p a) g j a +ℤ (part (p b) g j b +ℤ total by g (filter p bs) j)
    total-two g j a b bs =
        total-more g j a (b ∷ bs) ∙ ap (λ t. part (p a) g j a +ℤ t) (total-more g j b bs)

    total-flip : (g : List Value) (j : ℕ) (a b : Booked) (bs : List Booked)
        → total by g (filter p (a ∷ b ∷ bs)) j ≡ total by g (filter p (b ∷ a ∷ bs)) j
    total-flip g j a b bs =
        total-two g j a b bs
        ∙ +-left_comm (part (p a) g j a) (part (p b) g j b) (total by g (filter p bs) j)
        ∙ sym (total-two g j b a bs)

    -- the groups and the sums of the same records in another order
    groups-permutation : (xs ys : List Booked) → IsPermutation xs ys
        → groups_of by (filter p xs) ≡ groups_of by (filter p ys)
    groups-permutation =
        value-permutation (λ bs. groups_of by (filter p bs))
        (λ b xs ys h. groups-more b xs ∙ ap (with_group (p b) b) h ∙ sym (groups-more b ys))
        groups-flip

    total-permutation : (g : List Value) (j : ℕ) (xs ys : List Booked) → IsPermutation xs ys
        → total by g (filter p xs) j ≡ total by g (filter p ys) j
    total-permutation g j =
        value-permutation (λ bs. total by g (filter p bs) j)
        (λ b xs ys h. total-more g j b xs ∙ ap (λ t. part (p b) g j b +ℤ t) h
        ∙ sym (total-more g j b ys))
        (total-flip g j)

  -- records with the same groups and sums have the same rows
  sum_rows-same : (n : ℕ) (xs ys : List Booked) → groups_of by xs ≡ groups_of by ys
      → ((g : List Value) (j : ℕ) → total by g xs j ≡ total by g ys j)
      → sum_rows n by xs ≡ sum_rows n by ys
  unfolding sum_rows
  sum_rows-same n xs ys groups totals =
      λ i. filter is_shown
      (map (λ g. row g (map (λ j. totals g j i) (range_with_len 0 n))) (groups i))
    where
      row : List Value → List ℤ → SumRow
      row g sums = record { group = g; sums = sums }

  sum_rows-permutation : (n : ℕ) (p : Booked → Bool) (xs ys : List Booked) → IsPermutation xs ys
      → sum_rows n by (filter p xs) ≡ sum_rows n by (filter p ys)
  sum_rows-permutation n p xs ys same =
      sum_rows-same n (filter p xs) (filter p ys) (groups-permutation p xs ys same)
      (λ g j. total-permutation p g j xs ys same)

-- a filter of a filter is one filter
filter-filter : (p q : Booked → Bool) (bs : List Booked)
    → filter p (filter q bs) ≡ filter (λ b. q b && p b) bs
filter-filter p q [] = refl
filter-filter p q (b ∷ bs) = at (filter-filter p q bs) (q b)
  where
    both : List Booked
    both = filter (λ x. q x && p x) bs

    at : filter p (filter q bs) ≡ both → (s : Bool)
        → filter p (cond s (b ∷ filter q bs) (filter q bs)) ≡ cond (s && p b) (b ∷ both) both
    at ih true = ap (λ t. cond (p b) (b ∷ t) t) ih
    at ih false = ih

-- whether a record is asked for and lies inside the cut
abbrev counts : Filter → Cut → Booked → Bool
counts asked cut b = matches asked b.rec.values && inside cut (point_of b)

module _ (n : ℕ) (asked : Filter) (by : Option (List ℕ)) (cut : Cut) where
  balance_of-filter : (bs : List Booked)
      → balance_of n bs asked by cut ≡ sum_rows n by (filter (counts asked cut) bs)
  balance_of-filter bs =
      ap (sum_rows n by)
      (filter-filter (λ b. inside cut (point_of b)) (λ b. matches asked b.rec.values) bs)

  -- a balance is that of the same records in any order
  pub balance_of-permutation : (xs ys : List Booked) → IsPermutation xs ys
      → balance_of n xs asked by cut ≡ balance_of n ys asked by cut
  balance_of-permutation xs ys same =
      balance_of-filter xs ∙ sum_rows-permutation by n (counts asked cut) xs ys same
      ∙ sym (balance_of-filter ys)

-- the records of a register are those of its documents
pub records_of-permutation : (register : ℕ) (documents : List Document)
    → IsPermutation (flat_map (booked_by register) documents) (records_of register documents)
records_of-permutation register documents =
    IsPermutation-in_order booked_cmp (flat_map (booked_by register) documents)

-- a balance over the records in order is the one over them as the documents hold them
pub balance_of-records_of : (n register : ℕ) (documents : List Document) (asked : Filter)
    (by : Option (List ℕ)) (cut : Cut)
    → balance_of n (records_of register documents) asked by cut
    ≡ sum_rows n by (filter (λ b. matches asked b.rec.values && inside cut (point_of b))
    (flat_map (booked_by register) documents))
balance_of-records_of n register documents asked by cut =
    sym (balance_of-permutation n asked by cut (flat_map (booked_by register) documents)
    (records_of register documents) (records_of-permutation register documents))
    ∙ balance_of-filter n asked by cut (flat_map (booked_by register) documents)
