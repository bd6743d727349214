-- The elements of a list in order do not depend on where they stood.
use Rattle.std.proofs.Common.{◌≡◌, suc, List, [], ◌∷◌, map, refl, ap, ◌∙◌, sym, arith, Ordering}
use Rattle.std.proofs.Common.{Less, Equal, Greater, is_lt, IsPermutation, IsSorted, false}
use Rattle.std.proofs.Common.{true≢false}
use Rattle.std.specs.Cmp.{IsTotalOrder}
use Rattle.std.specs.Ordering.{match_ordering, ordering_reverse}
use Rattle.std.proofs.lemmas.Map.Lookups.{CmpEqualImpliesEq}
use Rattle.reg_base.specs.Records.{put, in_order}
use Rattle.reg_base.proofs.PermutationLemmas.{value-permutation}

module _ {X : Type 0} {R : X → X → Ordering} (o : IsTotalOrder R)
    (exact : CmpEqualImpliesEq R) where
  abbrev placed : X → X → List X → Ordering → List X
  placed x y ys r = match_ordering r (x ∷ y ∷ ys) (x ∷ y ∷ ys) (y ∷ put R x ys)

  below : (a h : X) → R a h ≡ Less → R h a ≡ Greater
  below a h p = o.antisymm h a ∙ ap ordering_reverse p

  above : (a h : X) → R a h ≡ Greater → R h a ≡ Less
  above a h p = o.antisymm h a ∙ ap ordering_reverse p

  -- two elements, both put before a list in which both come first
  both-first : (a b : X) (t : List X) → put R b t ≡ b ∷ t → put R a t ≡ a ∷ t
      → put R a (b ∷ t) ≡ put R b (a ∷ t)
  both-first a b t first other = go (R a b) refl
    where
      go : (r : Ordering) → R a b ≡ r → put R a (b ∷ t) ≡ put R b (a ∷ t)
      go Less p =
          ap (placed a b t) p
          ∙ sym (ap (placed b a t) (below a b p) ∙ ap (λ l. a ∷ l) first)
      go Equal p = let same = exact a b p in
          ap (placed a b t) p ∙ ap (λ x. x ∷ b ∷ t) same ∙ ap (λ x. b ∷ x ∷ t) (sym same)
          ∙ sym (ap (placed b a t) (ap (λ x. R x a) (sym same) ∙ ap (R a) same ∙ p))
      go Greater p =
          ap (placed a b t) p ∙ ap (λ l. b ∷ l) other ∙ sym (ap (placed b a t) (above a b p))

  -- a comes before the head, and b behind it
  apart : (a b h : X) (hs : List X) → R a h ≡ Less → R b h ≡ Greater
      → put R a (put R b (h ∷ hs)) ≡ put R b (put R a (h ∷ hs))
  apart a b h hs p q =
      ap (put R a) (ap (placed b h hs) q) ∙ ap (placed a h (put R b hs)) p
      ∙ sym (ap (put R b) (ap (placed a h hs) p)
      ∙ ap (placed b a (h ∷ hs)) (below a b (o.trans a h b p (above b h q)))
      ∙ ap (λ t. a ∷ t) (ap (placed b h hs) q))

  -- a is the head, and b comes behind it
  same-apart : (a b h : X) (hs : List X) → R a h ≡ Equal → R b h ≡ Greater
      → put R a (put R b (h ∷ hs)) ≡ put R b (put R a (h ∷ hs))
  same-apart a b h hs p q =
      ap (put R a) (ap (placed b h hs) q) ∙ ap (placed a h (put R b hs)) p
      ∙ sym (ap (put R b) (ap (placed a h hs) p)
      ∙ ap (placed b a (h ∷ hs)) (ap (R b) (exact a h p) ∙ q)
      ∙ ap (λ t. a ∷ t) (ap (placed b h hs) q))

  -- both come before the head
  joined : (a b h : X) (hs : List X) → put R a (h ∷ hs) ≡ a ∷ h ∷ hs
      → put R b (h ∷ hs) ≡ b ∷ h ∷ hs
      → put R a (put R b (h ∷ hs)) ≡ put R b (put R a (h ∷ hs))
  joined a b h hs p q =
      ap (put R a) q ∙ both-first a b (h ∷ hs) q p ∙ sym (ap (put R b) p)

  at-head : (a b h : X) (hs : List X) (r s : Ordering) → R a h ≡ r → R b h ≡ s
      → put R a (put R b hs) ≡ put R b (put R a hs)
      → put R a (put R b (h ∷ hs)) ≡ put R b (put R a (h ∷ hs))
  at-head a b h hs Less Less p q ih = joined a b h hs (ap (placed a h hs) p) (ap (placed b h hs) q)
  at-head a b h hs Less Equal p q ih = joined a b h hs (ap (placed a h hs) p) (ap (placed b h hs) q)
  at-head a b h hs Equal Less p q ih = joined a b h hs (ap (placed a h hs) p) (ap (placed b h hs) q)
  at-head a b h hs Equal Equal p q ih =
      joined a b h hs (ap (placed a h hs) p) (ap (placed b h hs) q)
  at-head a b h hs Less Greater p q ih = apart a b h hs p q
  at-head a b h hs Equal Greater p q ih = same-apart a b h hs p q
  at-head a b h hs Greater Less p q ih = sym (apart b a h hs q p)
  at-head a b h hs Greater Equal p q ih = sym (same-apart b a h hs q p)
  at-head a b h hs Greater Greater p q ih =
      ap (put R a) (ap (placed b h hs) q) ∙ ap (placed a h (put R b hs)) p
      ∙ ap (λ t. h ∷ t) ih
      ∙ sym (ap (put R b) (ap (placed a h hs) p) ∙ ap (placed b h (put R a hs)) q)

  -- two elements may be put in either order
  put-put : (a b : X) (xs : List X) → put R a (put R b xs) ≡ put R b (put R a xs)
  put-put a b [] = both-first a b [] refl refl
  put-put a b (h ∷ hs) = at-head a b h hs (R a h) (R b h) refl refl (put-put a b hs)

  -- the elements of a list in order are those of the list in any order
  pub in_order-permutation : (xs ys : List X) → IsPermutation xs ys
      → in_order R xs ≡ in_order R ys
  in_order-permutation xs ys same =
      value-permutation (in_order R) (λ x ys zs h. ap (put R x) h)
      (λ x y zs. put-put x y (in_order R zs)) xs ys same

  -- an element that is not above the first one comes first
  put-first : (x y : X) (ys : List X) → is_lt (R y x) ≡ false → put R x (y ∷ ys) ≡ x ∷ y ∷ ys
  put-first x y ys h = go (R x y) refl
    where
      go : (r : Ordering) → R x y ≡ r → put R x (y ∷ ys) ≡ x ∷ y ∷ ys
      go Less p = ap (placed x y ys) p
      go Equal p = ap (placed x y ys) p
      go Greater p = absurd (true≢false (sym (ap is_lt (above x y p)) ∙ h))

  -- a sorted list is in order
  pub in_order-sorted : (xs : List X) → IsSorted R xs → in_order R xs ≡ xs
  in_order-sorted [] sorted = refl
  in_order-sorted (x ∷ []) sorted = refl
  in_order-sorted (x ∷ y ∷ ys) sorted =
      let tail : IsSorted R (y ∷ ys) = λ k d p q.
      rw Rattle.std.proofs.Common.add-one
      (rw Rattle.std.proofs.Common.add-one at (sorted (suc k) d (omega arith) (omega arith))) in
      ap (put R x) (in_order-sorted (y ∷ ys) tail)
      ∙ put-first x y ys (sorted 0 x (omega arith) (omega arith))

-- elements in order of what is seen of them
module _ {X Y : Type 0} (S : Y → Y → Ordering) (view : X → Y) where
  put-map : (x : X) (xs : List X) → map view (put (λ a b. S (view a) (view b)) x xs)
      ≡ put S (view x) (map view xs)
  put-map x [] = refl
  put-map x (y ∷ ys) = go (S (view x) (view y)) (put-map x ys)
    where
      go : (r : Ordering) → map view (put (λ a b. S (view a) (view b)) x ys)
          ≡ put S (view x) (map view ys)
          → map view (match_ordering r (x ∷ y ∷ ys) (x ∷ y ∷ ys)
          (y ∷ put (λ a b. S (view a) (view b)) x ys))
          ≡ match_ordering r (view x ∷ view y ∷ map view ys) (view x ∷ view y ∷ map view ys)
          (view y ∷ put S (view x) (map view ys))
      go Less ih = refl
      go Equal ih = refl
      go Greater ih = ap (λ t. view y ∷ t) ih

  pub in_order-map : (xs : List X) → map view (in_order (λ a b. S (view a) (view b)) xs)
      ≡ in_order S (map view xs)
  in_order-map [] = refl
  in_order-map (x ∷ xs) =
      put-map x (in_order (λ a b. S (view a) (view b)) xs) ∙ ap (put S (view x)) (in_order-map xs)
