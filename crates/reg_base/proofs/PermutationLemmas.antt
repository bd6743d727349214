-- What stays where the two elements in front change places stays for a list in any order.
use Rattle.std.proofs.Common.{◌≡◌, ℕ, zero, suc, ◌<◌, List, [], ◌∷◌, length, get_or, refl, ◌∙◌}
use Rattle.std.proofs.Common.{arith, Bool, true, false, cond}
use Rattle.std.specs.List.{filter}
use Rattle.std.specs.Prelude.{IsPermutation, swap}
use Rattle.std.specs.Ordering.{match_ordering}
use Rattle.std.specs.declared.cmp.Ordering.{Ordering}
use Rattle.std.specs.declared.cmp.Ordering.TheVariants.{Less, Equal, Greater}
use Rattle.std.proofs.Math.ListN.{set}
use Rattle.std.proofs.lemmas.List.Sorted.{IsPermutation-refl, IsPermutation-cons}
use Rattle.std.proofs.lemmas.List.Sorted.{IsPermutation-trans, IsPermutation-keeps}
use Rattle.std.proofs.lemmas.List.Sorted.{IsPermutation-middle}
use Rattle.reg_base.specs.Records.{put, in_order}

module _ {X : Type 0} (R : List X → List X → Type 0) (same : (xs : List X) → R xs xs)
    (trans : (xs ys zs : List X) → R xs ys → R ys zs → R xs zs)
    (more : (x : X) (xs ys : List X) → R xs ys → R (x ∷ xs) (x ∷ ys))
    (flip : (x y : X) (xs : List X) → R (x ∷ y ∷ xs) (y ∷ x ∷ xs)) where
  -- an element of the list in front, and the one that stood there in its place
  relation-set : (x : X) (xs : List X) (i : ℕ) (d : X) → i < length xs
      → R (x ∷ xs) (get_or xs i d ∷ set xs i x)
  relation-set x [] i d h = absurd (omega arith)
  relation-set x (y ∷ ys) zero d h = flip x y ys
  relation-set x (y ∷ ys) (suc i) d h =
      trans _ _ _ (flip x y ys)
      (trans _ _ _
      (more y (x ∷ ys) (get_or ys i d ∷ set ys i x) (relation-set x ys i d (omega arith)))
      (flip y (get_or ys i d) (set ys i x)))

  relation-sets : (xs : List X) (i j : ℕ) (d : X) → i < length xs → j < length xs
      → R xs (set (set xs i (get_or xs j d)) j (get_or xs i d))
  relation-sets [] i j d h k = absurd (omega arith)
  relation-sets (x ∷ xs) zero zero d h k = same (x ∷ xs)
  relation-sets (x ∷ xs) zero (suc j) d h k = relation-set x xs j d (omega arith)
  relation-sets (x ∷ xs) (suc i) zero d h k = relation-set x xs i d (omega arith)
  relation-sets (x ∷ xs) (suc i) (suc j) d h k =
      more x xs _ (relation-sets xs i j d (omega arith) (omega arith))

  relation-swap : (xs : List X) (i j : ℕ) → i < length xs → j < length xs → R xs (swap xs i j)
  relation-swap [] i j h k = same []
  relation-swap (x ∷ xs) i j h k = relation-sets (x ∷ xs) i j x h k

  -- what holds between lists with the two elements in front in either order holds between a list
  -- and the same one in any order
  pub relation-permutation : (xs ys : List X) → IsPermutation xs ys → R xs ys
  relation-permutation xs ys is =
      IsPermutation-keeps xs (R xs) (same xs)
      (λ zs i j h k so_far. trans xs zs (swap zs i j) so_far (relation-swap zs i j h k)) ys is

-- the same for a value of lists
pub value-permutation : {X Y : Type 0} (value : List X → Y)
    → ((x : X) (xs ys : List X) → value xs ≡ value ys → value (x ∷ xs) ≡ value (x ∷ ys))
    → ((x y : X) (xs : List X) → value (x ∷ y ∷ xs) ≡ value (y ∷ x ∷ xs))
    → (xs ys : List X) → IsPermutation xs ys → value xs ≡ value ys
value-permutation value more flip =
    relation-permutation (λ xs ys. value xs ≡ value ys) (λ xs. refl) (λ xs ys zs h k. h ∙ k) more
    flip

-- the elements that pass a test are the same in any order
pub IsPermutation-filter : {X : Type 0} (p : X → Bool) (xs ys : List X) → IsPermutation xs ys
    → IsPermutation (filter p xs) (filter p ys)
IsPermutation-filter {X} p =
    relation-permutation (λ xs ys. IsPermutation (filter p xs) (filter p ys))
    (λ xs. IsPermutation-refl (filter p xs))
    (λ xs ys zs h k. IsPermutation-trans (filter p xs) (filter p ys) (filter p zs) h k)
    (λ x xs ys h. more (p x) x (filter p xs) (filter p ys) h)
    (λ x y xs. flip (p x) (p y) x y (filter p xs))
  where
    more : (b : Bool) (x : X) (xs ys : List X) → IsPermutation xs ys
        → IsPermutation (cond b (x ∷ xs) xs) (cond b (x ∷ ys) ys)
    more true x xs ys h = IsPermutation-cons x xs ys h
    more false x xs ys h = h

    flip : (b c : Bool) (x y : X) (xs : List X)
        → IsPermutation (cond b (x ∷ cond c (y ∷ xs) xs) (cond c (y ∷ xs) xs))
        (cond c (y ∷ cond b (x ∷ xs) xs) (cond b (x ∷ xs) xs))
    flip true true x y xs = IsPermutation-middle (x ∷ []) y xs
    flip true false x y xs = IsPermutation-refl (x ∷ xs)
    flip false true x y xs = IsPermutation-refl (y ∷ xs)
    flip false false x y xs = IsPermutation-refl xs

module _ {X : Type 0} (cmp : X → X → Ordering) where
  -- an element that is put into its place is one more
  IsPermutation-put : (x : X) (ys : List X) → IsPermutation (x ∷ ys) (put cmp x ys)
  IsPermutation-put x [] = IsPermutation-refl (x ∷ [])
  IsPermutation-put x (y ∷ ys) = at (IsPermutation-put x ys) (cmp x y)
    where
      at : IsPermutation (x ∷ ys) (put cmp x ys) → (r : Ordering)
          → IsPermutation (x ∷ y ∷ ys)
          (match_ordering r (x ∷ y ∷ ys) (x ∷ y ∷ ys) (y ∷ put cmp x ys))
      at behind Less = IsPermutation-refl (x ∷ y ∷ ys)
      at behind Equal = IsPermutation-refl (x ∷ y ∷ ys)
      at behind Greater =
          IsPermutation-trans _ _ _ (IsPermutation-middle (x ∷ []) y ys)
          (IsPermutation-cons y (x ∷ ys) (put cmp x ys) behind)

  -- the elements of a list in order are those of the list
  pub IsPermutation-in_order : (xs : List X) → IsPermutation xs (in_order cmp xs)
  IsPermutation-in_order [] = IsPermutation-refl []
  IsPermutation-in_order (x ∷ xs) =
      IsPermutation-trans _ _ _
      (IsPermutation-cons x xs (in_order cmp xs) (IsPermutation-in_order xs))
      (IsPermutation-put x (in_order cmp xs))
