-- Elements put once into a list in order may come in any order, and leave it rising.
use Rattle.std.proofs.Common.{◌≡◌, List, [], ◌∷◌, refl, ap, ◌∙◌, sym}
use Rattle.std.specs.Cmp.{IsTotalOrder}
use Rattle.std.specs.List.{AllByRecursion}
use Rattle.std.specs.List.Sorted.{IsStrictlySortedBy}
use Rattle.std.proofs.lemmas.Map.Lookups.{CmpEqualImpliesEq}
use Rattle.std.specs.Ordering.{match_ordering, ordering_reverse}
use Rattle.std.specs.declared.cmp.Ordering.{Ordering}
use Rattle.std.specs.declared.cmp.Ordering.TheVariants.{Less, Equal, Greater}
use Rattle.reg_base.specs.Records.{put_once}

module _ {X : Type 0} {R : X → X → Ordering} (o : IsTotalOrder R)
    (exact : CmpEqualImpliesEq R) where
  -- where the first is not below, it stays
  pub put_once-Less : (x y : X) (ys : List X) → R x y ≡ Less → put_once R x (y ∷ ys) ≡ x ∷ y ∷ ys
  put_once-Less x y ys h = ap (λ r. match_ordering r (x ∷ y ∷ ys) (y ∷ ys) (y ∷ put_once R x ys)) h

  pub put_once-Equal : (x y : X) (ys : List X) → R x y ≡ Equal → put_once R x (y ∷ ys) ≡ y ∷ ys
  put_once-Equal x y ys h = ap (λ r. match_ordering r (x ∷ y ∷ ys) (y ∷ ys) (y ∷ put_once R x ys)) h

  pub put_once-Greater : (x y : X) (ys : List X) → R x y ≡ Greater
      → put_once R x (y ∷ ys) ≡ y ∷ put_once R x ys
  put_once-Greater x y ys h =
      ap (λ r. match_ordering r (x ∷ y ∷ ys) (y ∷ ys) (y ∷ put_once R x ys)) h

  -- two elements before a list
  both-first : (a b : X) (t : List X) (r s : Ordering) → s ≡ ordering_reverse r
      → (r ≡ Equal → a ≡ b) → match_ordering r (a ∷ b ∷ t) (b ∷ t) (b ∷ a ∷ t)
      ≡ match_ordering s (b ∷ a ∷ t) (a ∷ t) (a ∷ b ∷ t)
  both-first a b t Less s e same =
      ap (λ q. match_ordering q (b ∷ a ∷ t) (a ∷ t) (a ∷ b ∷ t)) (sym e)
  both-first a b t Equal s e same =
      ap (λ x. x ∷ t) (sym (same refl)) ∙ ap (λ q. match_ordering q (b ∷ a ∷ t) (a ∷ t) (a ∷ b ∷ t))
      (sym e)
  both-first a b t Greater s e same =
      ap (λ q. match_ordering q (b ∷ a ∷ t) (a ∷ t) (a ∷ b ∷ t)) (sym e)

  below : (a h : X) → R a h ≡ Less → R h a ≡ Greater
  below a h p = o.antisymm h a ∙ ap ordering_reverse p

  above : (a h : X) → R a h ≡ Greater → R h a ≡ Less
  above a h p = o.antisymm h a ∙ ap ordering_reverse p

  -- a is below the head, and b is the head
  first-below-same : (a b h : X) (hs : List X) → R a h ≡ Less → R b h ≡ Equal
      → put_once R a (put_once R b (h ∷ hs)) ≡ put_once R b (put_once R a (h ∷ hs))
  first-below-same a b h hs p q =
      ap (put_once R a) (put_once-Equal b h hs q) ∙ put_once-Less a h hs p
      ∙ sym (ap (put_once R b) (put_once-Less a h hs p)
      ∙ put_once-Greater b a (h ∷ hs) (o.congr b h a q ∙ below a h p)
      ∙ ap (λ t. a ∷ t) (put_once-Equal b h hs q))

  -- a is below the head, and b above it
  first-below-above : (a b h : X) (hs : List X) → R a h ≡ Less → R b h ≡ Greater
      → put_once R a (put_once R b (h ∷ hs)) ≡ put_once R b (put_once R a (h ∷ hs))
  first-below-above a b h hs p q =
      ap (put_once R a) (put_once-Greater b h hs q) ∙ put_once-Less a h (put_once R b hs) p
      ∙ sym (ap (put_once R b) (put_once-Less a h hs p)
      ∙ put_once-Greater b a (h ∷ hs) (below a b (o.trans a h b p (above b h q)))
      ∙ ap (λ t. a ∷ t) (put_once-Greater b h hs q))

  -- a is the head, and b above it
  first-same-above : (a b h : X) (hs : List X) → R a h ≡ Equal → R b h ≡ Greater
      → put_once R a (put_once R b (h ∷ hs)) ≡ put_once R b (put_once R a (h ∷ hs))
  first-same-above a b h hs p q =
      ap (put_once R a) (put_once-Greater b h hs q) ∙ put_once-Equal a h (put_once R b hs) p
      ∙ sym (ap (put_once R b) (put_once-Equal a h hs p) ∙ put_once-Greater b h hs q)

  at-head : (a b h : X) (hs : List X) (r s : Ordering) → R a h ≡ r → R b h ≡ s
      → put_once R a (put_once R b hs) ≡ put_once R b (put_once R a hs)
      → put_once R a (put_once R b (h ∷ hs)) ≡ put_once R b (put_once R a (h ∷ hs))
  at-head a b h hs Less Less p q ih =
      ap (put_once R a) (put_once-Less b h hs q)
      ∙ ap (λ t. match_ordering (R a b) (a ∷ b ∷ h ∷ hs) (b ∷ h ∷ hs) (b ∷ t))
      (put_once-Less a h hs p)
      ∙ both-first a b (h ∷ hs) (R a b) (R b a) (o.antisymm b a) (exact a b)
      ∙ sym (ap (put_once R b) (put_once-Less a h hs p)
      ∙ ap (λ t. match_ordering (R b a) (b ∷ a ∷ h ∷ hs) (a ∷ h ∷ hs) (a ∷ t))
      (put_once-Less b h hs q))
  at-head a b h hs Less Equal p q ih = first-below-same a b h hs p q
  at-head a b h hs Less Greater p q ih = first-below-above a b h hs p q
  at-head a b h hs Equal Less p q ih = sym (first-below-same b a h hs q p)
  at-head a b h hs Equal Equal p q ih =
      ap (put_once R a) (put_once-Equal b h hs q) ∙ put_once-Equal a h hs p
      ∙ sym (ap (put_once R b) (put_once-Equal a h hs p) ∙ put_once-Equal b h hs q)
  at-head a b h hs Equal Greater p q ih = first-same-above a b h hs p q
  at-head a b h hs Greater Less p q ih = sym (first-below-above b a h hs q p)
  at-head a b h hs Greater Equal p q ih = sym (first-same-above b a h hs q p)
  at-head a b h hs Greater Greater p q ih =
      ap (put_once R a) (put_once-Greater b h hs q) ∙ put_once-Greater a h (put_once R b hs) p
      ∙ ap (λ t. h ∷ t) ih
      ∙ sym (ap (put_once R b) (put_once-Greater a h hs p)
      ∙ put_once-Greater b h (put_once R a hs) q)

  -- two elements may be put in either order
  pub put_once-put_once : (a b : X) (xs : List X) → put_once R a (put_once R b xs)
      ≡ put_once R b (put_once R a xs)
  put_once-put_once a b [] = both-first a b [] (R a b) (R b a) (o.antisymm b a) (exact a b)
  put_once-put_once a b (h ∷ hs) =
      at-head a b h hs (R a h) (R b h) refl refl (put_once-put_once a b hs)

  -- ---- a list that rises

  -- what is below the first of rising elements is below all of them
  below-all : (x y : X) (ys : List X) → R x y ≡ Less → AllByRecursion (λ z. R y z ≡ Less) ys
      → AllByRecursion (λ z. R x z ≡ Less) ys
  below-all x y [] h all = tt
  below-all x y (z ∷ zs) h all = (o.trans x y z h all.0, below-all x y zs h all.1)

  -- what holds of an element and of others holds of those with the element
  pub put_once-all : (P : X → Type 0) (x : X) (ys : List X) → P x → AllByRecursion P ys
      → AllByRecursion P (put_once R x ys)
  put_once-all P x [] h all = (h, tt)
  put_once-all P x (y ∷ ys) h all = at (put_once-all P x ys h all.1) (R x y)
    where
      at : AllByRecursion P (put_once R x ys) → (r : Ordering)
          → AllByRecursion P (match_ordering r (x ∷ y ∷ ys) (y ∷ ys) (y ∷ put_once R x ys))
      at others Less = (h, all)
      at others Equal = all
      at others Greater = (all.0, others)

  -- an element put once into a rising list leaves it rising
  pub put_once-rising : (x : X) (ys : List X) → IsStrictlySortedBy R ys
      → IsStrictlySortedBy R (put_once R x ys)
  unfolding IsStrictlySortedBy
  put_once-rising x [] rising = (tt, tt)
  put_once-rising x (y ∷ ys) rising = at (put_once-rising x ys rising.1) (R x y) refl
    where
      at : IsStrictlySortedBy R (put_once R x ys) → (r : Ordering) → R x y ≡ r
          → IsStrictlySortedBy R (match_ordering r (x ∷ y ∷ ys) (y ∷ ys) (y ∷ put_once R x ys))
      at others Less p = ((p, below-all x y ys p rising.0), rising)
      at others Equal p = rising
      at others Greater p = (put_once-all (λ z. R y z ≡ Less) x ys (above x y p) rising.0, others)
