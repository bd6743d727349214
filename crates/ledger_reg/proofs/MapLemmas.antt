-- A map in order of keys in which each element is added to the value of its key.
use Rattle.std.proofs.Common.{◌≡◌, ℕ, ◌+◌, ◌≤◌, Bool, true, false, ◌||◌, cond, Option, Some, None}
use Rattle.std.proofs.Common.{List, [], ◌∷◌, map, refl, ap, ◌∙◌, sym, arith}
use Rattle.std.specs.Prelude.{unwrap_or}
use Rattle.std.specs.Map.{lookup, keys_of}
use Rattle.std.specs.BTreeMap.{insert_entry}
use Rattle.std.specs.Cmp.{IsTotalOrder}
use Rattle.std.specs.List.{list_any, AllByRecursion}
use Rattle.std.specs.List.Sorted.{IsStrictlySortedBy}
use Rattle.std.specs.Ordering.{match_ordering, is_eq, ordering_reverse}
use Rattle.std.specs.declared.cmp.Ordering.{Ordering}
use Rattle.std.specs.declared.cmp.Ordering.TheVariants.{Less, Equal, Greater}
use Rattle.std.proofs.lemmas.Map.Lookups.{CmpEqualImpliesEq}
use Rattle.reg_base.specs.Sums.{in_order_once}
use Rattle.reg_base.specs.Records.{put_once}
use Rattle.reg_base.proofs.ForTables.{in_order_once-rising, any-in_order_once}
use Rattle.ledger_reg.specs.Sizes.{total_size}

-- ---- a map seen under other keys and values

module _ {K L V W : Type 0} (view : K → L) (value : V → W) where
  -- the entries as they are seen
  abbrev pub seen : List (K × V) → List (L × W)
  seen es = map (λ (e : K × V). (view e.0, value e.1)) es

  pub lookup-seen : (test : K → Bool) (other : L → Bool) → ((k : K) → test k ≡ other (view k))
      → (zero : V) (es : List (K × V))
      → value (unwrap_or (lookup test es) zero) ≡ unwrap_or (lookup other (seen es)) (value zero)
  lookup-seen test other same zero [] = refl
  lookup-seen test other same zero (e ∷ es) =
      at (test e.0) (lookup-seen test other same zero es)
      ∙ ap (λ b. unwrap_or (cond b (Some (value e.1)) (lookup other (seen es))) (value zero))
      (same e.0)
    where
      at : (b : Bool) → value (unwrap_or (lookup test es) zero)
          ≡ unwrap_or (lookup other (seen es)) (value zero)
          → value (unwrap_or (cond b (Some e.1) (lookup test es)) zero)
          ≡ unwrap_or (cond b (Some (value e.1)) (lookup other (seen es))) (value zero)
      at true ih = refl
      at false ih = ih

  pub insert-seen : (cmp : K → K → Ordering) (other : L → L → Ordering)
      → ((a b : K) → cmp a b ≡ other (view a) (view b)) → (es : List (K × V)) (k : K) (v : V)
      → seen (insert_entry cmp es k v) ≡ insert_entry other (seen es) (view k) (value v)
  insert-seen cmp other same [] k v = refl
  insert-seen cmp other same (e ∷ es) k v =
      at (cmp k e.0) (insert-seen cmp other same es k v)
      ∙ ap (λ r. match_ordering r ((view k, value v) ∷ seen (e ∷ es))
      ((view e.0, value v) ∷ seen es)
      ((view e.0, value e.1) ∷ insert_entry other (seen es) (view k) (value v))) (same k e.0)
    where
      at : (r : Ordering)
          → seen (insert_entry cmp es k v) ≡ insert_entry other (seen es) (view k) (value v)
          → seen (match_ordering r ((k, v) ∷ e ∷ es) ((e.0, v) ∷ es)
          (e ∷ insert_entry cmp es k v))
          ≡ match_ordering r ((view k, value v) ∷ seen (e ∷ es)) ((view e.0, value v) ∷ seen es)
          ((view e.0, value e.1) ∷ insert_entry other (seen es) (view k) (value v))
      at Less ih = refl
      at Equal ih = refl
      at Greater ih = ap (λ t. (view e.0, value e.1) ∷ t) ih

  -- values that are as large are as large all together
  pub size-seen : (size : V → ℕ) (other : W → ℕ) → ((v : V) → other (value v) ≡ size v)
      → (es : List (K × V)) → total_size other (seen es) ≡ total_size size es
  size-seen size other same [] = refl
  size-seen size other same (e ∷ es) =
      ap (λ n. n + total_size other (seen es)) (same e.1)
      ∙ ap (λ n. size e.1 + n) (size-seen size other same es)

-- ---- how large the values become

module _ {K V : Type 0} {R : K → K → Ordering} (o : IsTotalOrder R) (size : V → ℕ) (zero : V) where
  -- what is below all keys is not among them
  lookup-below : (k : K) (es : List (K × V)) → AllByRecursion (λ y. R k y ≡ Less) (keys_of es)
      → lookup (λ x. is_eq (R k x)) es ≡ None
  lookup-below k [] h = refl
  lookup-below k (e ∷ es) h =
      ap (λ r. cond (is_eq r) (Some e.1) (lookup (λ x. is_eq (R k x)) es)) h.0
      ∙ lookup-below k es h.1

  above-all : (k x : K) (ys : List K) → R k x ≡ Less → AllByRecursion (λ y. R x y ≡ Less) ys
      → AllByRecursion (λ y. R k y ≡ Less) ys
  above-all k x [] h all = tt
  above-all k x (y ∷ ys) h all = (o.trans k x y h all.0, above-all k x ys h all.1)

  -- a value found is no larger than all together
  pub found-size : (test : K → Bool) (es : List (K × V)) → size zero ≡ 0
      → size (unwrap_or (lookup test es) zero) ≤ total_size size es
  found-size test [] none = omega (arith, none)
  found-size test (e ∷ es) none = at (test e.0) (found-size test es none)
    where
      at : (b : Bool) → size (unwrap_or (lookup test es) zero) ≤ total_size size es
          → size (unwrap_or (cond b (Some e.1) (lookup test es)) zero)
          ≤ size e.1 + total_size size es
      at true ih = omega arith
      at false ih = omega (arith, ih)

  -- a value that takes the place of the one found is larger by so much at the most
  pub insert-size : (k : K) (w : V) (growth : ℕ) → size zero ≡ 0 → (es : List (K × V))
      → IsStrictlySortedBy R (keys_of es)
      → size w ≤ size (unwrap_or (lookup (λ x. is_eq (R k x)) es) zero) + growth
      → total_size size (insert_entry R es k w) ≤ total_size size es + growth
  unfolding IsStrictlySortedBy
  insert-size k w growth none [] rise h = omega (arith, none, h)
  insert-size k w growth none (e ∷ es) rise h =
      at (R k e.0) refl h (insert-size k w growth none es rise.1)
    where
      found : Option V
      found = lookup (λ x. is_eq (R k x)) es

      nothing : found ≡ None → size (unwrap_or found zero) ≡ size zero
      nothing q = ap (λ (f : Option V). size (unwrap_or f zero)) q

      at : (r : Ordering) → R k e.0 ≡ r
          → size w ≤ size (unwrap_or (cond (is_eq r) (Some e.1) found) zero) + growth
          → (size w ≤ size (unwrap_or found zero) + growth
          → total_size size (insert_entry R es k w) ≤ total_size size es + growth)
          → total_size size (match_ordering r ((k, w) ∷ e ∷ es) ((e.0, w) ∷ es)
          (e ∷ insert_entry R es k w)) ≤ (size e.1 + total_size size es) + growth
      at Less p g ih = omega (
        arith,
        g,
        none,
        nothing (lookup-below k es (above-all k e.0 (keys_of es) p rise.0)),
      )
      at Equal p g ih = omega (arith, g)
      at Greater p g ih = omega (arith, ih g)

-- ---- the values of all keys

module _ {K V B : Type 0} {R : K → K → Ordering} (o : IsTotalOrder R) (exact : CmpEqualImpliesEq R)
    (key : B → K) (zero : V) (plus : B → V → V) (total : List B → K → V)
    (none : (k : K) → total [] k ≡ zero)
    (own : (b : B) (bs : List B) (k : K) → is_eq (R (key b) k) ≡ true
    → total (b ∷ bs) k ≡ plus b (total bs k))
    (other : (b : B) (bs : List B) (k : K) → is_eq (R (key b) k) ≡ false
    → total (b ∷ bs) k ≡ total bs k) where
  -- keys with their values
  abbrev pub at_keys : (K → V) → List K → List (K × V)
  at_keys f ks = map {B = K × V} (λ k. (k, f k)) ks

  -- the keys of elements, in order, with their values
  abbrev pub totals : List B → List (K × V)
  totals bs = at_keys (total bs) (in_order_once R (map key bs))

  eq-flip : (a b : K) → is_eq (R a b) ≡ is_eq (R b a)
  eq-flip a b = ap is_eq (o.antisymm a b) ∙ turned (R b a)
    where
      turned : (r : Ordering) → is_eq (ordering_reverse r) ≡ is_eq r
      turned Less = refl
      turned Equal = refl
      turned Greater = refl

  or-false : (p q : Bool) → (p || q) ≡ false → (p ≡ false) × (q ≡ false)
  or-false true q h = absurd (cc)
  or-false false q h = (refl, h)

  -- a key that no element has
  absent : (k : K) (bs : List B) → list_any (λ y. is_eq (R k y)) (map key bs) ≡ false
      → total bs k ≡ zero
  absent k [] h = none k
  absent k (b ∷ bs) h =
      let parts = or-false (is_eq (R k (key b))) (list_any (λ y. is_eq (R k y)) (map key bs)) h in
      other b bs k (eq-flip (key b) k ∙ parts.0) ∙ absent k bs parts.1

  -- what a look-up finds
  found : (k : K) (ks : List K) (f : K → V)
      → unwrap_or (lookup (λ y. is_eq (R k y)) (at_keys f ks)) zero
      ≡ cond (list_any (λ y. is_eq (R k y)) ks) (f k) zero
  found k [] f = refl
  found k (x ∷ xs) f = at (R k x) refl (found k xs f)
    where
      at : (r : Ordering) → R k x ≡ r
          → unwrap_or (lookup (λ y. is_eq (R k y)) (at_keys f xs)) zero
          ≡ cond (list_any (λ y. is_eq (R k y)) xs) (f k) zero
          → unwrap_or (cond (is_eq r) (Some (f x))
          (lookup (λ y. is_eq (R k y)) (at_keys f xs))) zero
          ≡ cond (is_eq r || list_any (λ y. is_eq (R k y)) xs) (f k) zero
      at Less e ih = ih
      at Equal e ih = ap f (sym (exact k x e))
      at Greater e ih = ih

  pub found-totals : (k : K) (bs : List B)
      → unwrap_or (lookup (λ y. is_eq (R k y)) (totals bs)) zero ≡ total bs k
  found-totals k bs =
      found k (in_order_once R (map key bs)) (total bs)
      ∙ ap (λ b. cond b (total bs k) zero)
      (any-in_order_once o exact (λ y. is_eq (R k y)) (map key bs))
      ∙ at (list_any (λ y. is_eq (R k y)) (map key bs)) refl
    where
      at : (b : Bool) → list_any (λ y. is_eq (R k y)) (map key bs) ≡ b
          → cond b (total bs k) zero ≡ total bs k
      at true e = refl
      at false e = sym (absent k bs e)

  module _ (b : B) (bs : List B) where
    abbrev before : K → V
    before = total bs

    abbrev after : K → V
    after = total (b ∷ bs)

    -- values of keys above that of the element stay
    above-same : (ks : List K) → AllByRecursion (λ y. R (key b) y ≡ Less) ks
        → at_keys before ks ≡ at_keys after ks
    above-same [] h = refl
    above-same (k ∷ ks) h =
        let same : before k ≡ after k = sym (other b bs k (ap is_eq h.0)) in
        λ i. (k, same i) ∷ above-same ks h.1 i

    insert-totals : (ks : List K) → IsStrictlySortedBy R ks
        → insert_entry R (at_keys before ks) (key b) (after (key b))
        ≡ at_keys after (put_once R (key b) ks)
    unfolding IsStrictlySortedBy
    insert-totals [] rise = refl
    insert-totals (k ∷ ks) rise = at (R (key b) k) refl (insert-totals ks rise.1)
      where
        at : (r : Ordering) → R (key b) k ≡ r
            → insert_entry R (at_keys before ks) (key b) (after (key b))
            ≡ at_keys after (put_once R (key b) ks)
            → match_ordering r
            ((key b, after (key b)) ∷ (k, before k) ∷ at_keys before ks)
            ((k, after (key b)) ∷ at_keys before ks)
            ((k, before k)
            ∷ insert_entry R (at_keys before ks) (key b) (after (key b)))
            ≡ at_keys after
            (match_ordering r (key b ∷ k ∷ ks) (k ∷ ks) (k ∷ put_once R (key b) ks))
        at Less p ih =
            ap (λ t. (key b, after (key b)) ∷ t)
            (above-same (k ∷ ks) (p, above-all k (key b) p ks rise.0))
          where
            above-all : (x y : K) → R y x ≡ Less → (ys : List K)
                → AllByRecursion (λ z. R x z ≡ Less) ys → AllByRecursion (λ z. R y z ≡ Less) ys
            above-all x y q [] all = tt
            above-all x y q (z ∷ zs) all = (o.trans y x z q all.0, above-all x y q zs all.1)
        at Equal p ih =
            let same : key b ≡ k = exact (key b) k p in
            λ i. (k, after (same i)) ∷ above-same ks (equal-all ks rise.0) i
          where
            equal-all : (ys : List K) → AllByRecursion (λ z. R k z ≡ Less) ys
                → AllByRecursion (λ z. R (key b) z ≡ Less) ys
            equal-all [] all = tt
            equal-all (z ∷ zs) all = (o.congr (key b) k z p ∙ all.0, equal-all zs all.1)
        at Greater p ih =
            let same : before k ≡ after k = sym (other b bs k (ap is_eq p)) in
            λ i. (k, same i) ∷ ih i

    -- an element added to the value of its key
    pub added-totals : insert_entry R (totals bs) (key b)
        (plus b (unwrap_or (lookup (λ y. is_eq (R (key b) y)) (totals bs)) zero))
        ≡ totals (b ∷ bs)
    added-totals =
        ap (insert_entry R (totals bs) (key b))
        (ap (plus b) (found-totals (key b) bs) ∙ sym (own b bs (key b) (itself (key b))))
        ∙ insert-totals (in_order_once R (map key bs)) (in_order_once-rising o exact (map key bs))
      where
        less_greater : Less ≡ Greater → ⊥
        less_greater h = cc

        itself : (k : K) → is_eq (R k k) ≡ true
        itself k = at (R k k) refl
          where
            at : (r : Ordering) → R k k ≡ r → is_eq r ≡ true
            at Less e =
                absurd (less_greater (sym e ∙ o.antisymm k k ∙ ap ordering_reverse e))
            at Equal e = refl
            at Greater e =
                absurd (less_greater (sym (sym e ∙ o.antisymm k k ∙ ap ordering_reverse e)))
