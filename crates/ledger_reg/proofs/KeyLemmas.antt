-- The places of sums in order: each once.
use Rattle.std.proofs.Common.{◌≡◌, ℕ, zero, suc, ◌+◌, ◌-◌, ◌==◌, false, cond}
use Rattle.std.proofs.Common.{List, [], ◌∷◌, ◌++◌, map, length, get_or, refl, ap, ◌∙◌, sym, arith}
use Rattle.std.proofs.Common.{append_assoc, subst}
use Rattle.std.specs.List.{AllByRecursion}
use Rattle.std.specs.List.Sorted.{IsStrictlySortedBy}
use Rattle.std.specs.Cmp.{IsTotalOrder}
use Rattle.std.specs.Cmp.Lexicographic.{slice_cmp}
use Rattle.std.specs.Ordering.{nat_cmp, ordering_then, ordering_reverse, match_ordering, is_eq}
use Rattle.std.specs.declared.cmp.Ordering.{Ordering}
use Rattle.std.specs.declared.cmp.Ordering.TheVariants.{Less, Equal, Greater}
use Rattle.std.proofs.lemmas.Map.Lookups.{CmpEqualImpliesEq}
use Rattle.reg_base.specs.Records.{put_once}
use Rattle.reg_base.specs.Sums.{in_order_once}
use Rattle.reg_base.proofs.ForTables.{put_once-put_once, in_order_once-rising}
use Rattle.ledger_reg.specs.declared.sides.SideKey.{SideKey}
use Rattle.ledger_reg.specs.Sides.{SidePlace, place_in, place_cmp}
use Rattle.ledger_reg.specs.Slots.{SlotPlace, SlotAmounts, slot_cmp, slot_total, slot_sums}
use Rattle.ledger_reg.specs.UnitRows.{ends_with, place_of, put_places}
use Rattle.ledger_reg.proofs.SideLemmas.{place_cmp_total, place_cmp_exact}
use Rattle.ledger_reg.proofs.SlotLemmas.{slot_cmp_total, slot_cmp_exact}

-- whether a place is the last one is told by the last one
at-last : (ks : List SideKey) (q : SidePlace) (d : SideKey) (i : ℕ) → i + 1 ≡ length ks
    → is_eq (place_cmp (place_in (get_or ks i d)) q) ≡ ends_with (map place_in ks) q
at-last [] q d i e = absurd (omega (arith, e))
at-last (k ∷ []) q d zero e = refl
at-last (k ∷ []) q d (suc i) e = absurd (omega (arith, e))
at-last (k ∷ m ∷ ks) q d zero e = absurd (omega (arith, e))
at-last (k ∷ m ∷ ks) q d (suc i) e = at-last (m ∷ ks) q d i (omega (arith, e))

pub ends-last : (ks : List SideKey) (q : SidePlace) (d : SideKey) → (length ks == 0) ≡ false
    → is_eq (place_cmp (place_in (get_or ks (length ks - 1) d)) q) ≡ ends_with (map place_in ks) q
ends-last [] q d e = cc
ends-last (k ∷ ks) q d e =
    at-last (k ∷ ks) q d (length (k ∷ ks) - 1) (omega arith)

-- ---- distinct elements in order

less_greater : Less ≡ Greater → ⊥
less_greater h = cc

module _ {K : Type 0} {R : K → K → Ordering} (o : IsTotalOrder R)
    (exact : CmpEqualImpliesEq R) where
  self : (k : K) → R k k ≡ Equal
  self k = own (R k k) refl
    where
      own : (r : Ordering) → R k k ≡ r → r ≡ Equal
      own Less e = absurd (less_greater (sym e ∙ o.antisymm k k ∙ ap ordering_reverse e))
      own Equal e = refl
      own Greater e =
          absurd (less_greater (sym (sym e ∙ o.antisymm k k ∙ ap ordering_reverse e)))

  -- an element is put once
  put_once-again : (k : K) (ks : List K) → put_once R k (put_once R k ks) ≡ put_once R k ks
  put_once-again k [] =
      ap (λ r. match_ordering r (k ∷ k ∷ []) (k ∷ []) (k ∷ k ∷ [])) (self k)
  put_once-again k (h ∷ hs) = at (R k h) refl (put_once-again k hs)
    where
      at : (r : Ordering) → R k h ≡ r → put_once R k (put_once R k hs) ≡ put_once R k hs
          → put_once R k (match_ordering r (k ∷ h ∷ hs) (h ∷ hs) (h ∷ put_once R k hs))
          ≡ match_ordering r (k ∷ h ∷ hs) (h ∷ hs) (h ∷ put_once R k hs)
      at Less e ih =
          ap (λ r. match_ordering r (k ∷ k ∷ h ∷ hs) (k ∷ h ∷ hs) (k ∷ put_once R k (h ∷ hs)))
          (self k)
      at Equal e ih =
          ap (λ r. match_ordering r (k ∷ h ∷ hs) (h ∷ hs) (h ∷ put_once R k hs)) e
      at Greater e ih =
          ap (λ r. match_ordering r (k ∷ h ∷ put_once R k hs) (h ∷ put_once R k hs)
          (h ∷ put_once R k (put_once R k hs))) e
          ∙ ap (λ t. h ∷ t) ih

  -- an element below all others comes first
  put_once-below : (k : K) (ks : List K) → AllByRecursion (λ y. R k y ≡ Less) ks
      → put_once R k ks ≡ k ∷ ks
  put_once-below k [] h = refl
  put_once-below k (y ∷ ys) h =
      ap (λ r. match_ordering r (k ∷ y ∷ ys) (y ∷ ys) (y ∷ put_once R k ys)) h.0

all-put_once : {K : Type 0} (P : K → Type 0) (R : K → K → Ordering) (k : K) (ks : List K) → P k
    → AllByRecursion P ks → AllByRecursion P (put_once R k ks)
all-put_once P R k [] own h = (own, tt)
all-put_once P R k (y ∷ ys) own h = at (R k y) (all-put_once P R k ys own h.1)
  where
    at : (r : Ordering) → AllByRecursion P (put_once R k ys)
        → AllByRecursion P (match_ordering r (k ∷ y ∷ ys) (y ∷ ys) (y ∷ put_once R k ys))
    at Less ih = (own, h)
    at Equal ih = h
    at Greater ih = (h.0, ih)

all-in_order_once : {K : Type 0} (P : K → Type 0) (R : K → K → Ordering) (ks : List K)
    → AllByRecursion P ks → AllByRecursion P (in_order_once R ks)
all-in_order_once P R [] h = tt
all-in_order_once P R (k ∷ ks) h =
    all-put_once P R k (in_order_once R ks) h.0 (all-in_order_once P R ks h.1)

-- distinct elements in order of what is seen of them
pub in_order_once-map : {X Y : Type 0} (R : X → X → Ordering) (S : Y → Y → Ordering) (view : X → Y)
    → ((a b : X) → S (view a) (view b) ≡ R a b) → (xs : List X)
    → in_order_once S (map view xs) ≡ map view (in_order_once R xs)
in_order_once-map {X} {Y} R S view same [] = refl
in_order_once-map {X} {Y} R S view same (x ∷ xs) =
    ap (put_once S (view x)) (in_order_once-map R S view same xs)
    ∙ one (in_order_once R xs)
  where
    one : (ys : List X) → put_once S (view x) (map view ys) ≡ map view (put_once R x ys)
    one [] = refl
    one (y ∷ ys) =
        ap (λ r. match_ordering r (view x ∷ view y ∷ map view ys) (view y ∷ map view ys)
        (view y ∷ put_once S (view x) (map view ys))) (same x y)
        ∙ at (R x y) (one ys)
      where
        at : (r : Ordering) → put_once S (view x) (map view ys) ≡ map view (put_once R x ys)
            → match_ordering r (view x ∷ view y ∷ map view ys) (view y ∷ map view ys)
            (view y ∷ put_once S (view x) (map view ys))
            ≡ map view (match_ordering r (x ∷ y ∷ ys) (y ∷ ys) (y ∷ put_once R x ys))
        at Less ih = refl
        at Equal ih = refl
        at Greater ih = ap (λ t. view y ∷ t) ih

-- what is seen of distinct elements, each once, is what is seen of all
module _ {K P : Type 0} {R : K → K → Ordering} {S : P → P → Ordering} (o : IsTotalOrder R)
    (exact : CmpEqualImpliesEq R) (p : IsTotalOrder S) (exact-seen : CmpEqualImpliesEq S)
    (view : K → P) where
  seen-put_once : (k : K) (ks : List K) → in_order_once S (map view (put_once R k ks))
      ≡ put_once S (view k) (in_order_once S (map view ks))
  seen-put_once k [] = refl
  seen-put_once k (h ∷ hs) = at (R k h) refl (seen-put_once k hs)
    where
      rest : List P
      rest = in_order_once S (map view hs)

      at : (r : Ordering) → R k h ≡ r
          → in_order_once S (map view (put_once R k hs)) ≡ put_once S (view k) rest
          → in_order_once S (map view
          (match_ordering r (k ∷ h ∷ hs) (h ∷ hs) (h ∷ put_once R k hs)))
          ≡ put_once S (view k) (put_once S (view h) rest)
      at Less e ih = refl
      at Equal e ih =
          let same = exact k h e in
          sym (put_once-again p exact-seen (view h) rest)
          ∙ ap (λ x. put_once S (view x) (put_once S (view h) rest)) (sym same)
      at Greater e ih =
          ap (put_once S (view h)) ih
          ∙ put_once-put_once p exact-seen (view h) (view k) rest

  pub seen-once : (ks : List K) → in_order_once S (map view (in_order_once R ks))
      ≡ in_order_once S (map view ks)
  seen-once [] = refl
  seen-once (k ∷ ks) =
      seen-put_once k (in_order_once R ks) ∙ ap (put_once S (view k)) (seen-once ks)

-- ---- the places of sums, one behind the other

places-then : (p q : SlotPlace) → slot_cmp p q
    ≡ ordering_then (place_cmp (place_of p) (place_of q)) (nat_cmp p.slot q.slot)
places-then p q = at (slice_cmp nat_cmp p.account q.account)
  where
    extras : Ordering
    extras = slice_cmp (slice_cmp nat_cmp) p.extras q.extras

    at : (r : Ordering) → ordering_then r (ordering_then extras (nat_cmp p.slot q.slot))
        ≡ ordering_then (ordering_then r extras) (nat_cmp p.slot q.slot)
    at Less = refl
    at Equal = refl
    at Greater = refl

-- places behind one that is above another are above that too
all-above : (p : SidePlace) (h : SlotPlace) (es : List SlotAmounts)
    → place_cmp p (place_of h) ≡ Less
    → AllByRecursion (λ y. slot_cmp h y ≡ Less) (map (λ e. e.0) es)
    → AllByRecursion (λ y. place_cmp p y ≡ Less) (map (λ e. place_of e.0) es)
all-above p h [] less all = tt
all-above p h (e ∷ es) less all = (
  at (place_cmp (place_of h) (place_of e.0)) refl,
  all-above p h es less all.1,
)
  where
    at : (r : Ordering) → place_cmp (place_of h) (place_of e.0) ≡ r
        → place_cmp p (place_of e.0) ≡ Less
    at Less q = place_cmp_total.trans p (place_of h) (place_of e.0) less q
    at Equal q =
        ap (place_cmp p) (sym (place_cmp_exact (place_of h) (place_of e.0) q)) ∙ less
    at Greater q = absurd (less_greater (sym all.0 ∙ places-then h e.0
        ∙ ap (λ r. ordering_then r (nat_cmp h.slot e.0.slot)) q))

ends-push : (acc : List SidePlace) (p q : SidePlace)
    → ends_with (acc ++ p ∷ []) q ≡ is_eq (place_cmp p q)
ends-push [] p q = refl
ends-push (x ∷ []) p q = refl
ends-push (x ∷ y ∷ acc) p q = ends-push (y ∷ acc) p q

abbrev seen_of : List SlotAmounts → List SidePlace
seen_of es = in_order_once place_cmp (map (λ e. place_of e.0) es)

placed : (acc : List SidePlace) (e : SlotAmounts) (es : List SlotAmounts)
    → IsStrictlySortedBy slot_cmp (map (λ x. x.0) (e ∷ es))
    → put_places (acc ++ place_of e.0 ∷ []) es ≡ acc ++ seen_of (e ∷ es)
unfolding IsStrictlySortedBy
placed acc e [] rise = refl
placed acc e (h ∷ hs) rise =
    ap (λ b. put_places (cond b before (before ++ place_of h.0 ∷ [])) hs)
    (ends-push acc (place_of e.0) (place_of h.0))
    ∙ at (place_cmp (place_of e.0) (place_of h.0)) refl (placed acc h hs rise.1)
    (placed before h hs rise.1)
  where
    before : List SidePlace
    before = acc ++ place_of e.0 ∷ []

    at : (r : Ordering) → place_cmp (place_of e.0) (place_of h.0) ≡ r
        → put_places (acc ++ place_of h.0 ∷ []) hs ≡ acc ++ seen_of (h ∷ hs)
        → put_places (before ++ place_of h.0 ∷ []) hs ≡ before ++ seen_of (h ∷ hs)
        → put_places (cond (is_eq r) before (before ++ place_of h.0 ∷ [])) hs
        ≡ acc ++ put_once place_cmp (place_of e.0) (seen_of (h ∷ hs))
    at Less q ih more =
        more ∙ append_assoc acc (place_of e.0 ∷ []) (seen_of (h ∷ hs))
        ∙ ap (λ t. acc ++ t) (sym (put_once-below place_cmp_total place_cmp_exact (place_of e.0)
        (seen_of (h ∷ hs))
        (all-in_order_once (λ y. place_cmp (place_of e.0) y ≡ Less) place_cmp
        (map (λ x. place_of x.0) (h ∷ hs)) (q, all-above (place_of e.0) h.0 hs q rise.1.0))))
    at Equal q ih more =
        let same = place_cmp_exact (place_of e.0) (place_of h.0) q in
        ap (λ p. put_places (acc ++ p ∷ []) hs) same ∙ ih
        ∙ ap (λ t. acc ++ t) (sym (put_once-again place_cmp_total place_cmp_exact (place_of h.0)
        (seen_of hs))
        ∙ ap (λ p. put_once place_cmp p (seen_of (h ∷ hs))) (sym same))
    at Greater q ih more = absurd (less_greater (sym rise.0.0 ∙ places-then e.0 h.0
        ∙ ap (λ r. ordering_then r (nat_cmp e.0.slot h.0.slot)) q))

placed-all : (es : List SlotAmounts) → IsStrictlySortedBy slot_cmp (map (λ x. x.0) es)
    → put_places [] es ≡ seen_of es
placed-all [] rise = refl
placed-all (e ∷ es) rise = placed [] e es rise

keys-back : (f : SlotPlace → SlotAmounts) → ((q : SlotPlace) → (f q).0 ≡ q) → (qs : List SlotPlace)
    → map (λ e. e.0) (map f qs) ≡ qs
keys-back f same [] = refl
keys-back f same (q ∷ qs) = λ i. same q i ∷ keys-back f same qs i

map-seen : (es : List SlotAmounts) → map (λ e. place_of e.0) es ≡ map place_of (map (λ e. e.0) es)
map-seen [] = refl
map-seen (e ∷ es) = ap (λ t. place_of e.0 ∷ t) (map-seen es)

-- the places of sums are those of what was added
pub sums-places : (added : List SlotAmounts)
    → put_places [] (slot_sums added)
    ≡ in_order_once place_cmp (map (λ e. place_of e.0) added)
sums-places added =
    let ks = in_order_once slot_cmp (map (λ a. a.0) added) in
    let back : map (λ e. e.0) (slot_sums added) ≡ ks =
    keys-back (λ q. (q, slot_total added q)) (λ q. refl) ks in
    placed-all (slot_sums added)
    (subst (λ (xs : List SlotPlace). IsStrictlySortedBy slot_cmp xs)
    (sym back) (in_order_once-rising slot_cmp_total slot_cmp_exact (map (λ a. a.0) added)))
    ∙ ap (in_order_once place_cmp) (map-seen (slot_sums added) ∙ ap (map place_of) back)
    ∙ seen-once slot_cmp_total slot_cmp_exact place_cmp_total place_cmp_exact place_of
    (map (λ a. a.0) added)
    ∙ ap (in_order_once place_cmp) (sym (map-seen added))
