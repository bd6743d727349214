-- The least number of a document that has a key.
use Rattle.std.proofs.Common.{◌∷◌}
use Rattle.std.proofs.Common.{◌≡◌, ◌≢◌, ℕ, ◌<◌, Bool, true, false, Option, Some, None, List, []}
use Rattle.std.proofs.Common.{refl, ap, ◌∙◌, sym, subst, arith, true≢false, nat_eq, nat_lt}
use Rattle.std.proofs.Common.{lt-ltb, le-ltb, cond, ⊎_elim, eq-eqb, eqb-true, ◌||◌, ◌&&◌}
use Rattle.std.specs.Option.{IfSome, option_eq, option_flatten}
use Rattle.std.specs.List.{AllByRecursion, list_any, filter}
use Rattle.std.specs.List.Sorted.{IsStrictlySortedBy}
use Rattle.std.specs.Cmp.{nat_cmp_total, ranked}
use Rattle.std.specs.Cmp.Lexicographic.{slice_cmp, nat_list_cmp_total}
use Rattle.std.specs.Ordering.{nat_cmp, is_le, is_lt, is_gt, ordering_then, ordering_reverse}
use Rattle.std.specs.declared.cmp.Ordering.{Ordering}
use Rattle.std.specs.declared.cmp.Ordering.TheVariants.{Less, Equal, Greater}
use Rattle.std.specs.BTreeMap.{is_at, get}
use Rattle.std.specs.BTreeMap.Range.{range_contains}
use Rattle.std.specs.BTreeSet.{BTreeSet, keys_between}
use Rattle.std.specs.declared.ops.Bound.TheVariants.{Included, Unbounded}
use Rattle.std.proofs.lemmas.List.Kept.{IsStrictlySortedBy-filter}
use Rattle.std.proofs.lemmas.Map.Views.{any-filter_same}
use Rattle.doc_store.specs.declared.committed.Committed.{Committed}
use Rattle.doc_store.specs.Kept.{IsSound, documents_in}
use Rattle.doc_store.specs.Pairs.{HasKeyPlace}
use Rattle.doc_store.proofs.PlaceLemmas.{document_at-documents_of}
use Rattle.doc_store.proofs.SeenLemmas.{documents-ascend}
use Rattle.std.proofs.lemmas.Bool.{cases_Bool, cond-true, cond-false, cond_both}
use Rattle.std.proofs.lemmas.Map.Keys.{sorted_head, sorted_tail}
use Rattle.std.proofs.lemmas.Map.Lookups.{exact_unsigned, exact_bytes}
use Rattle.reg_base.specs.declared.records.Document.{Document}
use Rattle.reg_base.specs.Documents.{document_at, with_document, without_document, is_key}
use Rattle.reg_base.specs.Documents.{holder_of}
use Rattle.doc_store.specs.declared.index.KeyPlace.{KeyPlace}
use Rattle.doc_store.specs.contracts.index.KeyPlaceOrd.TheImpl.{ghosts}
use Rattle.doc_store.specs.Holders.{all_but, has_key, has_key_at, least_of, own_number_of}
use Rattle.doc_store.specs.Holders.{AwaitsHolders}
use Rattle.doc_store.proofs.PairLemmas.{found-pair, derived-order, equal_bytes}
use Rattle.doc_store.proofs.PlaceLemmas.{IsBelow, document_at-below}
use Rattle.doc_store.proofs.PlaceLemmas.{at-Less, at-Equal, at-Greater}
use Rattle.doc_store.proofs.PlaceLemmas.{with-Less, with-Equal, with-Greater}
use Rattle.doc_store.proofs.PlaceLemmas.{without-Less, without-Equal, without-Greater}
use Rattle.doc_store.proofs.SeenLemmas.{Ascend, at-removed, at-left, below, nat_cmp-itself}

-- ---- a document that is left out

same-number : (a b : ℕ) → nat_eq a b ≡ true → a ≡ b
same-number a b h = eqb-true a b h

other-number : (a b : ℕ) → nat_eq a b ≡ false → a ≢ b
other-number a b h same = true≢false (sym (eq-eqb a b same) ∙ h)

pub has_key-but : (key : List ℕ) (but : Option ℕ) (n : ℕ) (ds : List Document) → Ascend ds →
    option_eq nat_eq but (Some n) ≡ true → has_key_at key n (all_but but ds) ≡ false
has_key-but key None n ds s h = absurd (true≢false (sym h))
has_key-but key (Some b) n ds s h = ap (has_key key)
    (ap (λ k. document_at n (without_document k ds)) (same-number b n h) ∙ at-removed n ds s)

pub at-but : (but : Option ℕ) (n : ℕ) (ds : List Document) → Ascend ds →
    option_eq nat_eq but (Some n) ≡ false → document_at n (all_but but ds) ≡ document_at n ds
at-but None n ds s h = refl
at-but (Some b) n ds s h = at-left b n (λ same. other-number b n h (sym same)) ds s

-- the documents that are left ascend
below-without : (k n : ℕ) (ds : List Document) → IsBelow k ds → IsBelow k (without_document n ds)
below-without k n [] b = tt
below-without k n (d ∷ ds) b = by_order (below-without k n ds b.1) (nat_cmp n d.doc.number) refl
  where
    by_order : IsBelow k (without_document n ds) → (r : Ordering) → nat_cmp n d.doc.number ≡ r →
        IsBelow k (without_document n (d ∷ ds))
    by_order rest Less h = subst (IsBelow k) (sym (without-Less n d ds h)) b
    by_order rest Equal h = subst (IsBelow k) (sym (without-Equal n d ds h)) b.1
    by_order rest Greater h = subst (IsBelow k) (sym (without-Greater n d ds h)) (b.0, rest)

ascend-without : (n : ℕ) (ds : List Document) → Ascend ds → Ascend (without_document n ds)
ascend-without n [] s = tt
ascend-without n (d ∷ ds) s = by_order (ascend-without n ds s.1) (nat_cmp n d.doc.number) refl
  where
    by_order : Ascend (without_document n ds) → (r : Ordering) → nat_cmp n d.doc.number ≡ r →
        Ascend (without_document n (d ∷ ds))
    by_order rest Less h = subst Ascend (sym (without-Less n d ds h)) s
    by_order rest Equal h = subst Ascend (sym (without-Equal n d ds h)) s.1
    by_order rest Greater h = subst Ascend (sym (without-Greater n d ds h))
        (below-without d.doc.number n ds s.0, rest)

pub ascend-but : (but : Option ℕ) (ds : List Document) → Ascend ds → Ascend (all_but but ds)
ascend-but None ds s = s
ascend-but (Some n) ds s = ascend-without n ds s

-- ---- the first document that has the key

module _ (key : List ℕ) where
  first-has : (d : Document) (ds : List Document) → is_key key d.doc.key ≡ true →
      holder_of key (d ∷ ds) ≡ Some d.doc.number
  first-has d ds h = cond-true (is_key key d.doc.key) (Some d.doc.number) (holder_of key ds) h

  first-lacks : (d : Document) (ds : List Document) → is_key key d.doc.key ≡ false →
      holder_of key (d ∷ ds) ≡ holder_of key ds
  first-lacks d ds h = cond-false (is_key key d.doc.key) (Some d.doc.number) (holder_of key ds) h

  -- no document of a number below a bound has the key, where that holds with one more in front
  behind-first : (d : Document) (ds : List Document) → IsBelow d.doc.number ds → (m : ℕ) →
      has_key_at key m (d ∷ ds) ≡ false → has_key_at key m ds ≡ false
  behind-first d ds b m h = by_order (nat_cmp m d.doc.number) refl
    where
      by_order : (r : Ordering) → nat_cmp m d.doc.number ≡ r → has_key_at key m ds ≡ false
      by_order Less e = ap (has_key key) (below m d ds e b)
      by_order Equal e = ap (has_key key) (document_at-below m ds
          (subst (λ k. IsBelow k ds) (sym (exact_unsigned m d.doc.number e)) b))
      by_order Greater e = sym (ap (has_key key) (at-Greater m d ds e)) ∙ h

  pub holder-none : (ds : List Document) → Ascend ds →
      ((m : ℕ) → has_key_at key m ds ≡ false) → holder_of key ds ≡ None
  holder-none [] s none = refl
  holder-none (d ∷ ds) s none =
      first-lacks d ds (sym (ap (has_key key) (at-Equal d.doc.number d ds
      (nat_cmp-itself d.doc.number))) ∙ none d.doc.number)
      ∙ holder-none ds s.1 (λ m. behind-first d ds s.0 m (none m))

  pub holder-found : (n : ℕ) (ds : List Document) → Ascend ds → has_key_at key n ds ≡ true →
      ((m : ℕ) → m < n → has_key_at key m ds ≡ false) → holder_of key ds ≡ Some n
  holder-found n [] s has none = absurd (true≢false (sym has))
  holder-found n (d ∷ ds) s has none = by_order (holder-found n ds s.1)
      (nat_cmp n d.doc.number) refl
    where
      by_order : (has_key_at key n ds ≡ true →
          ((m : ℕ) → m < n → has_key_at key m ds ≡ false) → holder_of key ds ≡ Some n) →
          (r : Ordering) → nat_cmp n d.doc.number ≡ r → holder_of key (d ∷ ds) ≡ Some n
      by_order rest Less h = absurd (true≢false (sym has ∙ ap (has_key key) (at-Less n d ds h)))
      by_order rest Equal h =
          first-has d ds (sym (ap (has_key key) (at-Equal n d ds h)) ∙ has)
          ∙ ap Some (sym (exact_unsigned n d.doc.number h))
      by_order rest Greater h =
          let above : d.doc.number < n = ranked n d.doc.number Greater (sym h) in
          first-lacks d ds (sym (ap (has_key key) (at-Equal d.doc.number d ds
          (nat_cmp-itself d.doc.number))) ∙ none d.doc.number above)
          ∙ rest (sym (ap (has_key key) (at-Greater n d ds h)) ∙ has)
          (λ m l. behind-first d ds s.0 m (none m l))

-- ---- pairs that are left to be looked at

-- a pair among others that stand behind one stands behind it too
behind-pair : (p : KeyPlace) (key : List ℕ) (m : ℕ) (ps : List KeyPlace) →
    AllByRecursion (λ y. ghosts.cmp p y ≡ Less) ps →
    list_any (is_at (ghosts.cmp (record { key = key; number = m }))) ps ≡ true →
    ordering_then (slice_cmp nat_cmp p.key key) (nat_cmp p.number m) ≡ Less
behind-pair p key m [] less found = absurd (true≢false (sym found))
behind-pair p key m (q ∷ qs) less found = ⊎_elim
    (λ here. let (same_key, same_number) = found-pair (record { key = key; number = m }) q here in
    ap (λ k. ordering_then (slice_cmp nat_cmp p.key k) (nat_cmp p.number m)) same_key
    ∙ ap (λ n. ordering_then (slice_cmp nat_cmp p.key q.key) (nat_cmp p.number n)) same_number
    ∙ sym (derived-order p q) ∙ less.0)
    (λ other. behind-pair p key m qs less.1 (sym (ap (λ b. b || list_any
    (is_at (ghosts.cmp (record { key = key; number = m }))) qs) other) ∙ found))
    (cases_Bool (is_at (ghosts.cmp (record { key = key; number = m })) q))

-- a pair that is not before the first one of a key, and before another of it, has the key
after-first : (p : KeyPlace) (key : List ℕ) (m : ℕ) (r : Ordering) →
    slice_cmp nat_cmp p.key key ≡ r →
    is_le (ghosts.cmp (record { key = key; number = 0 }) p) ≡ true →
    ordering_then (slice_cmp nat_cmp p.key key) (nat_cmp p.number m) ≡ Less →
    (p.key ≡ key) × (p.number < m)
after-first p key m Less e from before = absurd (true≢false (sym from
    ∙ ap is_le (derived-order (record { key = key; number = 0 }) p
    ∙ ap (λ s. ordering_then s (nat_cmp 0 p.number))
    (nat_list_cmp_total.antisymm key p.key ∙ ap ordering_reverse e))))
after-first p key m Equal e from before = (
  exact_bytes p.key key e,
  ranked p.number m Less (sym (sym (ap (λ s. ordering_then s (nat_cmp p.number m)) e) ∙ before)),
)
after-first p key m Greater e from before = absurd (true≢false (ap is_gt
    (sym (ap (λ s. ordering_then s (nat_cmp p.number m)) e) ∙ before)))

module _ (key : List ℕ) (ds : List Document) where
  -- nothing is left
  pub awaits-none : AwaitsHolders key ds [] → Ascend ds → holder_of key ds ≡ None
  awaits-none a s = holder-none key ds s (λ m. ⊎_elim
      (λ has. absurd (true≢false (sym (a.listed m has))))
      (λ lacks. lacks) (cases_Bool (has_key_at key m ds)))

  module _ (p : KeyPlace) (ps : List KeyPlace) (a : AwaitsHolders key ds (p ∷ ps)) where
    -- a document whose pair is not the first has its pair behind it
    later : (m : ℕ) → has_key_at key m ds ≡ true → (key ≡ p.key → m ≡ p.number → ⊥) →
        list_any (is_at (ghosts.cmp (record { key = key; number = m }))) ps ≡ true
    later m has other = ⊎_elim
        (λ here. let (same_key, same_number) = found-pair (record { key = key; number = m }) p
        here in absurd (other same_key same_number))
        (λ apart. sym (ap (λ b. b || list_any
        (is_at (ghosts.cmp (record { key = key; number = m }))) ps) apart) ∙ a.listed m has)
        (cases_Bool (is_at (ghosts.cmp (record { key = key; number = m })) p))

    after : (m : ℕ) → list_any (is_at (ghosts.cmp (record { key = key; number = m }))) ps ≡ true →
        (p.key ≡ key) × (p.number < m)
    after m found = after-first p key m (slice_cmp nat_cmp p.key key) refl a.from_key.0
        (behind-pair p key m ps (sorted_head ghosts.cmp p ps a.sorted) found)

    -- the first pair is of another key
    pub awaits-past : Ascend ds → p.key ≢ key → holder_of key ds ≡ None
    awaits-past s other = holder-none key ds s (λ m. ⊎_elim
        (λ has. absurd (other ((after m (later m has (λ same _. other (sym same)))).0)))
        (λ lacks. lacks) (cases_Bool (has_key_at key m ds)))

    -- the document of the first pair does not have the key
    pub awaits-step : has_key_at key p.number ds ≡ false → AwaitsHolders key ds ps
    awaits-step lacks = record {
      listed = λ m has. later m has (λ _ same. true≢false (sym has
          ∙ ap (λ n. has_key_at key n ds) same ∙ lacks));
      sorted = sorted_tail ghosts.cmp p ps a.sorted;
      from_key = a.from_key.1;
    }

    -- the document of the first pair has the key
    pub awaits-found : Ascend ds → has_key_at key p.number ds ≡ true →
        holder_of key ds ≡ Some p.number
    awaits-found s has = holder-found key p.number ds s has (λ m less. ⊎_elim
        (λ too. let more = (after m (later m too (λ _ same. omega (arith, less, same)))).1 in
        absurd (omega (arith, less, more)))
        (λ lacks. lacks) (cases_Bool (has_key_at key m ds)))

-- ---- where the pairs begin

Equal-itself : (r : Ordering) → r ≡ ordering_reverse r → r ≡ Equal
Equal-itself Less h = absurd (true≢false (ap is_lt h))
Equal-itself Equal h = refl
Equal-itself Greater h = absurd (true≢false (ap is_gt h))

not-Greater : (r : Ordering) → (r ≡ Greater → ⊥) → is_le r ≡ true
not-Greater Less h = refl
not-Greater Equal h = refl
not-Greater Greater h = absurd (h refl)

-- the pair of a key is not before the first one of it
from-first : (key : List ℕ) (q : KeyPlace) → key ≡ q.key →
    is_le (ghosts.cmp (record { key = key; number = 0 }) q) ≡ true
from-first key q same = ap is_le (derived-order (record { key = key; number = 0 }) q
    ∙ ap (λ s. ordering_then s (nat_cmp 0 q.number))
    (ap (slice_cmp nat_cmp key) (sym same)
    ∙ Equal-itself (slice_cmp nat_cmp key key) (nat_list_cmp_total.antisymm key key)))
    ∙ not-Greater (nat_cmp 0 q.number) (λ above. absurd (omega (
      arith,
      ranked 0 q.number Greater
          (sym above),
    )))

each-passes : (p : KeyPlace → Bool) (ks : List KeyPlace) →
    AllByRecursion (λ k. p k ≡ true) (filter p ks)
each-passes p [] = tt
each-passes p (k ∷ ks) = cond_both (p k) (k ∷ filter p ks) (filter p ks)
    (AllByRecursion (λ k. p k ≡ true)) (λ here. (here, each-passes p ks)) (λ _. each-passes p ks)

passes-le : (first : KeyPlace) (ks : List KeyPlace) →
    AllByRecursion (λ k. range_contains ghosts.cmp (Included first) Unbounded k ≡ true) ks →
    AllByRecursion (λ k. is_le (ghosts.cmp first k) ≡ true) ks
passes-le first [] h = tt
passes-le first (k ∷ ks) h = (first-of (is_le (ghosts.cmp first k)) h.0, passes-le first ks h.1)
  where
    first-of : (b : Bool) → (b && true) ≡ true → b ≡ true
    first-of true h = refl
    first-of false h = h

-- a document that has the key has its pair in the index
key-listed : (key : List ℕ) (m : ℕ) (keys : BTreeSet KeyPlace) (o : Option Document) →
    has_key key o ≡ true → IfSome o (λ d. IfSome d.doc.key (λ k. HasKeyPlace keys k m)) →
    HasKeyPlace keys key m
key-listed key m keys None has listed = absurd (true≢false (sym has))
key-listed key m keys (Some d) has listed = own d.doc.key has listed
  where
    own : (own : Option (List ℕ)) → is_key key own ≡ true →
        IfSome own (λ k. HasKeyPlace keys k m) → HasKeyPlace keys key m
    own None has listed = absurd (true≢false (sym has))
    own (Some k) has listed = subst (λ x. HasKeyPlace keys x m)
        (equal_bytes k key has) listed

-- a document that is among all but one is among all
has-all : (key : List ℕ) (but : Option ℕ) (m : ℕ) (ds : List Document) → Ascend ds →
    has_key_at key m (all_but but ds) ≡ true → has_key_at key m ds ≡ true
has-all key but m ds s has = ⊎_elim
    (λ out. absurd (true≢false (sym has ∙ has_key-but key but m ds s out)))
    (λ left. sym (ap (has_key key) (at-but but m ds s left)) ∙ has)
    (cases_Bool (option_eq nat_eq but (Some m)))

pub awaits-start : (committed : Committed) → IsSound committed → (key : List ℕ) (but : Option ℕ) →
    (rest : List KeyPlace) → IsStrictlySortedBy ghosts.cmp committed.keys.keys →
    rest ≡ keys_between ghosts.cmp (Included (record { key = key; number = 0 })) Unbounded
    committed.keys →
    AwaitsHolders key (all_but but (documents_in committed)) rest
awaits-start committed sound key but rest ordered is =
    let first : KeyPlace = record { key = key; number = 0 } in
    let inside : KeyPlace → Bool = range_contains ghosts.cmp (Included first) Unbounded in
    let es = committed.places.entries in
    subst (AwaitsHolders key (all_but but (documents_in committed))) (sym is) (record {
      listed = λ m has.
          any-filter_same (is_at (ghosts.cmp (record { key = key; number = m }))) inside true
          (λ q found. ap (λ b. b && true)
          (from-first key q (found-pair (record { key = key; number = m }) q found).0))
          committed.keys.keys
          ∙ key-listed key m committed.keys (option_flatten (get nat_cmp committed.places m))
          (ap (has_key key) (sym (document_at-documents_of m es sound.ordered sound.numbered))
          ∙ has-all key but m (documents_in committed)
          (documents-ascend es sound.ordered sound.numbered) has) (sound.indexed m);
      sorted = IsStrictlySortedBy-filter ghosts.cmp inside committed.keys.keys ordered;
      from_key = passes-le first (filter inside committed.keys.keys)
          (each-passes inside committed.keys.keys);
    })

-- ---- the first document that has the key, with one put

all-behind : (n k : ℕ) → nat_cmp n k ≡ Less → (ds : List Document) → IsBelow k ds → IsBelow n ds
all-behind n k h [] b = tt
all-behind n k h (d ∷ ds) b =
    (nat_cmp_total.trans n k d.doc.number h b.0, all-behind n k h ds b.1)

module _ (key : List ℕ) where
  -- a document behind those of smaller numbers has a greater number
  above-holder : (n : ℕ) (ds : List Document) → IsBelow n ds →
      IfSome (holder_of key ds) (λ m. n < m)
  above-holder n [] b = tt
  above-holder n (d ∷ ds) b = cond_both (is_key key d.doc.key) (Some d.doc.number)
      (holder_of key ds) (λ o. IfSome o (λ m. n < m))
      (λ _. ranked n d.doc.number Less (sym b.0)) (λ _. above-holder n ds b.1)

  least-own : (n : ℕ) (own : Bool) (o : Option ℕ) → IfSome o (λ m. n < m) →
      cond own (Some n) o ≡ least_of (cond own (Some n) None) o
  least-own n false o above = refl
  least-own n true None above = refl
  least-own n true (Some m) above = sym (cond-false (nat_lt m n) (Some m) (Some n)
      (le-ltb m n (omega arith)))

  least-other : (n m : ℕ) (own : Bool) → m < n →
      Some m ≡ least_of (cond own (Some n) None) (Some m)
  least-other n m false less = refl
  least-other n m true less = sym (cond-true (nat_lt m n) (Some m) (Some n) (lt-ltb m n less))

  module _ (d : Document) where
    -- in front of greater numbers
    put-first : (ds : List Document) → IsBelow d.doc.number ds →
        holder_of key (d ∷ ds) ≡ least_of (own_number_of key d) (holder_of key ds)
    put-first ds b = least-own d.doc.number (is_key key d.doc.key) (holder_of key ds)
        (above-holder d.doc.number ds b)

    -- behind a smaller number
    put-behind : (e : Document) (fs gs : List Document) → e.doc.number < d.doc.number →
        holder_of key fs ≡ least_of (own_number_of key d) (holder_of key gs) →
        holder_of key (e ∷ fs) ≡ least_of (own_number_of key d) (holder_of key (e ∷ gs))
    put-behind e fs gs less rest = by_key (is_key key e.doc.key)
      where
        by_key : (own : Bool) → cond own (Some e.doc.number) (holder_of key fs)
            ≡ least_of (own_number_of key d) (cond own (Some e.doc.number) (holder_of key gs))
        by_key true = least-other d.doc.number e.doc.number (is_key key d.doc.key) less
        by_key false = rest

    pub holder-with : (ds : List Document) → Ascend ds → holder_of key (with_document d ds)
        ≡ least_of (own_number_of key d) (holder_of key (without_document d.doc.number ds))
    holder-with [] s = put-first [] tt
    holder-with (e ∷ es) s = by_order (holder-with es s.1) (nat_cmp d.doc.number e.doc.number) refl
      where
        by_order : holder_of key (with_document d es) ≡ least_of (own_number_of key d)
            (holder_of key (without_document d.doc.number es)) → (r : Ordering) →
            nat_cmp d.doc.number e.doc.number ≡ r → holder_of key (with_document d (e ∷ es))
            ≡ least_of (own_number_of key d)
            (holder_of key (without_document d.doc.number (e ∷ es)))
        by_order rest Less h = ap (holder_of key) (with-Less d e es h)
            ∙ put-first (e ∷ es) (h, all-behind d.doc.number e.doc.number h es s.0)
            ∙ sym (ap (λ t. least_of (own_number_of key d) (holder_of key t))
            (without-Less d.doc.number e es h))
        by_order rest Equal h = ap (holder_of key) (with-Equal d e es h)
            ∙ put-first es (subst (λ k. IsBelow k es)
            (sym (exact_unsigned d.doc.number e.doc.number h)) s.0)
            ∙ sym (ap (λ t. least_of (own_number_of key d) (holder_of key t))
            (without-Equal d.doc.number e es h))
        by_order rest Greater h = ap (holder_of key) (with-Greater d e es h)
            ∙ put-behind e (with_document d es) (without_document d.doc.number es)
            (ranked d.doc.number e.doc.number Greater (sym h)) rest
            ∙ sym (ap (λ t. least_of (own_number_of key d) (holder_of key t))
            (without-Greater d.doc.number e es h))
