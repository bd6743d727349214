-- Places in order, and the documents that stand in them.
use Rattle.std.proofs.Common.{◌≡◌, ℕ, ◌+◌, suc, true, false, Option, Some, None, List, []}
use Rattle.std.proofs.Common.{◌∷◌, map, length, refl, ap, ◌∙◌, sym, subst, arith, is_some, IsSome}
use Rattle.std.proofs.Common.{true≢false}
use Rattle.std.specs.Option.{IfSome, option_flatten, option_map}
use Rattle.std.specs.List.{AllByRecursion, sum_by}
use Rattle.std.specs.List.Sorted.{IsStrictlySortedBy}
use Rattle.std.specs.Cmp.{nat_cmp_total}
use Rattle.std.specs.Ordering.{nat_cmp, match_ordering, is_eq}
use Rattle.std.specs.declared.cmp.Ordering.{Ordering}
use Rattle.std.specs.declared.cmp.Ordering.TheVariants.{Less, Equal, Greater}
use Rattle.std.specs.Map.{keys_of, values_of, lookup, set_value, remove_entry}
use Rattle.std.specs.BTreeMap.{is_at, insert_entry}
use Rattle.std.proofs.lemmas.Bool.{cond-true, cond-false, cond_both}
use Rattle.std.proofs.lemmas.List.Sums.{sum_by-cons}
use Rattle.std.proofs.lemmas.Map.{lookup-none}
use Rattle.std.proofs.lemmas.Map.Keys.{sorted_head, sorted_tail, IsStrictlyIncreasing-from_sorted}
use Rattle.std.proofs.lemmas.Map.Entries.{lookup_head, lookup_tail, none_below_head}
use Rattle.std.proofs.lemmas.Map.Lookups.{exact_unsigned}
use Rattle.reg_base.specs.declared.records.Document.{Document}
use Rattle.reg_base.specs.Documents.{document_at, with_document, without_document, AreInOrder}
use Rattle.doc_store.specs.Kept.{with_first, documents_of, AreNumbered, lack}

-- ---- one document against a number

module _ (n : ℕ) (d : Document) (ds : List Document) where
  pub at-Less : nat_cmp n d.doc.number ≡ Less → document_at n (d ∷ ds) ≡ None
  at-Less h = ap (λ r. match_ordering r None (Some d) (document_at n ds)) h

  pub at-Equal : nat_cmp n d.doc.number ≡ Equal → document_at n (d ∷ ds) ≡ Some d
  at-Equal h = ap (λ r. match_ordering r None (Some d) (document_at n ds)) h

  pub at-Greater : nat_cmp n d.doc.number ≡ Greater → document_at n (d ∷ ds) ≡ document_at n ds
  at-Greater h = ap (λ r. match_ordering r None (Some d) (document_at n ds)) h

  pub without-Less : nat_cmp n d.doc.number ≡ Less → without_document n (d ∷ ds) ≡ d ∷ ds
  without-Less h = ap (λ r. match_ordering r (d ∷ ds) ds (d ∷ without_document n ds)) h

  pub without-Equal : nat_cmp n d.doc.number ≡ Equal → without_document n (d ∷ ds) ≡ ds
  without-Equal h = ap (λ r. match_ordering r (d ∷ ds) ds (d ∷ without_document n ds)) h

  pub without-Greater : nat_cmp n d.doc.number ≡ Greater →
      without_document n (d ∷ ds) ≡ d ∷ without_document n ds
  without-Greater h = ap (λ r. match_ordering r (d ∷ ds) ds (d ∷ without_document n ds)) h

module _ (d e : Document) (es : List Document) where
  pub with-Less : nat_cmp d.doc.number e.doc.number ≡ Less → with_document d (e ∷ es) ≡ d ∷ e ∷ es
  with-Less h = ap (λ r. match_ordering r (d ∷ e ∷ es) (d ∷ es) (e ∷ with_document d es)) h

  pub with-Equal : nat_cmp d.doc.number e.doc.number ≡ Equal → with_document d (e ∷ es) ≡ d ∷ es
  with-Equal h = ap (λ r. match_ordering r (d ∷ e ∷ es) (d ∷ es) (e ∷ with_document d es)) h

  pub with-Greater : nat_cmp d.doc.number e.doc.number ≡ Greater →
      with_document d (e ∷ es) ≡ e ∷ with_document d es
  with-Greater h = ap (λ r. match_ordering r (d ∷ e ∷ es) (d ∷ es) (e ∷ with_document d es)) h

-- ---- a number below all documents

-- a number is below those of all documents
abbrev pub IsBelow : ℕ → List Document → Type 0
IsBelow n ds = AllByRecursion (λ d. nat_cmp n d.doc.number ≡ Less) ds

pub document_at-below : (n : ℕ) (ds : List Document) → IsBelow n ds → document_at n ds ≡ None
document_at-below n [] b = refl
document_at-below n (d ∷ ds) b = at-Less n d ds b.0

pub without_document-below : (n : ℕ) (ds : List Document) → IsBelow n ds →
    without_document n ds ≡ ds
without_document-below n [] b = refl
without_document-below n (d ∷ ds) b = without-Less n d ds b.0

pub with_document-below : (d : Document) (ds : List Document) → IsBelow d.doc.number ds →
    with_document d ds ≡ d ∷ ds
with_document-below d [] b = refl
with_document-below d (e ∷ es) b = with-Less d e es b.0

-- ---- the documents of places

-- a document stands at its number
abbrev pub IsAt : ℕ → Option Document → Type 0
IsAt k v = IfSome v (λ d. d.doc.number ≡ k)

below-first : (n k : ℕ) (v : Option Document) (ds : List Document) → IsAt k v →
    nat_cmp n k ≡ Less → IsBelow n ds → IsBelow n (with_first v ds)
below-first n k None ds a l b = b
below-first n k (Some d) ds a l b = (subst (λ m. nat_cmp n m ≡ Less) (sym a) l, b)

-- a number below all places is below their documents
below-documents : (n : ℕ) (es : List (ℕ × Option Document)) → AreNumbered es →
    AllByRecursion (λ k. nat_cmp n k ≡ Less) (keys_of es) → IsBelow n (documents_of es)
below-documents n [] a b = tt
below-documents n (e ∷ es) a b =
    below-first n e.0 e.1 (documents_of es) a.0 b.0 (below-documents n es a.1 b.1)

each-trans : (n k : ℕ) → nat_cmp n k ≡ Less → (ks : List ℕ) →
    AllByRecursion (λ y. nat_cmp k y ≡ Less) ks → AllByRecursion (λ y. nat_cmp n y ≡ Less) ks
each-trans n k h [] b = tt
each-trans n k h (y ∷ ks) b = (nat_cmp_total.trans n k y h b.0, each-trans n k h ks b.1)

module _ (e : ℕ × Option Document) (es : List (ℕ × Option Document))
    (sorted : IsStrictlySortedBy nat_cmp (keys_of (e ∷ es))) (a : AreNumbered (e ∷ es)) where
  -- the documents behind the first place have greater numbers
  pub behind : IsBelow e.0 (documents_of es)
  behind = below-documents e.0 es a.1 (sorted_head nat_cmp e.0 (keys_of es) sorted)

  -- a number at the first place is below the documents behind it
  below-Equal : (n : ℕ) → nat_cmp n e.0 ≡ Equal → IsBelow n (documents_of es)
  below-Equal n h = subst (λ m. IsBelow m (documents_of es)) (sym (exact_unsigned n e.0 h)) behind

  -- a number below the first place
  behind-Less : (n : ℕ) → nat_cmp n e.0 ≡ Less → IsBelow n (documents_of es)
  behind-Less n h = below-documents n es a.1
      (each-trans n e.0 h (keys_of es) (sorted_head nat_cmp e.0 (keys_of es) sorted))

  below-Less : (n : ℕ) → nat_cmp n e.0 ≡ Less → IsBelow n (documents_of (e ∷ es))
  below-Less n h = below-first n e.0 e.1 (documents_of es) a.0 h (behind-Less n h)

-- ---- a number at the first place, or above it

module _ (n k : ℕ) (ds : List Document) where
  first-at-Equal : (v : Option Document) → IsAt k v → nat_cmp n k ≡ Equal → IsBelow n ds →
      document_at n (with_first v ds) ≡ v
  first-at-Equal None a h b = document_at-below n ds b
  first-at-Equal (Some d) a h b = at-Equal n d ds (subst (λ m. nat_cmp n m ≡ Equal) (sym a) h)

  first-at-Greater : (v : Option Document) → IsAt k v → nat_cmp n k ≡ Greater →
      document_at n (with_first v ds) ≡ document_at n ds
  first-at-Greater None a h = refl
  first-at-Greater (Some d) a h = at-Greater n d ds (subst (λ m. nat_cmp n m ≡ Greater) (sym a) h)

  first-without-Equal : (v : Option Document) → IsAt k v → nat_cmp n k ≡ Equal → IsBelow n ds →
      without_document n (with_first v ds) ≡ ds
  first-without-Equal None a h b = without_document-below n ds b
  first-without-Equal (Some d) a h b =
      without-Equal n d ds (subst (λ m. nat_cmp n m ≡ Equal) (sym a) h)

  first-without-Greater : (v : Option Document) → IsAt k v → nat_cmp n k ≡ Greater →
      without_document n (with_first v ds) ≡ with_first v (without_document n ds)
  first-without-Greater None a h = refl
  first-without-Greater (Some d) a h =
      without-Greater n d ds (subst (λ m. nat_cmp n m ≡ Greater) (sym a) h)

module _ (d : Document) (k : ℕ) (ds : List Document) where
  first-with-Equal : (v : Option Document) → IsAt k v → nat_cmp d.doc.number k ≡ Equal →
      IsBelow d.doc.number ds → with_document d (with_first v ds) ≡ d ∷ ds
  first-with-Equal None a h b = with_document-below d ds b
  first-with-Equal (Some e) a h b =
      with-Equal d e ds (subst (λ m. nat_cmp d.doc.number m ≡ Equal) (sym a) h)

  first-with-Greater : (v : Option Document) → IsAt k v → nat_cmp d.doc.number k ≡ Greater →
      with_document d (with_first v ds) ≡ with_first v (with_document d ds)
  first-with-Greater None a h = refl
  first-with-Greater (Some e) a h =
      with-Greater d e ds (subst (λ m. nat_cmp d.doc.number m ≡ Greater) (sym a) h)

-- ---- the look-up among places is the one among documents

pub document_at-documents_of : (n : ℕ) (es : List (ℕ × Option Document)) →
    IsStrictlySortedBy nat_cmp (keys_of es) → AreNumbered es →
    document_at n (documents_of es) ≡ option_flatten (lookup (is_at (nat_cmp n)) es)
document_at-documents_of n [] s a = refl
document_at-documents_of n (e ∷ es) s a = by_order
    (document_at-documents_of n es (sorted_tail nat_cmp e.0 (keys_of es) s) a.1)
    (nat_cmp n e.0) refl
  where
    by_order : document_at n (documents_of es)
        ≡ option_flatten (lookup (is_at (nat_cmp n)) es) → (r : Ordering) → nat_cmp n e.0 ≡ r →
        document_at n (documents_of (e ∷ es))
        ≡ option_flatten (lookup (is_at (nat_cmp n)) (e ∷ es))
    by_order rest Less h = document_at-below n (documents_of (e ∷ es)) (below-Less e es s a n h)
        ∙ sym (ap option_flatten (lookup-none (is_at (nat_cmp n)) (e ∷ es)
        (none_below_head nat_cmp_total n e es s h)))
    by_order rest Equal h =
        first-at-Equal n e.0 (documents_of es) e.1 a.0 h (below-Equal e es s a n h)
        ∙ sym (ap option_flatten (lookup_head (is_at (nat_cmp n)) e es (ap is_eq h)))
    by_order rest Greater h = first-at-Greater n e.0 (documents_of es) e.1 a.0 h ∙ rest
        ∙ sym (ap option_flatten (lookup_tail (is_at (nat_cmp n)) e es (ap is_eq h)))

-- ---- a document put into its place

module _ (d : Document) where
  pub documents_of-set_value : (es : List (ℕ × Option Document)) →
      IsStrictlySortedBy nat_cmp (keys_of es) → AreNumbered es →
      IsSome (lookup (is_at (nat_cmp d.doc.number)) es) →
      documents_of (set_value (is_at (nat_cmp d.doc.number)) es (Some d))
      ≡ with_document d (documents_of es)
  documents_of-set_value [] s a found = absurd (true≢false (sym found))
  documents_of-set_value (e ∷ es) s a found = by_order (λ found.
      documents_of-set_value es (sorted_tail nat_cmp e.0 (keys_of es) s) a.1 found)
      (nat_cmp d.doc.number e.0) refl
    where
      put-head : is_eq (nat_cmp d.doc.number e.0) ≡ true →
          set_value (is_at (nat_cmp d.doc.number)) (e ∷ es) (Some d) ≡ (e.0, Some d) ∷ es
      put-head h = cond-true _ _ _ h

      put-tail : is_eq (nat_cmp d.doc.number e.0) ≡ false →
          set_value (is_at (nat_cmp d.doc.number)) (e ∷ es) (Some d)
          ≡ e ∷ set_value (is_at (nat_cmp d.doc.number)) es (Some d)
      put-tail h = cond-false _ _ _ h

      by_order : (IsSome (lookup (is_at (nat_cmp d.doc.number)) es) →
          documents_of (set_value (is_at (nat_cmp d.doc.number)) es (Some d))
          ≡ with_document d (documents_of es)) → (r : Ordering) → nat_cmp d.doc.number e.0 ≡ r →
          documents_of (set_value (is_at (nat_cmp d.doc.number)) (e ∷ es) (Some d))
          ≡ with_document d (documents_of (e ∷ es))
      by_order rest Less h = absurd (true≢false (sym (subst IsSome
          (lookup-none (is_at (nat_cmp d.doc.number)) (e ∷ es)
          (none_below_head nat_cmp_total d.doc.number e es s h)) found)))
      by_order rest Equal h = ap documents_of (put-head (ap is_eq h))
          ∙ sym (first-with-Equal d e.0 (documents_of es) e.1 a.0 h
          (below-Equal e es s a d.doc.number h))
      by_order rest Greater h = ap documents_of (put-tail (ap is_eq h))
          ∙ ap (with_first e.1) (rest (subst IsSome
          (lookup_tail (is_at (nat_cmp d.doc.number)) e es (ap is_eq h)) found))
          ∙ sym (first-with-Greater d e.0 (documents_of es) e.1 a.0 h)

  -- each document still stands at its number
  pub AreNumbered-set_value : (es : List (ℕ × Option Document)) → AreNumbered es →
      AreNumbered (set_value (is_at (nat_cmp d.doc.number)) es (Some d))
  AreNumbered-set_value [] a = tt
  AreNumbered-set_value (e ∷ es) a = by_order (AreNumbered-set_value es a.1)
      (nat_cmp d.doc.number e.0) refl
    where
      by_order : AreNumbered (set_value (is_at (nat_cmp d.doc.number)) es (Some d)) →
          (r : Ordering) → nat_cmp d.doc.number e.0 ≡ r →
          AreNumbered (set_value (is_at (nat_cmp d.doc.number)) (e ∷ es) (Some d))
      by_order rest Less h = subst AreNumbered (sym (cond-false _ _ _ (ap is_eq h))) (a.0, rest)
      by_order rest Equal h = subst AreNumbered (sym (cond-true _ _ _ (ap is_eq h)))
          (exact_unsigned d.doc.number e.0 h, a.1)
      by_order rest Greater h = subst AreNumbered (sym (cond-false _ _ _ (ap is_eq h))) (a.0, rest)

-- ---- a place taken out

module _ (n : ℕ) where
  pub documents_of-remove_entry : (es : List (ℕ × Option Document)) →
      IsStrictlySortedBy nat_cmp (keys_of es) → AreNumbered es →
      documents_of (remove_entry (is_at (nat_cmp n)) es) ≡ without_document n (documents_of es)
  documents_of-remove_entry [] s a = refl
  documents_of-remove_entry (e ∷ es) s a = by_order
      (documents_of-remove_entry es (sorted_tail nat_cmp e.0 (keys_of es) s) a.1)
      (nat_cmp n e.0) refl
    where
      by_order : documents_of (remove_entry (is_at (nat_cmp n)) es)
          ≡ without_document n (documents_of es) → (r : Ordering) → nat_cmp n e.0 ≡ r →
          documents_of (remove_entry (is_at (nat_cmp n)) (e ∷ es))
          ≡ without_document n (documents_of (e ∷ es))
      by_order rest Less h = ap documents_of (cond-false _ _ _ (ap is_eq h))
          ∙ ap (with_first e.1) (rest ∙ without_document-below n (documents_of es)
          (behind-Less e es s a n h))
          ∙ sym (without_document-below n (documents_of (e ∷ es)) (below-Less e es s a n h))
      by_order rest Equal h = ap documents_of (cond-true _ _ _ (ap is_eq h))
          ∙ sym (first-without-Equal n e.0 (documents_of es) e.1 a.0 h
          (below-Equal e es s a n h))
      by_order rest Greater h = ap documents_of (cond-false _ _ _ (ap is_eq h))
          ∙ ap (with_first e.1) rest
          ∙ sym (first-without-Greater n e.0 (documents_of es) e.1 a.0 h)

  pub AreNumbered-remove_entry : (es : List (ℕ × Option Document)) → AreNumbered es →
      AreNumbered (remove_entry (is_at (nat_cmp n)) es)
  AreNumbered-remove_entry [] a = tt
  AreNumbered-remove_entry (e ∷ es) a = cond_both (is_at (nat_cmp n) e.0) es
      (e ∷ remove_entry (is_at (nat_cmp n)) es) AreNumbered (λ _. a.1)
      (λ _. (a.0, AreNumbered-remove_entry es a.1))

  -- ---- an empty place made

  pub documents_of-insert_entry : (es : List (ℕ × Option Document)) →
      lookup (is_at (nat_cmp n)) es ≡ None →
      documents_of (insert_entry nat_cmp es n None) ≡ documents_of es
  documents_of-insert_entry [] none = refl
  documents_of-insert_entry (e ∷ es) none = by_order (λ none. documents_of-insert_entry es none)
      (nat_cmp n e.0) refl
    where
      by_order : (lookup (is_at (nat_cmp n)) es ≡ None →
          documents_of (insert_entry nat_cmp es n None) ≡ documents_of es) → (r : Ordering) →
          nat_cmp n e.0 ≡ r →
          documents_of (insert_entry nat_cmp (e ∷ es) n None) ≡ documents_of (e ∷ es)
      by_order rest Less h = ap (λ r. documents_of (match_ordering r ((n, None) ∷ e ∷ es)
          ((e.0, None) ∷ es) (e ∷ insert_entry nat_cmp es n None))) h
      by_order rest Equal h = absurd (true≢false (ap is_some
          (sym (lookup_head (is_at (nat_cmp n)) e es (ap is_eq h)) ∙ none)))
      by_order rest Greater h = ap (λ r. documents_of (match_ordering r ((n, None) ∷ e ∷ es)
          ((e.0, None) ∷ es) (e ∷ insert_entry nat_cmp es n None))) h
          ∙ ap (with_first e.1)
          (rest (sym (lookup_tail (is_at (nat_cmp n)) e es (ap is_eq h)) ∙ none))

  pub AreNumbered-insert_entry : (es : List (ℕ × Option Document)) → AreNumbered es →
      AreNumbered (insert_entry nat_cmp es n None)
  AreNumbered-insert_entry [] a = (tt, tt)
  AreNumbered-insert_entry (e ∷ es) a = by_order (AreNumbered-insert_entry es a.1) (nat_cmp n e.0)
    where
      by_order : AreNumbered (insert_entry nat_cmp es n None) → (r : Ordering) →
          AreNumbered (match_ordering r ((n, None) ∷ e ∷ es) ((e.0, None) ∷ es)
          (e ∷ insert_entry nat_cmp es n None))
      by_order rest Less = (tt, a)
      by_order rest Equal = (tt, a.1)
      by_order rest Greater = (a.0, rest)

-- ---- how many there are, and in which order

length-first : (v : Option Document) (ds : List Document) →
    length (with_first v ds) + lack v ≡ suc (length ds)
length-first None ds = omega arith
length-first (Some d) ds = omega arith

pub length-documents_of : (es : List (ℕ × Option Document)) →
    length (documents_of es) + sum_by lack (values_of es) ≡ length es
length-documents_of [] = refl
length-documents_of (e ∷ es) =
    let one = length-first e.1 (documents_of es) in
    let rest = length-documents_of es in
    let more = sum_by-cons lack e.1 (values_of es) in
    omega (arith, one, rest, more)

sorted-first : (k : ℕ) (v : Option Document) (ds : List Document) → IsAt k v → IsBelow k ds →
    IsStrictlySortedBy nat_cmp (map (λ d. d.doc.number) ds) →
    IsStrictlySortedBy nat_cmp (map (λ d. d.doc.number) (with_first v ds))
unfolding IsStrictlySortedBy
sorted-first k None ds a b s = s
sorted-first k (Some d) ds a b s = (
  each-number d.doc.number ds
      (subst (λ m. IsBelow m ds) (sym a) b),
  s,
)
  where
    each-number : (n : ℕ) (ds : List Document) → IsBelow n ds →
        AllByRecursion (λ y. nat_cmp n y ≡ Less) (map (λ d. d.doc.number) ds)
    each-number n [] b = tt
    each-number n (d ∷ ds) b = (b.0, each-number n ds b.1)

sorted-documents : (es : List (ℕ × Option Document)) → IsStrictlySortedBy nat_cmp (keys_of es) →
    AreNumbered es → IsStrictlySortedBy nat_cmp (map (λ d. d.doc.number) (documents_of es))
unfolding IsStrictlySortedBy
sorted-documents [] s a = tt
sorted-documents (e ∷ es) s a = sorted-first e.0 e.1 (documents_of es) a.0 (behind e es s a)
    (sorted-documents es (sorted_tail nat_cmp e.0 (keys_of es) s) a.1)

pub documents-in-order : (es : List (ℕ × Option Document)) →
    IsStrictlySortedBy nat_cmp (keys_of es) → AreNumbered es → AreInOrder (documents_of es)
documents-in-order es s a = IsStrictlyIncreasing-from_sorted _ (sorted-documents es s a)

-- ---- a number that no document has

pub is_none-mapped : (o : Option Document) → option_map (λ d. d.doc.key) o ≡ None → o ≡ None
is_none-mapped None h = refl
is_none-mapped (Some d) h = absurd (true≢false (ap is_some h))

pub without_document-absent : (n : ℕ) (ds : List Document) → document_at n ds ≡ None →
    without_document n ds ≡ ds
without_document-absent n [] none = refl
without_document-absent n (d ∷ ds) none = by_order (λ none. without_document-absent n ds none)
    (nat_cmp n d.doc.number) refl
  where
    by_order : (document_at n ds ≡ None → without_document n ds ≡ ds) → (r : Ordering) →
        nat_cmp n d.doc.number ≡ r → without_document n (d ∷ ds) ≡ d ∷ ds
    by_order rest Less h = without-Less n d ds h
    by_order rest Equal h = absurd (true≢false (ap is_some (sym (at-Equal n d ds h) ∙ none)))
    by_order rest Greater h = without-Greater n d ds h
        ∙ ap (λ t. d ∷ t) (rest (sym (at-Greater n d ds h) ∙ none))
