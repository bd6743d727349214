-- Documents in order of number, with one put or taken out: how many there are, how many records
-- they have, and what holds of each.
use Rattle.std.proofs.Common.{◌≡◌, ℕ, ◌+◌, ◌<◌, ◌≤◌, Some, None, is_none, cond, List, [], ◌∷◌}
use Rattle.std.proofs.Common.{length, All, refl, ap, ◌∙◌, sym, subst, arith}
use Rattle.std.proofs.lemmas.List.Elements.{All-head, All-tail, All-cons}
use Rattle.std.proofs.lemmas.List.Sums.{sum_by-cons}
use Rattle.std.specs.Ordering.{match_ordering, nat_cmp}
use Rattle.std.specs.declared.cmp.Ordering.{Ordering}
use Rattle.std.specs.declared.cmp.Ordering.TheVariants.{Less, Equal, Greater}
use Rattle.std.proofs.lemmas.Map.Lookups.{exact_unsigned}
use Rattle.reg_base.specs.declared.records.Document.{Document}
use Rattle.reg_base.specs.Documents.{document_at, with_document, without_document}
use Rattle.desk_model.specs.Limits.{record_count, records_in, records_before}

-- ---- a document at its number

-- the document at a number has it
pub number-at : (n : ℕ) (ds : List Document) (d : Document) → document_at n ds ≡ Some d →
    d.doc.number ≡ n
number-at n [] d found = cc
number-at n (e ∷ es) d found = at (nat_cmp n e.doc.number) refl (number-at n es d) found
  where
    at : (r : Ordering) → nat_cmp n e.doc.number ≡ r →
        (document_at n es ≡ Some d → d.doc.number ≡ n) →
        match_ordering r None (Some e) (document_at n es) ≡ Some d → d.doc.number ≡ n
    at Less is rest h = cc
    at Equal is rest h = let same : e ≡ d = cc in
        ap (λ (x : Document). x.doc.number) (sym same) ∙ sym (exact_unsigned n e.doc.number is)
    at Greater is rest h = rest h

-- what holds of each document holds of the one at a number
pub All-at : (P : Document → Type 0) (n : ℕ) (ds : List Document) (d : Document) → All P ds →
    document_at n ds ≡ Some d → P d
All-at P n [] d all found = cc
All-at P n (e ∷ es) d all found =
    at (nat_cmp n e.doc.number) (All-at P n es d (All-tail P e es all)) found
  where
    at : (r : Ordering) → (document_at n es ≡ Some d → P d) →
        match_ordering r None (Some e) (document_at n es) ≡ Some d → P d
    at Less rest h = cc
    at Equal rest h = let same : e ≡ d = cc in subst P same (All-head P e es all)
    at Greater rest h = rest h

-- no document has a number above all
pub absent-above : (top n : ℕ) (ds : List Document) → All (λ d. d.doc.number ≤ top) ds → top < n →
    document_at n ds ≡ None
absent-above top n [] all above = refl
absent-above top n (e ∷ es) all above =
    let P : Document → Type 0 = λ d. d.doc.number ≤ top in
    at (nat_cmp n e.doc.number) refl (All-head P e es all)
    (absent-above top n es (All-tail P e es all) above)
  where
    at : (r : Ordering) → nat_cmp n e.doc.number ≡ r → e.doc.number ≤ top →
        document_at n es ≡ None → match_ordering r None (Some e) (document_at n es) ≡ None
    at Less is low rest = refl
    at Equal is low rest =
        let same : n ≡ e.doc.number = exact_unsigned n e.doc.number is in
        absurd (omega (arith, same, low, above))
    at Greater is low rest = rest

-- ---- sums

records-cons : (d : Document) (ds : List Document) → records_in (d ∷ ds)
    ≡ record_count d + records_in ds
records-cons d ds = sum_by-cons record_count d ds

sum-before : (t d r : ℕ) → t ≡ d + r → t + 0 ≡ r + d
sum-before t d r is = omega (arith, is)

sum-instead : (t u d e r : ℕ) → t ≡ d + r → u ≡ e + r → t + e ≡ u + d
sum-instead t u d e r is others = omega (arith, is, others)

sum-behind : (t u e w o r a : ℕ) → t ≡ e + w → u ≡ e + r → w + o ≡ r + a → t + o ≡ u + a
sum-behind t u e w o r a is others rest = omega (arith, is, others, rest)

add-none : (a : ℕ) → a + 0 ≡ a
add-none a = omega arith

add-front : (u e r : ℕ) → u ≡ e + r → r + e ≡ u
add-front u e r is = omega (arith, is)

sum-left : (t u e w o r : ℕ) → t ≡ e + w → u ≡ e + r → w + o ≡ r → t + o ≡ u
sum-left t u e w o r is others rest = omega (arith, is, others, rest)

-- ---- a document put

module _ (d : Document) where
  -- the records with it, and those of the one whose place it takes
  pub records-with : (ds : List Document) → records_in (with_document d ds)
      + records_before (document_at d.doc.number ds) ≡ records_in ds + record_count d
  records-with [] = omega arith
  records-with (e ∷ es) = at (nat_cmp d.doc.number e.doc.number) (records-with es)
    where
      at : (r : Ordering) → records_in (with_document d es)
          + records_before (document_at d.doc.number es) ≡ records_in es + record_count d →
          records_in (match_ordering r (d ∷ e ∷ es) (d ∷ es) (e ∷ with_document d es))
          + records_before (match_ordering r None (Some e) (document_at d.doc.number es))
          ≡ records_in (e ∷ es) + record_count d
      at Less rest = sum-before (records_in (d ∷ e ∷ es)) (record_count d) (records_in (e ∷ es))
          (records-cons d (e ∷ es))
      at Equal rest = sum-instead (records_in (d ∷ es)) (records_in (e ∷ es)) (record_count d)
          (record_count e) (records_in es) (records-cons d es) (records-cons e es)
      at Greater rest = sum-behind (records_in (e ∷ with_document d es)) (records_in (e ∷ es))
          (record_count e) (records_in (with_document d es))
          (records_before (document_at d.doc.number es)) (records_in es) (record_count d)
          (records-cons e (with_document d es)) (records-cons e es) rest

  -- one more where there was none of its number
  pub length-with : (ds : List Document) → length (with_document d ds)
      ≡ length ds + cond (is_none (document_at d.doc.number ds)) 1 0
  length-with [] = refl
  length-with (e ∷ es) = at (nat_cmp d.doc.number e.doc.number) (length-with es)
    where
      at : (r : Ordering) → length (with_document d es)
          ≡ length es + cond (is_none (document_at d.doc.number es)) 1 0 →
          length (match_ordering r (d ∷ e ∷ es) (d ∷ es) (e ∷ with_document d es))
          ≡ length (e ∷ es) + cond (is_none (match_ordering r None (Some e)
          (document_at d.doc.number es))) 1 0
      at Less rest = omega arith
      at Equal rest = omega arith
      at Greater rest = omega (arith, rest)

  pub All-with : (P : Document → Type 0) (ds : List Document) → P d → All P ds →
      All P (with_document d ds)
  All-with P [] own all = All-cons P d [] own all
  All-with P (e ∷ es) own all =
      at (nat_cmp d.doc.number e.doc.number) (All-with P es own (All-tail P e es all))
    where
      at : (r : Ordering) → All P (with_document d es) →
          All P (match_ordering r (d ∷ e ∷ es) (d ∷ es) (e ∷ with_document d es))
      at Less rest = All-cons P d (e ∷ es) own all
      at Equal rest = All-cons P d es own (All-tail P e es all)
      at Greater rest = All-cons P e (with_document d es) (All-head P e es all) rest

-- ---- a document taken out

module _ (n : ℕ) where
  pub records-without : (ds : List Document) → records_in (without_document n ds)
      + records_before (document_at n ds) ≡ records_in ds
  records-without [] = refl
  records-without (e ∷ es) = at (nat_cmp n e.doc.number) (records-without es)
    where
      at : (r : Ordering) → records_in (without_document n es)
          + records_before (document_at n es) ≡ records_in es →
          records_in (match_ordering r (e ∷ es) es (e ∷ without_document n es))
          + records_before (match_ordering r None (Some e) (document_at n es))
          ≡ records_in (e ∷ es)
      at Less rest = add-none (records_in (e ∷ es))
      at Equal rest = add-front (records_in (e ∷ es)) (record_count e) (records_in es)
          (records-cons e es)
      at Greater rest = sum-left (records_in (e ∷ without_document n es)) (records_in (e ∷ es))
          (record_count e) (records_in (without_document n es))
          (records_before (document_at n es)) (records_in es)
          (records-cons e (without_document n es)) (records-cons e es) rest

  pub length-without : (ds : List Document) → length (without_document n ds) ≤ length ds
  length-without [] = omega arith
  length-without (e ∷ es) = at (nat_cmp n e.doc.number) (length-without es)
    where
      at : (r : Ordering) → length (without_document n es) ≤ length es →
          length (match_ordering r (e ∷ es) es (e ∷ without_document n es)) ≤ length (e ∷ es)
      at Less rest = omega arith
      at Equal rest = omega arith
      at Greater rest = omega (arith, rest)

  pub All-without : (P : Document → Type 0) (ds : List Document) → All P ds →
      All P (without_document n ds)
  All-without P [] all = all
  All-without P (e ∷ es) all =
      at (nat_cmp n e.doc.number) (All-without P es (All-tail P e es all))
    where
      at : (r : Ordering) → All P (without_document n es) →
          All P (match_ordering r (e ∷ es) es (e ∷ without_document n es))
      at Less rest = all
      at Equal rest = All-tail P e es all
      at Greater rest = All-cons P e (without_document n es) (All-head P e es all) rest
