-- Documents in order, with one put or taken out.
use Rattle.std.proofs.Common.{◌≡◌, ◌≢◌, ℕ, Option, Some, None, List, [], ◌∷◌}
use Rattle.std.proofs.Common.{refl, ap, ◌∙◌, sym, subst}
use Rattle.std.specs.Option.{IfSome, option_copied}
use Rattle.std.proofs.Common.{Bor}
use Rattle.std.specs.List.Sorted.{IsStrictlySortedBy}
use Rattle.std.specs.Cmp.{nat_cmp_total, nat_cmp_is}
use Rattle.std.specs.Ordering.{nat_cmp}
use Rattle.std.specs.declared.cmp.Ordering.{Ordering}
use Rattle.std.specs.declared.cmp.Ordering.TheVariants.{Less, Equal, Greater}
use Rattle.std.specs.Map.{keys_of}
use Rattle.std.proofs.lemmas.Map.Keys.{sorted_tail}
use Rattle.std.proofs.lemmas.Map.Lookups.{exact_unsigned}
use Rattle.reg_base.specs.declared.records.Document.{Document}
use Rattle.reg_base.specs.Documents.{document_at, with_document, without_document}
use Rattle.doc_store.specs.Kept.{with_first, documents_of, AreNumbered}
use Rattle.doc_store.proofs.PlaceLemmas.{IsBelow, document_at-below, behind, IsAt}
use Rattle.doc_store.proofs.PlaceLemmas.{at-Less, at-Equal, at-Greater}
use Rattle.doc_store.proofs.PlaceLemmas.{with-Less, with-Equal, with-Greater}
use Rattle.doc_store.proofs.PlaceLemmas.{without-Less, without-Equal, without-Greater}

-- each document has a number below those behind it
abbrev pub Ascend : List Document → Type 0
Ascend [] = Unit
Ascend (d ∷ ds) = IsBelow d.doc.number ds × Ascend ds

ascend-first : (k : ℕ) (v : Option Document) (ds : List Document) → IsAt k v → IsBelow k ds →
    Ascend ds → Ascend (with_first v ds)
ascend-first k None ds a b s = s
ascend-first k (Some d) ds a b s = (subst (λ m. IsBelow m ds) (sym a) b, s)

pub documents-ascend : (es : List (ℕ × Option Document)) →
    IsStrictlySortedBy nat_cmp (keys_of es) → AreNumbered es → Ascend (documents_of es)
documents-ascend [] s a = tt
documents-ascend (e ∷ es) s a = ascend-first e.0 e.1 (documents_of es) a.0 (behind e es s a)
    (documents-ascend es (sorted_tail nat_cmp e.0 (keys_of es) s) a.1)

pub nat_cmp-itself : (n : ℕ) → nat_cmp n n ≡ Equal
nat_cmp-itself n = sym (nat_cmp_is n n Equal refl)

-- behind the same document
same-first : (m : ℕ) (e : Document) (fs gs : List Document) →
    document_at m fs ≡ document_at m gs → (r : Ordering) → nat_cmp m e.doc.number ≡ r →
    document_at m (e ∷ fs) ≡ document_at m (e ∷ gs)
same-first m e fs gs rest Less h = at-Less m e fs h ∙ sym (at-Less m e gs h)
same-first m e fs gs rest Equal h = at-Equal m e fs h ∙ sym (at-Equal m e gs h)
same-first m e fs gs rest Greater h = at-Greater m e fs h ∙ rest ∙ sym (at-Greater m e gs h)

-- a number below one that is below all documents
pub below : (m : ℕ) (e : Document) (es : List Document) → nat_cmp m e.doc.number ≡ Less →
    IsBelow e.doc.number es → document_at m es ≡ None
below m e [] l b = refl
below m e (d ∷ ds) l b = at-Less m d ds (nat_cmp_total.trans m e.doc.number d.doc.number l b.0)

-- ---- a document put

module _ (d : Document) where
  pub at-own : (ds : List Document) → document_at d.doc.number (with_document d ds) ≡ Some d
  at-own [] = at-Equal d.doc.number d [] (nat_cmp-itself d.doc.number)
  at-own (e ∷ es) = by_order (at-own es) (nat_cmp d.doc.number e.doc.number) refl
    where
      by_order : document_at d.doc.number (with_document d es) ≡ Some d → (r : Ordering) →
          nat_cmp d.doc.number e.doc.number ≡ r →
          document_at d.doc.number (with_document d (e ∷ es)) ≡ Some d
      by_order rest Less h = ap (document_at d.doc.number) (with-Less d e es h)
          ∙ at-Equal d.doc.number d (e ∷ es) (nat_cmp-itself d.doc.number)
      by_order rest Equal h = ap (document_at d.doc.number) (with-Equal d e es h)
          ∙ at-Equal d.doc.number d es (nat_cmp-itself d.doc.number)
      by_order rest Greater h = ap (document_at d.doc.number) (with-Greater d e es h)
          ∙ at-Greater d.doc.number e (with_document d es) h ∙ rest

  module _ (m : ℕ) (other : m ≢ d.doc.number) where
    -- in front of documents behind it
    past : (ds : List Document) → (nat_cmp m d.doc.number ≡ Less → document_at m ds ≡ None) →
        (r : Ordering) → nat_cmp m d.doc.number ≡ r → document_at m (d ∷ ds) ≡ document_at m ds
    past ds before Less h = at-Less m d ds h ∙ sym (before h)
    past ds before Equal h = absurd (other (exact_unsigned m d.doc.number h))
    past ds before Greater h = at-Greater m d ds h

    -- in the place of a document of its number
    same-place : (e : Document) (ds : List Document) → d.doc.number ≡ e.doc.number →
        (r : Ordering) → nat_cmp m e.doc.number ≡ r →
        document_at m (d ∷ ds) ≡ document_at m (e ∷ ds)
    same-place e ds same Less h = at-Less m d ds (ap (nat_cmp m) same ∙ h) ∙ sym (at-Less m e ds h)
    same-place e ds same Equal h =
        absurd (other (exact_unsigned m e.doc.number h ∙ sym same))
    same-place e ds same Greater h = at-Greater m d ds (ap (nat_cmp m) same ∙ h)
        ∙ sym (at-Greater m e ds h)

    pub at-other : (ds : List Document) → document_at m (with_document d ds) ≡ document_at m ds
    at-other [] = past [] (λ _. refl) (nat_cmp m d.doc.number) refl
    at-other (e ∷ es) = by_order (at-other es) (nat_cmp d.doc.number e.doc.number) refl
      where
        by_order : document_at m (with_document d es) ≡ document_at m es → (r : Ordering) →
            nat_cmp d.doc.number e.doc.number ≡ r →
            document_at m (with_document d (e ∷ es)) ≡ document_at m (e ∷ es)
        by_order rest Less h = ap (document_at m) (with-Less d e es h)
            ∙ past (e ∷ es) (λ l. at-Less m e es
            (nat_cmp_total.trans m d.doc.number e.doc.number l h)) (nat_cmp m d.doc.number) refl
        by_order rest Equal h = ap (document_at m) (with-Equal d e es h)
            ∙ same-place e es (exact_unsigned d.doc.number e.doc.number h)
            (nat_cmp m e.doc.number) refl
        by_order rest Greater h = ap (document_at m) (with-Greater d e es h)
            ∙ same-first m e (with_document d es) es rest (nat_cmp m e.doc.number) refl

-- ---- a document taken out

module _ (n : ℕ) where
  pub at-removed : (ds : List Document) → Ascend ds → document_at n (without_document n ds) ≡ None
  at-removed [] s = refl
  at-removed (e ∷ es) s = by_order (at-removed es s.1) (nat_cmp n e.doc.number) refl
    where
      by_order : document_at n (without_document n es) ≡ None → (r : Ordering) →
          nat_cmp n e.doc.number ≡ r → document_at n (without_document n (e ∷ es)) ≡ None
      by_order rest Less h = ap (document_at n) (without-Less n e es h) ∙ at-Less n e es h
      by_order rest Equal h = ap (document_at n) (without-Equal n e es h)
          ∙ document_at-below n es
          (subst (λ k. IsBelow k es) (sym (exact_unsigned n e.doc.number h)) s.0)
      by_order rest Greater h = ap (document_at n) (without-Greater n e es h)
          ∙ at-Greater n e (without_document n es) h ∙ rest

  pub at-left : (m : ℕ) → m ≢ n → (ds : List Document) → Ascend ds →
      document_at m (without_document n ds) ≡ document_at m ds
  at-left m other [] s = refl
  at-left m other (e ∷ es) s = by_order (at-left m other es s.1) (nat_cmp n e.doc.number) refl
    where
      by_order : document_at m (without_document n es) ≡ document_at m es → (r : Ordering) →
          nat_cmp n e.doc.number ≡ r →
          document_at m (without_document n (e ∷ es)) ≡ document_at m (e ∷ es)
      by_order rest Less h = ap (document_at m) (without-Less n e es h)
      by_order rest Equal h = ap (document_at m) (without-Equal n e es h)
          ∙ sym (past e m (λ same. other (same ∙ sym (exact_unsigned n e.doc.number h))) es
          (λ l. below m e es l s.0) (nat_cmp m e.doc.number) refl)
      by_order rest Greater h = ap (document_at m) (without-Greater n e es h)
          ∙ same-first m e (without_document n es) es rest (nat_cmp m e.doc.number) refl

-- ---- a document that is found

document_at-number : (n : ℕ) (ds : List Document) →
    IfSome (document_at n ds) (λ d. d.doc.number ≡ n)
document_at-number n [] = tt
document_at-number n (d ∷ ds) = by_order (document_at-number n ds) (nat_cmp n d.doc.number) refl
  where
    by_order : IfSome (document_at n ds) (λ d. d.doc.number ≡ n) → (r : Ordering) →
        nat_cmp n d.doc.number ≡ r → IfSome (document_at n (d ∷ ds)) (λ d. d.doc.number ≡ n)
    by_order rest Less h = subst (λ o. IfSome o (λ d. d.doc.number ≡ n)) (sym (at-Less n d ds h)) tt
    by_order rest Equal h = subst (λ o. IfSome o (λ d. d.doc.number ≡ n))
        (sym (at-Equal n d ds h)) (sym (exact_unsigned n d.doc.number h))
    by_order rest Greater h = subst (λ o. IfSome o (λ d. d.doc.number ≡ n))
        (sym (at-Greater n d ds h)) rest

-- what is found has the number that was asked for
pub found-number : (n : ℕ) (ds : List Document) (r : Option (Bor Document)) →
    option_copied r ≡ document_at n ds → IfSome r (λ d. d.now.doc.number ≡ n)
found-number n ds None e = tt
found-number n ds (Some d) e =
    subst (λ o. IfSome o (λ d. d.doc.number ≡ n)) (sym e) (document_at-number n ds)
