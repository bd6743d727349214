-- Documents of a range of dates, in order of their points.
use Rattle.std.proofs.Common.{◌≡◌, ℕ, Bool, true, false, cond, List, [], ◌∷◌, ◌++◌, map, refl, ap}
use Rattle.std.proofs.Common.{◌∙◌, sym, IsPermutation, IsSorted}
use Rattle.std.specs.List.{filter}
use Rattle.reg_base.specs.declared.point.Point.{Point}
use Rattle.reg_base.specs.declared.records.Document.{Document}
use Rattle.reg_base.specs.Documents.{document_point, document_cmp, documents_between}
use Rattle.reg_base.specs.Points.{point_cmp}
use Rattle.reg_base.specs.Records.{in_order}
use Rattle.reg_base.proofs.ForAbove.{point_cmp_total, point_cmp_exact, in_order-permutation}
use Rattle.reg_base.proofs.ForAbove.{in_order-sorted, in_order-map}
use Rattle.doc_store.specs.Dates.{is_between}

pub between-append : (from to : ℕ) (xs ys : List Document)
    → map document_point (filter (is_between from to) (xs ++ ys))
    ≡ map document_point (filter (is_between from to) xs)
    ++ map document_point (filter (is_between from to) ys)
between-append from to [] ys = refl
between-append from to (x ∷ xs) ys = at (is_between from to x) (between-append from to xs ys)
  where
    here : List Document → List Point
    here ds = map document_point (filter (is_between from to) ds)

    at : (b : Bool) → here (xs ++ ys) ≡ here xs ++ here ys
        → map document_point (cond b (x ∷ filter (is_between from to) (xs ++ ys))
        (filter (is_between from to) (xs ++ ys)))
        ≡ map document_point (cond b (x ∷ filter (is_between from to) xs)
        (filter (is_between from to) xs)) ++ here ys
    at true ih = ap (λ ps. document_point x ∷ ps) ih
    at false ih = ih

numbers-of-points : (ds : List Document)
    → map (λ (p : Point). p.doc) (map document_point ds) ≡ map (λ d. d.doc.number) ds
numbers-of-points [] = refl
numbers-of-points (d ∷ ds) = ap (λ ns. d.doc.number ∷ ns) (numbers-of-points ds)

-- points that are sorted are those of the documents in order
pub sorted-between : (from to : ℕ) (documents : List Document) (points sorted : List Point)
    → points ≡ map document_point (filter (is_between from to) documents)
    → IsPermutation points sorted → IsSorted point_cmp sorted
    → map (λ p. p.doc) sorted ≡ map (λ d. d.doc.number) (documents_between from to documents)
sorted-between from to documents points sorted are same in_turn =
    ap (map (λ (p : Point). p.doc))
    (sym (in_order-sorted point_cmp_total point_cmp_exact sorted in_turn)
    ∙ sym (in_order-permutation point_cmp_total point_cmp_exact points sorted same)
    ∙ ap (in_order point_cmp) are
    ∙ sym (in_order-map point_cmp document_point (filter (is_between from to) documents)))
    ∙ numbers-of-points (documents_between from to documents)
