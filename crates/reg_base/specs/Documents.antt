-- Documents in order of number.
use Rattle.std.specs.Prelude.{ℕ, Bool, false, if◌then◌else◌, Option, Some, None, List, [], ◌∷◌}
use Rattle.std.specs.Prelude.{nat_eq, nat_le, ◌≤◌, ◌&&◌, map, filter, length}
use Rattle.std.specs.Ordering.{nat_cmp, match_ordering}
use Rattle.std.specs.Cmp.Lexicographic.{pointwise}
use Rattle.std.specs.List.{All}
use Rattle.std.specs.List.Sorted.{IsStrictlyIncreasing}
use Rattle.std.specs.declared.cmp.Ordering.{Ordering}
use Rattle.reg_base.specs.declared.point.Point.{Point}
use Rattle.reg_base.specs.declared.records.Document.{Document}
use Rattle.reg_base.specs.Points.{point_cmp}
use Rattle.reg_base.specs.Records.{in_order}

-- the document of this number
abbrev pub document_at : ℕ → List Document → Option Document
document_at number [] = None
document_at number (d ∷ ds) =
    match_ordering (nat_cmp number d.doc.number) None (Some d) (document_at number ds)

-- the documents with this one in its place by number
abbrev pub with_document : Document → List Document → List Document
with_document d [] = d ∷ []
with_document d (e ∷ es) = match_ordering (nat_cmp d.doc.number e.doc.number) (d ∷ e ∷ es)
    (d ∷ es) (e ∷ with_document d es)

-- the documents without the one of this number
abbrev pub without_document : ℕ → List Document → List Document
without_document number [] = []
without_document number (d ∷ ds) = match_ordering (nat_cmp number d.doc.number) (d ∷ ds) ds
    (d ∷ without_document number ds)

-- whether a document's key is this one: an absent one is none
abbrev pub is_key : List ℕ → Option (List ℕ) → Bool
is_key key None = false
is_key key (Some own) = pointwise nat_eq own key

-- the number of the first document that has this key
abbrev pub holder_of : List ℕ → List Document → Option ℕ
holder_of key [] = None
holder_of key (d ∷ ds) = if is_key key d.doc.key then Some d.doc.number else holder_of key ds

-- the documents stand in order of number, each number once
abbrev pub AreInOrder : List Document → Type 0
AreInOrder documents = IsStrictlyIncreasing (map (λ d. d.doc.number) documents)

-- ---- sets

-- no set has more than 5,000 records or entries
abbrev pub AreShort : {X : Type 0} → List (List X) → Type 0
AreShort sets = All (λ set. length set ≤ 5_000) sets

-- all sets of a document are short
pub record HasShortSets (d : Document) : Type 0 where
  pub records : AreShort d.sets.registers
  pub entries : AreShort d.sets.ledgers

-- ---- documents in order of time

-- the point at which a document stands
abbrev pub document_point : Document → Point
document_point d = record { date = d.doc.date; doc = d.doc.number }

-- documents are in order of their points
abbrev pub document_cmp : Document → Document → Ordering
document_cmp d e = point_cmp (document_point d) (document_point e)

-- the documents whose dates are in a range, both ends included, in order of their points
abbrev pub documents_between : ℕ → ℕ → List Document → List Document
documents_between from to documents = in_order document_cmp
    (filter (λ d. nat_le from d.doc.date && nat_le d.doc.date to) documents)
