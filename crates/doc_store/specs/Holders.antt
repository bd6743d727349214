-- Private: the documents of a key, and the pairs among which they are looked for.
use Rattle.std.specs.Prelude.{◌≡◌, ℕ, Bool, true, false, if◌then◌else◌, Option, Some, None, List}
use Rattle.std.specs.Prelude.{nat_lt}
use Rattle.std.specs.List.{list_any, AllByRecursion}
use Rattle.std.specs.List.Sorted.{IsStrictlySortedBy}
use Rattle.std.specs.Ordering.{is_le}
use Rattle.std.specs.BTreeMap.{is_at}
use Rattle.reg_base.specs.declared.records.Document.{Document}
use Rattle.reg_base.specs.Documents.{document_at, without_document, is_key}
use Rattle.doc_store.specs.declared.index.KeyPlace.{KeyPlace}
use Rattle.doc_store.specs.contracts.index.KeyPlaceOrd.TheImpl.{ghosts}

-- the documents but the one of a number, where there is a number
abbrev pub all_but : Option ℕ → List Document → List Document
all_but None documents = documents
all_but (Some number) documents = without_document number documents

-- whether a document, where there is one, has the key
abbrev pub has_key : List ℕ → Option Document → Bool
has_key key None = false
has_key key (Some d) = is_key key d.doc.key

-- whether the document of a number has the key
abbrev pub has_key_at : List ℕ → ℕ → List Document → Bool
has_key_at key number documents = has_key key (document_at number documents)

-- the number of a document, where it has the key
abbrev pub own_number_of : List ℕ → Document → Option ℕ
own_number_of key d = if is_key key d.doc.key then Some d.doc.number else None

-- the lesser of two numbers, where both are there
abbrev pub least_of : Option ℕ → Option ℕ → Option ℕ
least_of None b = b
least_of (Some a) None = Some a
least_of (Some a) (Some b) = if nat_lt b a then Some b else Some a

-- the pairs that are left to be looked at: they stand in order from the least pair of the key, and
-- each document that has the key has its pair among them
pub record AwaitsHolders (key : List ℕ) (documents : List Document) (rest : List KeyPlace) :
    Type 0 where
  pub listed : (number : ℕ) → has_key_at key number documents ≡ true →
      list_any (is_at (ghosts.cmp (record { key = key; number = number }))) rest ≡ true
  pub sorted : IsStrictlySortedBy ghosts.cmp rest
  pub from_key : AllByRecursion
      (λ p. is_le (ghosts.cmp (record { key = key; number = 0 }) p) ≡ true) rest
