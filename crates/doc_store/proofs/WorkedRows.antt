-- Worked rows of a store, computed from the definitions: documents put, replaced and removed, the
-- holder of a key, and what slot 0 sees.
use Rattle.std.proofs.Common.{◌≡◌, ℕ, true, Option, Some, None, List, [], ◌∷◌, refl, codes}
use Rattle.reg_base.specs.declared.records.Document.{Document}
use Rattle.reg_base.specs.declared.records.DocState.TheVariants.{Posted}
use Rattle.reg_base.specs.Documents.{document_at, without_document, holder_of}
use Rattle.doc_store.specs.declared.staged.Staged.TheVariants.{Put, Removal}
use Rattle.doc_store.specs.Stores.{Stored, empty_store, kept, seen}

-- a document of this number and key, without records
abbrev document : ℕ → Option (List ℕ) → Document
document number key = record {
  doc = record {
    number = number;
    kind = None;
    date = 0;
    head = [];
    lines = [];
    comment = [];
    key = key;
    state = Posted;
    active = true;
  };
  sets = record { registers = []; ledgers = [] };
}

abbrev first : Document
first = document 1 (Some (codes "a"))

abbrev second : Document
second = document 2 (Some (codes "a"))

abbrev replaced : Document
replaced = document 1 (Some (codes "b"))

-- two documents stand in order of number, in whichever order they are put
two_put : kept [] (Put second ∷ Put first ∷ []) ≡ first ∷ second ∷ []
two_put = refl

-- of two documents that have a key the first one holds it
first_holds : holder_of (codes "a") (first ∷ second ∷ []) ≡ Some 1
first_holds = refl

-- a document stands in the place of the one with its number, and frees its key
one_replaced : kept (first ∷ second ∷ []) (Put replaced ∷ []) ≡ replaced ∷ second ∷ []
one_replaced = refl

key_passes_on : holder_of (codes "a") (replaced ∷ second ∷ []) ≡ Some 2
key_passes_on = refl

-- a document that is removed is not found, and nobody holds its key
one_removed : kept (replaced ∷ second ∷ []) (Removal 1 ∷ []) ≡ second ∷ []
one_removed = refl

not_found : document_at 1 (second ∷ []) ≡ None
not_found = refl

key_freed : holder_of (codes "b") (second ∷ []) ≡ None
key_freed = refl

-- to remove what is not there changes nothing
none_removed : without_document 3 (first ∷ second ∷ []) ≡ first ∷ second ∷ []
none_removed = refl

-- a document is found at its number
found : document_at 2 (first ∷ second ∷ []) ≡ Some second
found = refl

-- slot 0 sees what is staged, other viewers do not
abbrev staged : Stored
staged = record empty_store { documents = first ∷ []; staged = Put second ∷ [] }

slot_sees : document_at 2 (seen (Some 0) staged) ≡ Some second
slot_sees = refl

others_see : document_at 2 (seen None staged) ≡ None
others_see = refl
