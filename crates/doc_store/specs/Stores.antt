-- What contracts see of a store: a finite map by number, and what is staged.
use Rattle.std.specs.Prelude.{◌≡◌, ℕ, Option, Some, None, List, [], ◌∷◌, ⊤}
use Rattle.reg_base.specs.declared.records.Doc.{Doc}
use Rattle.reg_base.specs.declared.records.Document.{Document}
use Rattle.reg_base.specs.Documents.{with_document, without_document}
use Rattle.doc_store.specs.declared.staged.Staged.{Staged}
use Rattle.doc_store.specs.declared.staged.Staged.TheVariants.{Put, Removal}

-- what room is made for: a document of this number and this key
pub record Room : Type 0 where
  pub number : ℕ
  pub key : Option (List ℕ)

-- the committed documents in order of number, what is staged, and what there is room for
pub record Stored : Type 0 where
  pub documents : List Document
  pub staged : List Staged
  pub room : Option Room

-- a store in which nothing is
abbrev pub empty_store : Stored
empty_store = record { documents = []; staged = []; room = None }

-- the room that a document needs
abbrev pub room_of : Doc → Room
room_of doc = record { number = doc.number; key = doc.key }

-- the documents with a staged change made
abbrev pub with_staged : Staged → List Document → List Document
with_staged (Put document) documents = with_document document documents
with_staged (Removal number) documents = without_document number documents

-- the documents with all that is staged made, in the order of staging
abbrev pub kept : List Document → List Staged → List Document
kept documents [] = documents
kept documents (s ∷ ss) = kept (with_staged s documents) ss

-- a viewer of committed documents alone, or of slot 0
abbrev pub IsViewer : Option ℕ → Type 0
IsViewer None = ⊤
IsViewer (Some slot) = slot ≡ 0

-- the documents that a viewer sees
abbrev pub seen : Option ℕ → Stored → List Document
seen None stored = stored.documents
seen (Some slot) stored = kept stored.documents stored.staged
