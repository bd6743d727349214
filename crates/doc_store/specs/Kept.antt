-- Private: how committed documents are kept.
use Rattle.std.specs.Prelude.{◌≡◌, ℕ, Option, Some, None, IsSome, List, [], ◌∷◌}
use Rattle.std.specs.Prelude.{⊤}
use Rattle.std.specs.Option.{IfSome, option_flatten}
use Rattle.std.specs.List.{sum_by}
use Rattle.std.specs.List.Sorted.{IsStrictlySortedBy}
use Rattle.std.specs.Ordering.{nat_cmp}
use Rattle.std.specs.Map.{keys_of, values_of}
use Rattle.std.specs.BTreeMap.{get}
use Rattle.reg_base.specs.declared.records.Document.{Document}
use Rattle.doc_store.specs.declared.committed.Committed.{Committed}
use Rattle.doc_store.specs.declared.staged.Staged.{Staged}
use Rattle.doc_store.specs.declared.staged.Staged.TheVariants.{Put, Removal}
use Rattle.doc_store.specs.Pairs.{HasKeyPlace}
use Rattle.doc_store.specs.Stores.{Room, room_of}

-- a document in front of others, where there is one
abbrev pub with_first : Option Document → List Document → List Document
with_first None ds = ds
with_first (Some d) ds = d ∷ ds

-- the documents of places, of which some may be empty
abbrev pub documents_of : List (ℕ × Option Document) → List Document
documents_of [] = []
documents_of (e ∷ es) = with_first e.1 (documents_of es)

-- the committed documents
abbrev pub documents_in : Committed → List Document
documents_in committed = documents_of committed.places.entries

-- each document stands at its number
abbrev pub AreNumbered : List (ℕ × Option Document) → Type 0
AreNumbered [] = ⊤
AreNumbered (e ∷ es) = IfSome e.1 (λ d. d.doc.number ≡ e.0) × AreNumbered es

-- how many documents a place lacks
abbrev pub lack : Option Document → ℕ
lack None = 1
lack (Some d) = 0

-- what is staged, as a list
abbrev pub option_list : {X : Type 0} → Option X → List X
option_list None = []
option_list (Some x) = x ∷ []

-- there is a pair of the key, where there is a key, and the number
abbrev pub HasPair : Committed → Option (List ℕ) → ℕ → Type 0
HasPair committed key number = IfSome key (λ k. HasKeyPlace committed.keys k number)

-- there is a place and a pair for a document
pub record IsRoomy (committed : Committed) (room : Room) : Type 0 where
  pub place : IsSome (get nat_cmp committed.places room.number)
  pub pair : HasPair committed room.key room.number

-- the room that there was is still there
abbrev pub KeepsRooms : Committed → Committed → Type 0
KeepsRooms old new = (room : Room) → IsRoomy old room → IsRoomy new room

-- places stand in order, each document stands at its number, each key has its pair, and the places
-- without a document are counted
pub record IsSound (committed : Committed) : Type 0 where
  pub ordered : IsStrictlySortedBy nat_cmp (keys_of committed.places.entries)
  pub numbered : AreNumbered committed.places.entries
  pub indexed : (number : ℕ) → IfSome (option_flatten (get nat_cmp committed.places number))
      (λ d. HasPair committed d.doc.key number)
  pub counted : committed.spare ≡ sum_by lack (values_of committed.places.entries)

-- what is staged can be committed
abbrev pub CanKeep : Committed → Staged → Type 0
CanKeep committed (Put document) = IsRoomy committed (room_of document.doc)
CanKeep committed (Removal number) = Unit

-- what is kept of a store is sound, and there is the room that is owed
pub record HasRoom (committed : Committed) (staged : Option Staged) (room : Option Room) :
    Type 0 where
  pub sound : IsSound committed
  pub can_keep : IfSome staged (CanKeep committed)
  pub is_roomy : IfSome room (IsRoomy committed)
