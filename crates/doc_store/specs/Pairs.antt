-- Private: the index of documents by key.
use Rattle.std.specs.Prelude.{◌≡◌, ℕ, true, Option, Some, List}
use Rattle.std.specs.BTreeSet.{BTreeSet, contains}
use Rattle.doc_store.specs.declared.index.KeyPlace.{KeyPlace}
use Rattle.doc_store.specs.contracts.index.KeyPlaceOrd.TheImpl.{ghosts}

-- there is a pair of this key and this number
abbrev pub HasKeyPlace : BTreeSet KeyPlace → List ℕ → ℕ → Type 0
HasKeyPlace keys key number =
    contains ghosts.cmp keys (record { key = key; number = number }) ≡ true

-- the pairs stay, but of this number perhaps only the one of the key that stays
abbrev pub KeepsPairs : ℕ → Option (List ℕ) → BTreeSet KeyPlace → BTreeSet KeyPlace → Type 0
KeepsPairs number stays old new = (key : List ℕ) (n : ℕ) → (n ≡ number → stays ≡ Some key) →
    HasKeyPlace old key n → HasKeyPlace new key n
