-- The keys of a configuration file, its paths, and the names that are taken.
use Rattle.std.specs.Prelude.{ℕ, codes, Bool, List, [], ◌∷◌, ◌++◌, map, Option, Some, None}
use Rattle.std.specs.Prelude.{if◌then◌else◌}
use Rattle.std.specs.Borrow.{Bor}
use Rattle.std.specs.List.{list_any}
use Rattle.std.specs.Str.{bytes_eq}
use Rattle.toml.specs.Data.{Members, no_members, member}

-- the texts that references point to
abbrev pub texts : List (Bor (List ℕ)) → List (List ℕ)
texts words = map (λ word. word.now) words

-- the text is one of these
abbrev pub is_one_of : List (List ℕ) → List ℕ → Bool
is_one_of words text = list_any (λ word. bytes_eq word text) words

-- the least key in byte order that is not known: members stand in that order
abbrev pub first_unknown_key : List (List ℕ) → Members → Option (List ℕ)
first_unknown_key known no_members = None
first_unknown_key known (member key d ms) =
    if is_one_of known key then first_unknown_key known ms else Some key

-- where an entry stands, as `register.stock`
abbrev pub entry_path : List ℕ → List ℕ → List ℕ
entry_path group name = group ++ (codes "." ++ name)

-- where a key of an entry stands, as `register.stock.kind`
abbrev pub key_path : List ℕ → List ℕ → List ℕ → List ℕ
key_path group name key = group ++ (codes "." ++ (name ++ (codes "." ++ key)))

-- the names of spaces, and of the clerk that runs by itself: no entry may take them
abbrev pub reserved_names : List (List ℕ)
reserved_names =
    codes "doc" ∷ codes "key" ∷ codes "closed" ∷ codes "batch" ∷ codes "documents" ∷ []

-- the keys of the top level
abbrev pub group_keys : List (List ℕ)
group_keys =
    codes "register" ∷ codes "ledger" ∷ codes "document" ∷ codes "sequence" ∷ codes "clerk" ∷ []

-- the keys of a register
abbrev pub register_keys : List (List ℕ)
register_keys = codes "kind" ∷ codes "dimensions" ∷ codes "resources" ∷ codes "split" ∷ []

-- the keys of a ledger
abbrev pub ledger_keys : List (List ℕ)
ledger_keys = codes "scale" ∷ codes "split" ∷ codes "accounts" ∷ []

-- the keys of an account
abbrev pub account_keys : List (List ℕ)
account_keys =
    codes "code" ∷ codes "name" ∷ codes "kind" ∷ codes "off" ∷ codes "parent" ∷ codes "extras" ∷ []

-- the keys of a document type
abbrev pub document_keys : List (List ℕ)
document_keys = codes "head" ∷ codes "lines" ∷ codes "rules" ∷ []

-- the keys of a sequence
abbrev pub sequence_keys : List (List ℕ)
sequence_keys = codes "documents" ∷ codes "registers" ∷ codes "dimensions" ∷ []

-- the keys of a clerk
abbrev pub clerk_keys : List (List ℕ)
clerk_keys = codes "rights" ∷ []
