-- The sequence that an entry holds, or its first fault.
use Rattle.std.specs.Prelude.{ℕ, codes, nat_le, ◌&&◌, not, false, Bool, List, [], length, map}
use Rattle.std.specs.Prelude.{is_none, Result, Ok}
use Rattle.std.specs.List.{list_any, list_all}
use Rattle.std.specs.Str.{bytes_eq}
use Rattle.toml.specs.Data.{Data, Members}
use Rattle.reg_base.specs.Results.{◌>>=◌, unless, some_or}
use Rattle.cfg_model.specs.declared.register.Register.{Register}
use Rattle.cfg_model.specs.declared.kind.Kind.{Kind}
use Rattle.cfg_model.specs.declared.sequence.Sequence.{Sequence}
use Rattle.cfg_model.specs.declared.fault.CfgFault.{CfgFault}
use Rattle.cfg_model.specs.declared.fault.CfgFault.TheVariants.{Field}
use Rattle.cfg_model.specs.Words.{is_one_of, key_path, sequence_keys}
use Rattle.cfg_model.specs.Elements.{toml_name}
use Rattle.cfg_model.specs.Walk.{entry_keys, of_shape, toml_texts, distinct, all_known}

-- the path of a key of a sequence
abbrev pub sequence_path : List ℕ → List ℕ → List ℕ
sequence_path name key = key_path (codes "sequence") name key

-- a list of names: the right shape, then none twice
unfoldable pub read_names : List ℕ → List ℕ → Members → Result (List (List ℕ)) CfgFault
read_names name key keys = do
  names ← some_or (of_shape (toml_texts toml_name) key keys) (Field (sequence_path name key))
  distinct (λ n. n) (λ n. false) names

-- a list of names with one at the least
unfoldable pub read_some_names : List ℕ → List ℕ → Members → Result (List (List ℕ)) CfgFault
read_some_names name key keys = do
  let path = sequence_path name key
  names ← some_or (of_shape (toml_texts toml_name) key keys) (Field path)
  _ ← unless (nat_le 1 (length names)) (Field path)
  distinct (λ n. n) (λ n. false) names

-- there is a document type of this name
abbrev pub has_kind : List Kind → List ℕ → Bool
has_kind kinds name = is_one_of (map (λ k. k.name) kinds) name

-- there is a register of this name
abbrev pub has_register : List Register → List ℕ → Bool
has_register registers name = is_one_of (map (λ r. r.name) registers) name

-- there is a register of this name, and it has balances
abbrev pub has_balances : List Register → List ℕ → Bool
has_balances registers name = list_any (λ r. bytes_eq r.name name && r.balance) registers

-- the head of a document type has a code field of this name
abbrev pub has_code_field : List ℕ → Kind → Bool
has_code_field field kind = list_any (λ f. bytes_eq f.name field && is_none f.scale) kind.head

-- the document type of this name has a code field of that name in its head
abbrev pub has_head_code : List Kind → List ℕ → List ℕ → Bool
has_head_code kinds field name =
    list_any (λ k. bytes_eq k.name name && has_code_field field k) kinds

-- a register has a dimension of codes of this name
abbrev pub has_codes : List ℕ → Register → Bool
has_codes dimension register =
    list_any (λ d. bytes_eq d.name dimension && not d.lot) register.dimensions

-- the register of this name has a dimension of codes of that name
abbrev pub has_code_dimension : List Register → List ℕ → List ℕ → Bool
has_code_dimension registers dimension name =
    list_any (λ r. bytes_eq r.name name && has_codes dimension r) registers

-- all types of a sequence have the dimension in their heads, and all its registers have it
abbrev pub is_shared : List Register → List Kind → List (List ℕ) → List (List ℕ) → List ℕ → Bool
is_shared registers kinds documents affecting dimension =
    list_all (has_head_code kinds dimension) documents
    && list_all (has_code_dimension registers dimension) affecting

-- the document types of a sequence: one at the least, and each there is
unfoldable pub read_documents : List Kind → List ℕ → Members → Result (List (List ℕ)) CfgFault
read_documents kinds name keys = do
  documents ← read_some_names name (codes "documents") keys
  _ ← all_known (has_kind kinds) documents
  Ok documents

-- the registers of a sequence: one at the least, each there is, and each has balances
unfoldable pub read_affecting : List Register → List ℕ → Members
    → Result (List (List ℕ)) CfgFault
read_affecting registers name keys = do
  affecting ← read_some_names name (codes "registers") keys
  _ ← all_known (has_register registers) affecting
  let path = sequence_path name (codes "registers")
  _ ← unless (list_all (has_balances registers) affecting) (Field path)
  Ok affecting

-- each dimension of a sequence is shared by its types and registers
unfoldable pub all_shared : List Register → List Kind → List (List ℕ) → List (List ℕ)
    → List (List ℕ) → Result (Unit {0}) CfgFault
all_shared registers kinds documents affecting dimensions =
    all_known (is_shared registers kinds documents affecting) dimensions

-- the keys of a sequence: its document types, its registers, and dimensions that all of them share
unfoldable pub sequence_of : List Register → List Kind → List ℕ → Members
    → Result Sequence CfgFault
sequence_of registers kinds name keys = do
  documents ← read_documents kinds name keys
  affecting ← read_affecting registers name keys
  dimensions ← read_names name (codes "dimensions") keys
  _ ← all_shared registers kinds documents affecting dimensions
  Ok (record {
    name = name;
    kinds = documents;
    registers = affecting;
    dimensions = dimensions;
  })

-- a sequence
unfoldable pub read_sequence : List Register → List Kind → List ℕ → Data
    → Result Sequence CfgFault
read_sequence registers kinds name d = do
  keys ← entry_keys (codes "sequence") [] sequence_keys name d
  sequence_of registers kinds name keys
