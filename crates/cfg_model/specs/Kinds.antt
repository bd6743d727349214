-- The document type that an entry holds, or its first fault.
use Rattle.std.specs.Prelude.{ℕ, codes, false, List, [], length, Result, Ok}
use Rattle.toml.specs.Data.{Data, Members, as_str}
use Rattle.reg_base.specs.Results.{◌>>=◌, some_or}
use Rattle.cfg_model.specs.declared.kind.Kind.{Kind}
use Rattle.cfg_model.specs.declared.kind.Field.{Field as DocumentField}
use Rattle.cfg_model.specs.declared.fault.CfgFault.{CfgFault}
use Rattle.cfg_model.specs.declared.fault.CfgFault.TheVariants.{Field}
use Rattle.cfg_model.specs.Words.{key_path, document_keys}
use Rattle.cfg_model.specs.Limits.{field_limit}
use Rattle.cfg_model.specs.Elements.{toml_field}
use Rattle.cfg_model.specs.Walk.{entry_keys, at_most, of_shape, toml_texts, distinct}

-- the fields of a head or of lines: the right shape, then not too many, then none twice
unfoldable pub read_fields : List ℕ → List ℕ → Members → Result (List DocumentField) CfgFault
read_fields name key keys = do
  let path = key_path (codes "document") name key
  fields ← some_or (of_shape (toml_texts toml_field) key keys) (Field path)
  _ ← at_most field_limit path (length fields)
  distinct (λ f. f.name) (λ f. false) fields

-- the keys of a document type: its head, its lines, the text of its rules
abbrev pub kind_of : List ℕ → Members → Result Kind CfgFault
kind_of name keys = do
  head ← read_fields name (codes "head") keys
  lines ← read_fields name (codes "lines") keys
  let path = key_path (codes "document") name (codes "rules")
  rules ← some_or (of_shape as_str (codes "rules") keys) (Field path)
  Ok (record { name = name; head = head; lines = lines; rules = rules })

-- a document type
unfoldable pub read_kind : List ℕ → Data → Result Kind CfgFault
read_kind name d = do
  keys ← entry_keys (codes "document") [] document_keys name d
  kind_of name keys
