-- The register that an entry holds, or its first fault.
use Rattle.std.specs.Prelude.{ℕ, codes, nat_le, true, false, Bool, List, [], length, Option, Some}
use Rattle.std.specs.Prelude.{None, Result, Ok, if◌then◌else◌}
use Rattle.std.specs.Str.{bytes_eq}
use Rattle.toml.specs.Data.{Data, Members, get_member, as_bool}
use Rattle.reg_base.specs.Results.{◌>>=◌, unless, some_or}
use Rattle.cfg_model.specs.declared.register.Register.{Register}
use Rattle.cfg_model.specs.declared.register.Dimension.{Dimension}
use Rattle.cfg_model.specs.declared.register.Resource.{Resource}
use Rattle.cfg_model.specs.declared.fault.CfgFault.{CfgFault}
use Rattle.cfg_model.specs.declared.fault.CfgFault.TheVariants.{Field}
use Rattle.cfg_model.specs.Words.{key_path, register_keys}
use Rattle.cfg_model.specs.Limits.{dimension_limit, resource_limit}
use Rattle.cfg_model.specs.Elements.{toml_dimension, toml_resource}
use Rattle.cfg_model.specs.Walk.{entry_keys, at_most, of_shape, shape_or, toml_text, toml_texts}
use Rattle.cfg_model.specs.Walk.{distinct}

-- whether the word of a register's kind is that of balances or that of turnovers
unfoldable pub keeps_balances : List ℕ → Option Bool
keeps_balances word =
    if bytes_eq word (codes "balance") then Some true
    else if bytes_eq word (codes "turnover") then Some false
    else None

-- the kind of a register: whether it has balances
unfoldable pub read_balance : List ℕ → Members → Result Bool CfgFault
read_balance name keys = do
  let path = key_path (codes "register") name (codes "kind")
  some_or (of_shape (toml_text keeps_balances) (codes "kind") keys) (Field path)

-- the dimensions of a register: the right shape, then not too many, then none twice and not a
-- second one of lots
unfoldable pub read_dimensions : List ℕ → Members → Result (List Dimension) CfgFault
read_dimensions name keys = do
  let path = key_path (codes "register") name (codes "dimensions")
  ds ← some_or (of_shape (toml_texts toml_dimension) (codes "dimensions") keys) (Field path)
  _ ← at_most dimension_limit path (length ds)
  distinct (λ d. d.name) (λ d. d.lot) ds

-- the resources of a register: the right shape with one at the least, then not too many, then
-- none twice
unfoldable pub read_resources : List ℕ → Members → Result (List Resource) CfgFault
read_resources name keys = do
  let path = key_path (codes "register") name (codes "resources")
  rs ← some_or (of_shape (toml_texts toml_resource) (codes "resources") keys) (Field path)
  _ ← unless (nat_le 1 (length rs)) (Field path)
  _ ← at_most resource_limit path (length rs)
  distinct (λ r. r.name) (λ r. false) rs

-- whether the locks of a register or ledger begin as splitting ones: not, where the key is absent
unfoldable pub read_split : List ℕ → List ℕ → Members → Result Bool CfgFault
read_split group name keys =
    some_or (shape_or as_bool false (get_member (codes "split") keys))
    (Field (key_path group name (codes "split")))

-- the keys of a register: its kind, its dimensions, its resources, its splitting
abbrev pub register_of : List ℕ → Members → Result Register CfgFault
register_of name keys = do
  balance ← read_balance name keys
  ds ← read_dimensions name keys
  rs ← read_resources name keys
  split ← read_split (codes "register") name keys
  Ok (record { name = name; balance = balance; dimensions = ds; resources = rs; split = split })

-- a register
unfoldable pub read_register : List ℕ → Data → Result Register CfgFault
read_register name d = do
  keys ← entry_keys (codes "register") [] register_keys name d
  register_of name keys
