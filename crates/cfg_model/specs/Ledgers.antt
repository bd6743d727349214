-- The ledger that an entry holds, or its first fault.
use Rattle.std.specs.Prelude.{ℕ, ℤ, pos, negsuc, codes, nat_le, List, Option, Some, None}
use Rattle.std.specs.Prelude.{option_and_then, Result, Ok, if◌then◌else◌}
use Rattle.toml.specs.Data.{Data, Members, as_integer}
use Rattle.reg_base.specs.Results.{◌>>=◌, some_or}
use Rattle.cfg_model.specs.declared.register.Register.{Register}
use Rattle.cfg_model.specs.declared.ledger.Chart.{Chart}
use Rattle.cfg_model.specs.declared.fault.CfgFault.{CfgFault}
use Rattle.cfg_model.specs.declared.fault.CfgFault.TheVariants.{Field}
use Rattle.cfg_model.specs.Words.{key_path, ledger_keys}
use Rattle.cfg_model.specs.Limits.{scale_limit}
use Rattle.cfg_model.specs.Walk.{entry_keys, of_shape}
use Rattle.cfg_model.specs.Registers.{read_split}
use Rattle.cfg_model.specs.Accounts.{read_accounts}

-- a whole number from 0 to 6 is a scale
unfoldable pub scale_number : ℤ → Option ℕ
scale_number (pos n) = if nat_le n scale_limit then Some n else None
scale_number (negsuc n) = None

-- the scale of a ledger's amounts
unfoldable pub read_scale : List ℕ → Members → Result ℕ CfgFault
read_scale name keys =
    some_or (of_shape (λ d. option_and_then scale_number (as_integer d)) (codes "scale") keys)
    (Field (key_path (codes "ledger") name (codes "scale")))

-- the keys of a ledger: its scale, its splitting, its accounts
abbrev pub ledger_of : List ℕ → Members → Result Chart CfgFault
ledger_of name keys = do
  scale ← read_scale name keys
  split ← read_split (codes "ledger") name keys
  accounts ← read_accounts name keys
  Ok (record { name = name; scale = scale; split = split; accounts = accounts })

-- a ledger, whose name is no register's
unfoldable pub read_ledger : List Register → List ℕ → Data → Result Chart CfgFault
read_ledger registers name d = do
  keys ← entry_keys (codes "ledger") registers ledger_keys name d
  ledger_of name keys
