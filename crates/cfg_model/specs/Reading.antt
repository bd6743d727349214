-- The configuration that the bytes of a file hold, or the first fault on a walk through them.
use Rattle.std.specs.Prelude.{ℕ, codes, ◌==◌, List, length, Option, None, Result, Ok, if◌then◌else◌}
use Rattle.std.specs.Str.Lossy.{utf8_valid_len}
use Rattle.toml.specs.Data.{Members}
use Rattle.toml.specs.Parse.{parse_document}
use Rattle.reg_base.specs.Results.{◌>>=◌, some_or}
use Rattle.cfg_model.specs.declared.config.Config.{Config}
use Rattle.cfg_model.specs.declared.fault.CfgFault.{CfgFault}
use Rattle.cfg_model.specs.declared.fault.CfgFault.TheVariants.{NotToml}
use Rattle.cfg_model.specs.Words.{group_keys}
use Rattle.cfg_model.specs.Limits.{register_limit, ledger_limit, document_limit, sequence_limit}
use Rattle.cfg_model.specs.Limits.{clerk_limit}
use Rattle.cfg_model.specs.Walk.{known_keys, read_group}
use Rattle.cfg_model.specs.Registers.{read_register}
use Rattle.cfg_model.specs.Ledgers.{read_ledger}
use Rattle.cfg_model.specs.Kinds.{read_kind}
use Rattle.cfg_model.specs.Sequences.{read_sequence}
use Rattle.cfg_model.specs.Clerks.{read_clerk}

-- the table that a file says: UTF-8 that the reader of TOML takes
unfoldable pub toml_document : List ℕ → Option Members
toml_document bytes = if utf8_valid_len bytes == length bytes then parse_document bytes else None

-- the configuration of a table: its keys are known, then come the groups in order
unfoldable pub config_of : Members → Result Config CfgFault
config_of top = do
  keys ← known_keys group_keys top
  rs ← read_group (codes "register") register_limit read_register keys
  ls ← read_group (codes "ledger") ledger_limit (read_ledger rs) keys
  ks ← read_group (codes "document") document_limit read_kind keys
  ss ← read_group (codes "sequence") sequence_limit (read_sequence rs ks) keys
  cs ← read_group (codes "clerk") clerk_limit read_clerk keys
  Ok (record { registers = rs; ledgers = ls; kinds = ks; sequences = ss; clerks = cs })

-- the configuration that a file holds, or its first fault
unfoldable pub read_config : List ℕ → Result Config CfgFault
read_config bytes = do
  top ← some_or (toml_document bytes) NotToml
  config_of top
