-- The clerk that an entry holds, or its first fault.
use Rattle.std.specs.Prelude.{ℕ, codes, false, List, [], Result, Ok}
use Rattle.toml.specs.Data.{Data, Members}
use Rattle.reg_base.specs.declared.right.Right.{Right}
use Rattle.reg_base.specs.Results.{◌>>=◌, some_or}
use Rattle.reg_base.specs.Rights.{right_word}
use Rattle.cfg_model.specs.declared.clerk.Clerk.{Clerk}
use Rattle.cfg_model.specs.declared.fault.CfgFault.{CfgFault}
use Rattle.cfg_model.specs.declared.fault.CfgFault.TheVariants.{Field}
use Rattle.cfg_model.specs.Words.{key_path, clerk_keys}
use Rattle.cfg_model.specs.Elements.{toml_right}
use Rattle.cfg_model.specs.Walk.{entry_keys, of_shape, toml_texts, distinct}

-- the rights of a clerk: the right shape, then none twice
unfoldable pub read_rights : List ℕ → Members → Result (List Right) CfgFault
read_rights name keys = do
  let path = key_path (codes "clerk") name (codes "rights")
  rights ← some_or (of_shape (toml_texts toml_right) (codes "rights") keys) (Field path)
  distinct right_word (λ r. false) rights

-- a clerk: the rights
unfoldable pub read_clerk : List ℕ → Data → Result Clerk CfgFault
read_clerk name d = do
  keys ← entry_keys (codes "clerk") [] clerk_keys name d
  rights ← read_rights name keys
  Ok (record { name = name; rights = rights })
