-- Private: the documents of a desk, as posting asks for their balances.
use Rattle.std.specs.Prelude.{ℕ, ◌<◌, ◌^◌, List, All, length, slice_get, unwrap_or, option_map}
use Rattle.reg_base.specs.declared.records.Document.{Document}
use Rattle.cfg_model.specs.declared.config.Config.{Config}
use Rattle.desk_plans.specs.Bounds.{IsWithinBounds}

-- a configuration with the documents that stand under it
pub record BooksView : Type 0 where
  pub config : Config
  pub documents : List Document

-- documents whose records can be summed: they are few, and their lists are short
pub record AreSummed (documents : List Document) : Type 0 where
  pub few : length documents < 2 ^ 32
  pub short : All IsWithinBounds documents

-- how many resources a register has, where there is one
abbrev pub resources_at : Config → ℕ → ℕ
resources_at config register =
    unwrap_or (option_map (λ r. length r.resources) (slice_get config.registers register)) 0
