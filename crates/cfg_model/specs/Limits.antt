-- How many of each a configuration may have, and what an accepted one keeps to.
use Rattle.std.specs.Prelude.{ℕ, ◌≤◌, length, filter, All, IfSome}
use Rattle.cfg_model.specs.declared.config.Config.{Config}
use Rattle.cfg_model.specs.declared.register.Register.{Register}
use Rattle.cfg_model.specs.declared.ledger.Chart.{Chart}
use Rattle.cfg_model.specs.declared.kind.Kind.{Kind}

-- registers of a configuration
abbrev pub register_limit : ℕ
register_limit = 32

-- ledgers of a configuration
abbrev pub ledger_limit : ℕ
ledger_limit = 8

-- document types of a configuration
abbrev pub document_limit : ℕ
document_limit = 64

-- sequences of a configuration
abbrev pub sequence_limit : ℕ
sequence_limit = 16

-- clerks of a configuration
abbrev pub clerk_limit : ℕ
clerk_limit = 64

-- dimensions of a register
abbrev pub dimension_limit : ℕ
dimension_limit = 8

-- resources of a register
abbrev pub resource_limit : ℕ
resource_limit = 8

-- accounts of a ledger
abbrev pub account_limit : ℕ
account_limit = 512

-- extras of an account
abbrev pub extra_limit : ℕ
extra_limit = 3

-- fields of a head, and as many of the lines
abbrev pub field_limit : ℕ
field_limit = 16

-- the greatest scale
abbrev pub scale_limit : ℕ
scale_limit = 6

-- dimensions of lots of a register
abbrev pub lot_limit : ℕ
lot_limit = 1

-- a register has some resources, and no more of anything than its limit
pub record IsRegisterWithinLimits (register : Register) : Type 0 where
  pub few_dimensions : length register.dimensions ≤ dimension_limit
  pub one_lot : length (filter (λ d. d.lot) register.dimensions) ≤ lot_limit
  pub some_resource : 1 ≤ length register.resources
  pub few_resources : length register.resources ≤ resource_limit
  pub small_scales : All (λ r. r.scale ≤ scale_limit) register.resources

-- a ledger has no more of anything than its limit
pub record IsChartWithinLimits (chart : Chart) : Type 0 where
  pub small_scale : chart.scale ≤ scale_limit
  pub few_accounts : length chart.accounts ≤ account_limit
  pub few_extras : All (λ a. length a.extras ≤ extra_limit) chart.accounts

-- a document type has no more fields than their limit, and their scales are small
pub record IsKindWithinLimits (kind : Kind) : Type 0 where
  pub few_head : length kind.head ≤ field_limit
  pub few_lines : length kind.lines ≤ field_limit
  pub small_head : All (λ f. IfSome f.scale (λ s. s ≤ scale_limit)) kind.head
  pub small_lines : All (λ f. IfSome f.scale (λ s. s ≤ scale_limit)) kind.lines

-- a configuration has no more of anything than its limit
pub record IsWithinLimits (config : Config) : Type 0 where
  pub few_registers : length config.registers ≤ register_limit
  pub few_ledgers : length config.ledgers ≤ ledger_limit
  pub few_kinds : length config.kinds ≤ document_limit
  pub few_sequences : length config.sequences ≤ sequence_limit
  pub few_clerks : length config.clerks ≤ clerk_limit
  pub each_register : All IsRegisterWithinLimits config.registers
  pub each_ledger : All IsChartWithinLimits config.ledgers
  pub each_kind : All IsKindWithinLimits config.kinds
