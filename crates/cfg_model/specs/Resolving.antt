-- What holds of the names of an accepted configuration.
use Rattle.std.specs.Prelude.{◌≡◌, ◌≢◌, ℕ, zero, suc, List, length, map, All, IfSome, Option, Some}
use Rattle.std.specs.Prelude.{None}
use Rattle.std.specs.Prelude.{option_and_then, is_some, true}
use Rattle.std.specs.List.Sorted.{IsStrictlySortedBy}
use Rattle.std.specs.Cmp.Lexicographic.{slice_cmp}
use Rattle.std.specs.Ordering.{nat_cmp}
use Rattle.cfg_model.specs.declared.config.Config.{Config}
use Rattle.cfg_model.specs.declared.register.Register.{Register}
use Rattle.cfg_model.specs.declared.ledger.Chart.{Chart}
use Rattle.cfg_model.specs.declared.kind.Kind.{Kind}
use Rattle.cfg_model.specs.declared.sequence.Sequence.{Sequence}
use Rattle.cfg_model.specs.declared.account.Account.{Account}
use Rattle.cfg_model.specs.Accounts.{parent_of}
use Rattle.cfg_model.specs.Places.{account_at}
use Rattle.cfg_model.specs.Sequences.{has_kind, has_balances, is_shared}

-- texts in byte order, each once
abbrev pub AreAscending : List (List ℕ) → Type 0
AreAscending texts = IsStrictlySortedBy (slice_cmp nat_cmp) texts

-- the lists of a configuration stand in byte order of names, each name once
pub record HasNamesInOrder (config : Config) : Type 0 where
  pub registers : AreAscending (map (λ r. r.name) config.registers)
  pub ledgers : AreAscending (map (λ l. l.name) config.ledgers)
  pub kinds : AreAscending (map (λ k. k.name) config.kinds)
  pub sequences : AreAscending (map (λ s. s.name) config.sequences)
  pub clerks : AreAscending (map (λ c. c.name) config.clerks)

-- the accounts of a ledger stand in byte order of codes, each code once
abbrev pub HasAccountsInOrder : Chart → Type 0
HasAccountsInOrder chart = AreAscending (map (λ a. a.code) chart.accounts)

-- all lists of a configuration stand in byte order
pub record IsInOrder (config : Config) : Type 0 where
  pub names : HasNamesInOrder config
  pub accounts : All HasAccountsInOrder config.ledgers

-- the parents of a ledger's accounts are accounts of it
abbrev pub HasParents : Chart → Type 0
HasParents chart =
    All (λ a. IfSome a.parent (λ p. is_some (account_at p chart.accounts) ≡ true)) chart.accounts

-- the code of the account so many parents above the one of this code, where there is one
abbrev pub above : ℕ → List Account → List ℕ → Option (List ℕ)
above zero accounts code = Some code
above (suc steps) accounts code = option_and_then (above steps accounts) (parent_of accounts code)

-- the parents of a ledger's accounts make no circle
pub record HasNoCircle (chart : Chart) : Type 0 where
  -- no account stands above itself
  pub apart : (steps : ℕ) (code : List ℕ) → above (suc steps) chart.accounts code ≢ Some code
  -- and no way up has more steps than there are accounts
  pub ends : (code : List ℕ) → above (suc (length chart.accounts)) chart.accounts code ≡ None

-- the names of a sequence stand for document types, for registers with balances, and for
-- dimensions that all of these share
pub record HasNames (registers : List Register) (kinds : List Kind) (s : Sequence) : Type 0 where
  pub each_kind : All (λ name. has_kind kinds name ≡ true) s.kinds
  pub each_register : All (λ name. has_balances registers name ≡ true) s.registers
  pub each_dimension :
      All (λ name. is_shared registers kinds s.kinds s.registers name ≡ true) s.dimensions

-- each name that an entry of a configuration gives stands for something
pub record NamesResolve (config : Config) : Type 0 where
  pub parents : All HasParents config.ledgers
  pub circles : All HasNoCircle config.ledgers
  pub sequences : All (HasNames config.registers config.kinds) config.sequences
