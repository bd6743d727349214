-- What stands under a name: registers, ledgers, document types and clerks, and accounts under their
-- codes.
use Rattle.std.specs.Prelude.{ℕ, List, [], ◌∷◌, Option, Some, None, position, if◌then◌else◌}
use Rattle.std.specs.Str.{bytes_eq}
use Rattle.cfg_model.specs.declared.register.Register.{Register}
use Rattle.cfg_model.specs.declared.ledger.Chart.{Chart}
use Rattle.cfg_model.specs.declared.kind.Kind.{Kind}
use Rattle.cfg_model.specs.declared.account.Account.{Account}
use Rattle.cfg_model.specs.declared.clerk.Clerk.{Clerk}

-- the place of the first register of this name, counted from 0
abbrev pub register_place : List ℕ → List Register → Option ℕ
register_place name registers = position (λ r. bytes_eq r.name name) registers

-- the place of the first ledger of this name, counted from 0
abbrev pub ledger_place : List ℕ → List Chart → Option ℕ
ledger_place name ledgers = position (λ l. bytes_eq l.name name) ledgers

-- the place of the first document type of this name, counted from 0
abbrev pub kind_place : List ℕ → List Kind → Option ℕ
kind_place name kinds = position (λ k. bytes_eq k.name name) kinds

-- the place of the first clerk of this name, counted from 0
abbrev pub clerk_place : List ℕ → List Clerk → Option ℕ
clerk_place name clerks = position (λ c. bytes_eq c.name name) clerks

-- the first account of this code
unfoldable pub account_at : List ℕ → List Account → Option Account
account_at code [] = None
account_at code (a ∷ more) = if bytes_eq a.code code then Some a else account_at code more
