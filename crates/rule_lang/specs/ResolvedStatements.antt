-- What whole statements of accepted rules have of the statements that were written.
use Rattle.std.specs.Prelude.{◌≡◌, ◌≢◌, ◌≤◌, ℕ, Bool, true, false, ◌⊎◌, ⊤, List, [], ◌∷◌, map, not}
use Rattle.std.specs.Prelude.{if◌then◌else◌, length, Option, Some, None, Ok}
use Rattle.std.specs.List.{All, AllZip, Any}
use Rattle.cfg_model.specs.declared.config.Config.{Config}
use Rattle.cfg_model.specs.declared.kind.Kind.{Kind}
use Rattle.cfg_model.specs.declared.register.Register.{Register}
use Rattle.rule_text.specs.Sentences.{statements_of}
use Rattle.rule_text.specs.declared.plain.PlainAct.{PlainAct}
use Rattle.rule_text.specs.declared.plain.PlainAct.TheVariants.{Make as PlainMake}
use Rattle.rule_text.specs.declared.plain.PlainAct.TheVariants.{WriteOff as PlainWriteOff}
use Rattle.rule_text.specs.declared.plain.PlainAct.TheVariants.{Require as PlainRequire}
use Rattle.rule_text.specs.declared.plain.PlainAct.TheVariants.{Control as PlainControl}
use Rattle.rule_text.specs.declared.plain.PlainAct.TheVariants.{Entry as PlainEntry}
use Rattle.rule_text.specs.declared.plain.PlainStatement.{PlainStatement}
use Rattle.rule_text.specs.declared.plain.PlainTerm.{PlainTerm}
use Rattle.rule_text.specs.declared.plain.PlainAmount.{PlainAmount}
use Rattle.rule_text.specs.declared.plain.PlainBind.{PlainBind}
use Rattle.rule_text.specs.declared.plain.Scope.{Scope}
use Rattle.rule_text.specs.declared.plain.Verb.{Verb}
use Rattle.rule_text.specs.declared.token.Spelling.{Spelling}
use Rattle.rule_lang.specs.Costs.{is_each, scale_at}
use Rattle.rule_lang.specs.Rules.{statement_limit}
use Rattle.rule_lang.specs.Makes.{suits}
use Rattle.rule_lang.specs.Resolved.{IsNamedAt, IsSum, IsAmount, AreDifferent, HasValue}
use Rattle.rule_lang.specs.Resolved.{IsNoLot, AreBinds, IsResolvedSide}
use Rattle.rule_lang.specs.declared.statement.Act.{Act}
use Rattle.rule_lang.specs.declared.statement.Act.TheVariants.{Make, WriteOff, Require, Control}
use Rattle.rule_lang.specs.declared.statement.Act.TheVariants.{Entry}
use Rattle.rule_lang.specs.declared.statement.Bind.{Bind}
use Rattle.rule_lang.specs.declared.statement.Place.{Place}
use Rattle.rule_lang.specs.declared.statement.Statement.{Statement}
use Rattle.rule_lang.specs.declared.statement.Sum.{Sum}
use Rattle.rule_lang.specs.declared.terms.Round.{Round}
use Rattle.rule_lang.specs.ResolvedConditions.{IsWhen}

-- a record: the verb suits the register, each dimension has one value, no resource stands twice
pub record IsMake (kind : Kind) (round : Round) (verb : Verb) (plain : List PlainBind)
    (sums : List PlainAmount) (binds : List Bind) (amounts : List (ℕ × Sum)) (register : Register)
    : Type 0 where
  pub fits : suits verb register.balance ≡ true
  pub are_binds : AreBinds kind round register plain binds
  pub bound : All (HasValue register binds) register.dimensions
  pub are_amounts : AllZip (IsAmount kind round register) sums amounts
  pub different : AreDifferent (map (λ s. s.0) amounts)

-- a write-off from a register with balances: each dimension has one value, but by the order of
-- lots there is a lot and none has a value; the quantity is another resource than the amount
pub record IsWriteOff (kind : Kind) (round : Round) (fifo : Bool) (plain : List PlainBind)
    (wanted : PlainAmount) (cost : Spelling) (binds : List Bind) (quantity : ℕ × Sum) (amount : ℕ)
    (register : Register) : Type 0 where
  pub balance : register.balance ≡ true
  pub are_binds : AreBinds kind round register plain binds
  pub bound : All (λ d. ((fifo ≡ true) × (d.lot ≡ true)) ⊎ HasValue register binds d)
      register.dimensions
  pub lot : fifo ≡ true → Any (λ d. d.lot ≡ true) register.dimensions
  pub free : fifo ≡ true → All (IsNoLot register) binds
  pub is_quantity : IsAmount kind round register wanted quantity
  pub is_amount : IsNamedAt (λ r. r.name) register.resources cost amount (λ r. ⊤)
  pub different : quantity.0 ≢ amount

-- a requirement of a register with balances
pub record IsRequire (kind : Kind) (round : Round) (plain : List PlainBind) (word : Spelling)
    (terms : List PlainTerm) (binds : List Bind) (resource : ℕ) (least : Sum) (register : Register)
    : Type 0 where
  pub balance : register.balance ≡ true
  pub are_binds : AreBinds kind round register plain binds
  pub is_least : IsNamedAt (λ r. r.name) register.resources word resource
      (λ r. IsSum kind round r.scale terms least)

-- an act on the register or the ledger of the name, of the sort that its verb asks for
unfoldable pub IsAct : Config → Kind → Round → PlainAct → Act → Type 0
IsAct config kind round (PlainMake verb target sums) act =
    (place : ℕ) × (binds : List Bind) × (amounts : List (ℕ × Sum))
    × (act ≡ Make verb place binds amounts)
    × IsNamedAt (λ r. r.name) config.registers target.register place
    (IsMake kind round verb target.binds sums binds amounts)
IsAct config kind round (PlainWriteOff fifo target wanted cost) act =
    (place : ℕ) × (binds : List Bind) × (quantity : ℕ × Sum) × (amount : ℕ)
    × (act ≡ WriteOff fifo place binds quantity.0 quantity.1 amount)
    × IsNamedAt (λ r. r.name) config.registers target.register place
    (IsWriteOff kind round fifo target.binds wanted cost binds quantity amount)
IsAct config kind round (PlainRequire target word terms code) act =
    (place : ℕ) × (binds : List Bind) × (resource : ℕ) × (least : Sum)
    × (act ≡ Require place binds resource least code)
    × IsNamedAt (λ r. r.name) config.registers target.register place
    (IsRequire kind round target.binds word terms binds resource least)
IsAct config kind round (PlainControl register word) act =
    (place : ℕ) × (resource : ℕ) × (act ≡ Control place resource)
    × IsNamedAt (λ r. r.name) config.registers register place (λ r. (r.balance ≡ true)
    × IsNamedAt (λ s. s.name) r.resources word resource (λ s. ⊤))
IsAct config kind round (PlainEntry ledger sides terms) act =
    (place : ℕ) × (debit : Option Place) × (credit : Option Place) × (amount : Sum)
    × (act ≡ Entry place debit credit amount)
    × IsNamedAt (λ c. c.name) config.ledgers ledger place (λ c.
    IsResolvedSide kind round sides.debit debit × IsResolvedSide kind round sides.credit credit
    × IsSum kind round c.scale terms amount)

-- the statement that was written, each name and number of it resolved
pub record IsResolved (config : Config) (kind : Kind) (round : Round) (plain : PlainStatement)
    (statement : Statement) : Type 0 where
  pub each : statement.each ≡ round.each
  pub act : IsAct config kind round plain.act statement.act
  pub when : IsWhen kind round plain.when statement.when

-- the scale of what an act's write-off costs
unfoldable pub write_off_scale : Config → Act → Option (Option ℕ)
write_off_scale config (WriteOff fifo register binds quantity wanted amount) =
    Some (scale_at config register amount)
write_off_scale config (Make verb register binds sums) = None
write_off_scale config (Require register binds resource least code) = None
write_off_scale config (Control register resource) = None
write_off_scale config (Entry ledger debit credit amount) = None

-- the scale that `cost` has in a scope behind these statements, of which the latest stands first:
-- that of the latest write-off of the scope, if there is one
unfoldable pub latest_cost : Config → Bool → List Statement → Option ℕ
latest_cost config each [] = None
latest_cost config each (statement ∷ earlier) = cost_or
    (if each then statement.each else not statement.each)
    (write_off_scale config statement.act) (latest_cost config each earlier)
  where
    cost_or : Bool → Option (Option ℕ) → Option ℕ → Option ℕ
    cost_or true (Some scale) others = scale
    cost_or true None others = others
    cost_or false found others = others

-- the scope of a statement, with the scale of `cost` in it behind these statements
abbrev pub round_behind : Config → List Statement → Option Scope → Round
round_behind config earlier scope =
    record { each = is_each scope; cost = latest_cost config (is_each scope) earlier }

-- each statement that was written is resolved behind those before it, the latest first
unfoldable pub AreResolved : Config → Kind → List Statement → List PlainStatement
    → List Statement → Type 0
AreResolved config kind earlier [] [] = ⊤
AreResolved config kind earlier [] (statement ∷ statements) = ⊥
AreResolved config kind earlier (plain ∷ plains) [] = ⊥
AreResolved config kind earlier (plain ∷ plains) (statement ∷ statements) =
    IsResolved config kind (round_behind config earlier plain.scope) plain statement
    × AreResolved config kind (statement ∷ earlier) plains statements

-- the statements are those of the type's text, each resolved, and not too many
pub record AreOfText (config : Config) (kind : Kind) (statements : List Statement) : Type 0 where
  pub plains : List PlainStatement
  pub read : statements_of kind.rules ≡ Ok plains
  pub resolved : AreResolved config kind [] plains statements
  pub few : length statements ≤ statement_limit
