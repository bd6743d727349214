-- The canonical text of the statements of a type, each on a line of its own.
use Rattle.std.specs.Prelude.{ℕ, codes, Bool, true, false, List, [], ◌∷◌, ◌++◌, Option, Some, None}
use Rattle.std.specs.Prelude.{slice_get}
use Rattle.cfg_model.specs.declared.config.Config.{Config}
use Rattle.cfg_model.specs.declared.kind.Kind.{Kind}
use Rattle.cfg_model.specs.declared.ledger.Chart.{Chart}
use Rattle.cfg_model.specs.declared.register.Register.{Register}
use Rattle.rule_text.specs.declared.plain.Verb.{Verb}
use Rattle.rule_text.specs.declared.plain.Verb.TheVariants.{Receipt, Expense, Turn}
use Rattle.rule_lang.specs.Costs.{resource_scale, costs_after}
use Rattle.rule_lang.specs.TermTexts.{text_if, name_of_place, list_text, code_text, terms_text}
use Rattle.rule_lang.specs.TermTexts.{when_text}
use Rattle.rule_lang.specs.declared.costs.Costs.{Costs}
use Rattle.rule_lang.specs.declared.statement.Act.{Act}
use Rattle.rule_lang.specs.declared.statement.Act.TheVariants.{Make, WriteOff, Require, Control}
use Rattle.rule_lang.specs.declared.statement.Act.TheVariants.{Entry}
use Rattle.rule_lang.specs.declared.statement.Bind.{Bind}
use Rattle.rule_lang.specs.declared.statement.BindTo.{BindTo}
use Rattle.rule_lang.specs.declared.statement.BindTo.TheVariants.{Code, Point}
use Rattle.rule_lang.specs.declared.statement.Place.{Place}
use Rattle.rule_lang.specs.declared.statement.Statement.{Statement}
use Rattle.rule_lang.specs.declared.statement.Sum.{Sum}
use Rattle.rule_lang.specs.declared.statement.Term.{Term}

-- `point`, or a code
unfoldable pub to_text : Kind → BindTo → List ℕ
to_text kind Point = codes "point"
to_text kind (Code code) = code_text kind code

-- a dimension with its value
unfoldable pub bind_text : Kind → Register → Bind → List ℕ
bind_text kind register bind =
    name_of_place (λ d. d.name) register.dimensions bind.dimension
    ++ (codes " = " ++ to_text kind bind.to)

-- dimensions with their values, behind commas
unfoldable pub binds_text : Kind → Register → List Bind → List ℕ
binds_text kind register binds = list_text (λ _. codes ", ") (bind_text kind register) binds

-- a resource with its number
unfoldable pub amount_text : Kind → Register → ℕ → List Term → List ℕ
amount_text kind register place terms =
    name_of_place (λ r. r.name) register.resources place
    ++ (codes " = " ++ terms_text kind (resource_scale register place) terms)

-- resources with their numbers, behind commas
unfoldable pub amounts_text : Kind → Register → List (ℕ × Sum) → List ℕ
amounts_text kind register sums =
    list_text (λ _. codes ", ") (λ s. amount_text kind register s.0 s.1.terms) sums

-- the word of a verb
abbrev pub verb_text : Verb → List ℕ
verb_text Receipt = codes "receipt"
verb_text Expense = codes "expense"
verb_text Turn = codes "turn"

-- the word of a write-off
abbrev pub order_text : Bool → List ℕ
order_text true = codes "fifo"
order_text false = codes "average"

-- receipt, expense, turn
unfoldable pub make_text : Kind → Verb → List Bind → List (ℕ × Sum) → Register → List ℕ
make_text kind verb binds sums register =
    verb_text verb ++ (codes " " ++ (register.name ++ (codes "(" ++ (binds_text kind register binds
    ++ (codes "; " ++ (amounts_text kind register sums ++ codes ")"))))))

-- fifo, average
unfoldable pub write_off_text : Kind → Bool → List Bind → ℕ → Sum → ℕ → Register → List ℕ
write_off_text kind fifo binds quantity wanted amount register =
    order_text fifo ++ (codes " " ++ (register.name ++ (codes "(" ++ (binds_text kind register binds
    ++ (codes "; " ++ (amount_text kind register quantity wanted.terms ++ (codes ", "
    ++ (name_of_place (λ r. r.name) register.resources amount ++ codes ")"))))))))

-- require
unfoldable pub require_text : Kind → List Bind → ℕ → Sum → List ℕ → Register → List ℕ
require_text kind binds resource least code register =
    codes "require " ++ (register.name ++ (codes "(" ++ (binds_text kind register binds
    ++ (codes "; " ++ (name_of_place (λ r. r.name) register.resources resource ++ (codes ") >= "
    ++ (terms_text kind (resource_scale register resource) least.terms ++ (codes " code \""
    ++ (code ++ codes "\"")))))))))

-- control
unfoldable pub control_text : ℕ → Register → List ℕ
control_text resource register = codes "control "
    ++ (register.name ++ (codes " " ++ name_of_place (λ r. r.name) register.resources resource))

-- `none`, or an account with its extras
unfoldable pub side_text : Kind → Option Place → List ℕ
side_text kind None = codes "none"
side_text kind (Some side) = code_text kind side.account
    ++ (codes "(" ++ (list_text (λ _. codes ", ") (code_text kind) side.extras ++ codes ")"))

-- entry
unfoldable pub entry_text : Kind → Option Place → Option Place → Sum → Chart → List ℕ
entry_text kind debit credit amount chart = codes "entry " ++ (chart.name ++ (codes "(debit "
    ++ (side_text kind debit ++ (codes ", credit " ++ (side_text kind credit
    ++ (codes "; " ++ (terms_text kind (Some chart.scale) amount.terms ++ codes ")")))))))

-- an act
unfoldable pub act_text : Config → Kind → Act → List ℕ
act_text config kind (Make verb place binds sums) =
    text_if (make_text kind verb binds sums) (slice_get config.registers place)
act_text config kind (WriteOff fifo place binds quantity wanted amount) =
    text_if (write_off_text kind fifo binds quantity wanted amount)
    (slice_get config.registers place)
act_text config kind (Require place binds resource least code) =
    text_if (require_text kind binds resource least code) (slice_get config.registers place)
act_text config kind (Control place resource) =
    text_if (control_text resource) (slice_get config.registers place)
act_text config kind (Entry place debit credit amount) =
    text_if (entry_text kind debit credit amount) (slice_get config.ledgers place)

-- the scope, which a control has not
unfoldable pub scope_text : Bool → Act → List ℕ
scope_text each (Control register resource) = []
scope_text true act = codes "each line "
scope_text false act = codes "once "

-- a statement where the latest write-off of its scope has this scale
unfoldable pub statement_text : Config → Kind → Option ℕ → Statement → List ℕ
statement_text config kind cost statement =
    scope_text statement.each statement.act ++ (act_text config kind statement.act
    ++ (when_text kind cost statement.when ++ codes ";\n"))

-- the scale of the latest write-off of a scope
abbrev pub cost_of : Costs → Bool → Option ℕ
cost_of costs true = costs.each
cost_of costs false = costs.once

-- statements behind those that left these costs
unfoldable pub statements_text : Config → Kind → Costs → List Statement → List ℕ
statements_text config kind costs [] = []
statements_text config kind costs (statement ∷ statements) =
    statement_text config kind (cost_of costs statement.each) statement
    ++ statements_text config kind (costs_after config costs statement.each statement.act)
    statements

-- the statements of the type, no write-off being before the first
unfoldable pub rules_text : Config → Kind → List Statement → List ℕ
rules_text config kind statements =
    statements_text config kind (record { once = None; each = None }) statements
