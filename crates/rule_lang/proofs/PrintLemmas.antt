-- One more statement in a text.
use Rattle.std.proofs.Common.{◌≡◌, ℕ, ◌+◌, ◌<◌, ◌≤◌, List, ◌∷◌, ◌++◌, drop, length, get_or, sym}
use Rattle.std.proofs.Common.{append_assoc, append-nil}
use Rattle.cfg_model.specs.declared.config.Config.{Config}
use Rattle.cfg_model.specs.declared.kind.Kind.{Kind}
use Rattle.rule_lang.specs.Costs.{costs_after}
use Rattle.rule_lang.specs.RuleTexts.{statement_text, cost_of, statements_text}
use Rattle.rule_lang.specs.declared.costs.Costs.{Costs}
use Rattle.rule_lang.specs.declared.statement.Statement.{Statement}
use Rattle.rule_lang.proofs.LeastLemmas.{drop-past}
use Rattle.rule_lang.proofs.RuleLemmas.{from_place}

line-first : (config : Config) (kind : Kind) (costs : Costs) (front : List ℕ)
    (statement : Statement) (others : List Statement)
    → front ++ statements_text config kind costs (statement ∷ others)
    ≡ (front ++ statement_text config kind (cost_of costs statement.each) statement)
    ++ statements_text config kind (costs_after config costs statement.each statement.act) others
unfolding statements_text
line-first config kind costs front statement others = sym (append_assoc front _ _)

-- a line stands behind those in front
pub line-more : (config : Config) (kind : Kind) (costs : Costs) (front : List ℕ)
    (statements : List Statement) (i : ℕ) (statement : Statement)
    → i < length statements → statement ≡ get_or statements i statement
    → front ++ statements_text config kind costs (drop i statements)
    ≡ (front ++ statement_text config kind (cost_of costs statement.each) statement)
    ++ statements_text config kind (costs_after config costs statement.each statement.act)
    (drop (i + 1) statements)
line-more config kind costs front statements i statement below is =
    rw (from_place statements i statement below is) (line-first config kind costs front statement
    (drop (i + 1) statements))

-- behind the last line stand those in front
pub lines-done : (config : Config) (kind : Kind) (costs : Costs) (front : List ℕ)
    (statements : List Statement) (i : ℕ)
    → length statements ≤ i → front ++ statements_text config kind costs (drop i statements) ≡ front
unfolding statements_text
lines-done config kind costs front statements i past = rw (drop-past statements i past)
    (append-nil front)

pub ruleset statements = (line-more, lines-done)
