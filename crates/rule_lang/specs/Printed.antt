-- A configuration in which each document type has the canonical text of its statements.
use Rattle.std.specs.Prelude.{ℕ, List, [], ◌∷◌}
use Rattle.cfg_model.specs.declared.config.Config.{Config}
use Rattle.cfg_model.specs.declared.kind.Kind.{Kind}
use Rattle.rule_lang.specs.RuleTexts.{rules_text}
use Rattle.rule_lang.specs.declared.statement.Statement.{Statement}

-- the type with this text of rules in the place of its own
abbrev pub with_rules : Kind → List ℕ → Kind
with_rules kind text =
    record { name = kind.name; head = kind.head; lines = kind.lines; rules = text }

-- the configuration with these types in the place of its own
abbrev pub with_kinds : Config → List Kind → Config
with_kinds config kinds = record {
  registers = config.registers;
  ledgers = config.ledgers;
  kinds = kinds;
  sequences = config.sequences;
  clerks = config.clerks;
}

-- types, each with the canonical text of its statements in the place of its own
abbrev pub kinds_with_texts : Config → List Kind → List (List Statement) → List Kind
kinds_with_texts config [] rules = []
kinds_with_texts config (kind ∷ kinds) [] = kind ∷ kinds
kinds_with_texts config (kind ∷ kinds) (statements ∷ rules) =
    with_rules kind (rules_text config kind statements) ∷ kinds_with_texts config kinds rules

-- the configuration with the canonical texts of these rules in the place of its own
abbrev pub with_canonical_texts : Config → List (List Statement) → Config
with_canonical_texts config rules = with_kinds config (kinds_with_texts config config.kinds rules)
