-- Accepted rules have few statements a type.
use Rattle.std.proofs.Common.{◌≡◌, ◌≤◌, List, [], ◌∷◌, length, Ok, IfOk, subst}
use Rattle.std.specs.List.{All, AllZip}
use Rattle.std.proofs.lemmas.List.Elements.{All-nil, All-cons}
use Rattle.cfg_model.specs.declared.config.Config.{Config}
use Rattle.cfg_model.specs.declared.kind.Kind.{Kind}
use Rattle.rule_lang.specs.declared.rules.Rules.{Rules}
use Rattle.rule_lang.specs.declared.statement.Statement.{Statement}
use Rattle.rule_lang.specs.ResolvedStatements.{AreOfText}
use Rattle.rule_lang.specs.Rules.{rules_of}
use Rattle.desk_core.specs.Invariants.{AreFewStatements}

all-few : (config : Config) (kinds : List Kind) (all : List (List Statement))
    → AllZip (AreOfText config) kinds all → All (λ statements. length statements ≤ 64) all
all-few config [] [] are = All-nil (λ (s : List Statement). length s ≤ 64)
all-few config [] (s ∷ all) are = absurd are
all-few config (kind ∷ kinds) [] are = absurd are
all-few config (kind ∷ kinds) (s ∷ all) are = All-cons (λ (t : List Statement). length t ≤ 64) s all
    are.0.few (all-few config kinds all are.1)

-- the statements of accepted rules are few
pub few_statements : (config : Config) (rules : Rules) → rules_of config ≡ Ok rules.kinds
    → IfOk (rules_of config) (AllZip (AreOfText config) config.kinds) → AreFewStatements rules
few_statements config rules read are = all-few config config.kinds rules.kinds
    (subst (λ r. IfOk r (AllZip (AreOfText config) config.kinds)) read are)
