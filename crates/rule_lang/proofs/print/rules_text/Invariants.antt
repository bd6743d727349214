use Rattle.std.proofs.Common.{◌≡◌, ◌++◌, drop, None, string_bytes}
use Rattle.rule_lang.specs.RuleTexts.{statements_text}
use Rattle.rule_lang.proofs.print.rules_text.Given as goal

abbrev pub invariant-statements : goal.invariant-statements
invariant-statements l =
    string_bytes l.text ++ statements_text l.config l.kind l.costs
    (drop l.statement-index l.statements)
    ≡ statements_text l.config l.kind (record { once = None; each = None }) l.statements
