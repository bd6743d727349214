-- The canonical text of a type is read back to the same statements.
use Rattle.std.proofs.Common.{◌≡◌, ℕ, true, List, [], ◌∷◌, None, Result, Ok, Err, IfOk, refl, ap}
use Rattle.std.proofs.Common.{subst, ◌∙◌}
use Rattle.std.specs.List.{list_all}
use Rattle.cfg_model.specs.declared.config.Config.{Config}
use Rattle.cfg_model.specs.declared.kind.Kind.{Kind}
use Rattle.rule_text.specs.Sentences.{statements_of}
use Rattle.rule_text.specs.declared.fault.TextFault.{TextFault}
use Rattle.rule_text.specs.declared.fault.TextFault.TheVariants.{Syntax, Memory}
use Rattle.rule_text.specs.declared.plain.PlainStatement.{PlainStatement}
use Rattle.rule_text.proofs.ForAbove.{statements_text as plain_statements_text, placed}
use Rattle.rule_text.proofs.ForAbove.{statement_read}
use Rattle.rule_text.proofs.ForAbove.{statements_of-fits}
use Rattle.rule_text.proofs.ForAbove.{texts-read-back}
use Rattle.rule_lang.specs.Printed.{with_rules, with_kinds, kinds_with_texts, with_canonical_texts}
use Rattle.rule_lang.specs.Rules.{read_for, kind_rules, each_kind, rules_of}
use Rattle.rule_lang.specs.RuleTexts.{rules_text}
use Rattle.rule_lang.specs.declared.costs.Costs.{Costs}
use Rattle.rule_lang.specs.declared.statement.Statement.{Statement}
use Rattle.rule_lang.proofs.OtherActs.{statements_from-others}
use Rattle.rule_lang.proofs.StepLemmas.{step-IfOk, IfOk-follows}
use Rattle.rule_lang.proofs.WrittenRules.{AreWritten, statements_from-written}

-- no write-off stands before
abbrev no_costs : Costs
no_costs = record { once = None; each = None }

read_for-IfOk : (kind : Kind) (read : Result (List PlainStatement) TextFault)
    (P : List PlainStatement → Type 0) → IfOk read P → IfOk (read_for kind read) P
read_for-IfOk kind (Ok plains) P p = p
read_for-IfOk kind (Err (Syntax place)) P p = tt
read_for-IfOk kind (Err Memory) P p = tt

kind_rules-written : (config : Config) (kind : Kind)
    → IfOk (kind_rules config kind) (AreWritten config kind no_costs 0)
unfolding kind_rules
kind_rules-written config kind =
    step-IfOk _ _ (read_for kind (statements_of kind.rules))
    (λ plains. list_all statement_read plains ≡ true)
    (read_for-IfOk kind (statements_of kind.rules) (λ plains. list_all statement_read plains ≡ true)
    (statements_of-fits kind.rules))
    (λ plains read. statements_from-written config kind no_costs 0 plains read)

-- the text that is written reads as the same, whatever texts other types have
read_back : (config : Config) (kinds : List Kind) (kind : Kind) (text : List ℕ)
    (statements : List Statement)
    → (are : AreWritten config kind no_costs 0 statements)
    → text ≡ plain_statements_text are.written
    → kind_rules (with_kinds config kinds) (with_rules kind text) ≡ Ok statements
unfolding kind_rules
read_back config kinds kind text statements are is =
    rw (ap statements_of is ∙ texts-read-back are.written are.fits)
    (statements_from-others config kinds kind text no_costs 0 (placed 0 are.written) ∙ are.same 0)

-- the canonical text in the place of a type's own gives the same statements
pub kind_reads_back : (config : Config) (kind : Kind) (statements : List Statement)
    → kind_rules config kind ≡ Ok statements
    → kind_rules config (with_rules kind (rules_text config kind statements)) ≡ Ok statements
unfolding rules_text
kind_reads_back config kind statements read =
    let are : AreWritten config kind no_costs 0 statements =
    subst (λ r. IfOk r (AreWritten config kind no_costs 0)) read (kind_rules-written config kind) in
    read_back config config.kinds kind (rules_text config kind statements) statements are are.text

kinds_read_back : (config : Config) (kinds : List Kind)
    → IfOk (each_kind config kinds) (λ rules. (others : List Kind)
    → each_kind (with_kinds config others) (kinds_with_texts config kinds rules) ≡ Ok rules)
unfolding each_kind rules_text
kinds_read_back config [] = λ others. refl
kinds_read_back config (kind ∷ kinds) =
    step-IfOk _ _ (kind_rules config kind) (AreWritten config kind no_costs 0)
    (kind_rules-written config kind)
    (λ statements are. step-IfOk _ _ (each_kind config kinds)
    (λ rules. (others : List Kind)
    → each_kind (with_kinds config others) (kinds_with_texts config kinds rules) ≡ Ok rules)
    (kinds_read_back config kinds)
    (λ rules rest others. rw (
      read_back config others kind (rules_text config kind statements) statements are are.text,
      rest others,
    ) refl))

-- the canonical texts in the place of the types' own give the same rules
pub rules_read_back : (config : Config)
    → IfOk (rules_of config) (λ rules. rules_of (with_canonical_texts config rules) ≡ Ok rules)
unfolding rules_of
rules_read_back config = IfOk-follows (each_kind config config.kinds)
    (λ rules. (others : List Kind)
    → each_kind (with_kinds config others) (kinds_with_texts config config.kinds rules) ≡ Ok rules)
    (λ rules. rules_of (with_canonical_texts config rules) ≡ Ok rules)
    (λ rules rest. rest (kinds_with_texts config config.kinds rules))
    (kinds_read_back config config.kinds)
