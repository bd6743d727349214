-- What holds of each statement of accepted rules.
use Rattle.std.proofs.Common.{◌≡◌, ℕ, ◌+◌, ◌<◌, ◌≤◌, Bool, true, false, nat_lt, List, [], ◌∷◌}
use Rattle.std.proofs.Common.{length, Option, None, Some, Result, Ok, Err, IfOk, refl, subst, arith}
use Rattle.std.proofs.lemmas.Bool.{ltb-true}
use Rattle.std.specs.Bool.{⊤}
use Rattle.std.specs.List.{All, AllZip}
use Rattle.reg_base.specs.Results.{unless}
use Rattle.cfg_model.specs.declared.config.Config.{Config}
use Rattle.cfg_model.specs.declared.kind.Kind.{Kind}
use Rattle.rule_text.specs.declared.plain.PlainStatement.{PlainStatement}
use Rattle.rule_lang.specs.Costs.{round_of, costs_after}
use Rattle.rule_lang.specs.Least.{Checked, both, beside}
use Rattle.rule_lang.specs.ResolvedStatements.{IsResolved, write_off_scale, latest_cost}
use Rattle.rule_lang.specs.ResolvedStatements.{round_behind, AreResolved, AreOfText}
use Rattle.rule_lang.specs.Rules.{statement_limit, scope_fits, resolved_when, last_fits}
use Rattle.rule_lang.specs.Rules.{statement_if_fit, resolved_statement_in, resolved_statement}
use Rattle.rule_lang.specs.Rules.{fault_in_kind, statements_from, read_for, kind_rules, each_kind}
use Rattle.rule_lang.specs.Rules.{rules_of}
use Rattle.rule_lang.specs.SequenceLaws.{KeepsSequences}
use Rattle.rule_lang.specs.Sequences.{keeps_sequences}
use Rattle.rule_lang.specs.Acts.{resolved_act}
use Rattle.rule_text.specs.Sentences.{statements_of}
use Rattle.rule_lang.specs.declared.fault.RuleWhy.TheVariants.{TooMany, SequenceUnbound}
use Rattle.rule_lang.specs.declared.costs.Costs.{Costs}
use Rattle.rule_lang.specs.declared.statement.Cond.{Cond}
use Rattle.rule_lang.specs.declared.statement.Act.{Act}
use Rattle.rule_lang.specs.declared.statement.Act.TheVariants.{Make, WriteOff, Require, Control}
use Rattle.rule_lang.specs.declared.statement.Act.TheVariants.{Entry}
use Rattle.rule_text.specs.declared.fault.TextFault.{TextFault}
use Rattle.rule_text.specs.declared.fault.TextFault.TheVariants.{Syntax, Memory as NoMemory}
use Rattle.rule_text.specs.declared.plain.Scope.{Scope}
use Rattle.rule_text.specs.declared.plain.Scope.TheVariants.{Once, EachLine}
use Rattle.rule_lang.specs.declared.statement.Statement.{Statement}
use Rattle.rule_lang.specs.declared.terms.Round.{Round}
use Rattle.rule_lang.proofs.ActLemmas.{act_of-IfOk}
use Rattle.rule_lang.proofs.ConditionLemmas.{when_of-IfOk}
use Rattle.rule_lang.proofs.SequenceLemmas.{keeps_sequences-true}
use Rattle.rule_lang.proofs.StepLemmas.{step-IfOk, must-IfOk, any-IfOk, unless-IfOk, both-IfOk}
use Rattle.rule_lang.proofs.StepLemmas.{beside-IfOk, All-cons, AllZip-follows, IfOk-follows}

-- a statement names what is there, and keeps the sequences
abbrev pub IsAccepted : Config → Kind → Round → PlainStatement → Statement → Type 0
IsAccepted config kind round plain statement =
    IsResolved config kind round plain statement × KeepsSequences config kind statement.act

-- not too many are before, and the sequences are kept
record LastFits (config : Config) (kind : Kind) (before : ℕ) (act : Act) : Type 0 where
  few : before < 64
  keeps : keeps_sequences config kind act ≡ true

last_fits-IfOk : (config : Config) (kind : Kind) (before : ℕ) (act : Act)
    → IfOk (last_fits config kind before act) (λ _. LastFits config kind before act)
unfolding last_fits
last_fits-IfOk config kind before act = must-IfOk _ _ (nat_lt before statement_limit) TooMany
    (λ u few. IfOk-follows (unless (keeps_sequences config kind act) SequenceUnbound)
    (λ _. keeps_sequences config kind act ≡ true) (λ _. LastFits config kind before act)
    (λ v keeps. record { few = ltb-true before 64 few; keeps = keeps })
    (unless-IfOk (keeps_sequences config kind act) SequenceUnbound))

-- what is accepted of a statement that so many are before
abbrev Stands : Config → Kind → Round → ℕ → PlainStatement → Statement → Type 0
Stands config kind round before plain statement =
    (before < 64) × IsAccepted config kind round plain statement

statement_in-IfOk : (config : Config) (kind : Kind) (round : Round) (before : ℕ)
    (plain : PlainStatement) → IfOk (resolved_statement_in config kind round before plain)
    (Stands config kind round before plain)
unfolding resolved_statement_in statement_if_fit
statement_in-IfOk config kind round before plain =
    let act : Checked Act = resolved_act config kind round plain.act in
    let when : Checked (Option Cond) = resolved_when kind round plain.when in
    step-IfOk _ _ (beside (scope_fits plain) (both act when)) _
    (beside-IfOk (scope_fits plain) (both act when) ⊤ _ (any-IfOk (scope_fits plain))
    (both-IfOk act when _ _ (act_of-IfOk config kind round plain.act)
    (when_of-IfOk kind round plain.when)))
    (λ p h. step-IfOk _ _ (last_fits config kind before p.0) _
    (last_fits-IfOk config kind before p.0)
    (λ u last. (
      last.few,
      (
        record { each = refl; act = h.1.0; when = h.1.1 },
        keeps_sequences-true config kind p.0 last.keeps,
      ),
    )))

pub fault_in_kind-IfOk : {X : Type 0} (kind : Kind) (place : ℕ) (checked : Checked X)
    (P : X → Type 0) → IfOk checked P → IfOk (fault_in_kind kind place checked) P
fault_in_kind-IfOk kind place (Ok x) P p = p
fault_in_kind-IfOk kind place (Err why) P p = tt

-- the costs are those of the latest write-offs of these statements
abbrev AreCosts : Config → Costs → List Statement → Type 0
AreCosts config costs earlier =
    (costs.once ≡ latest_cost config false earlier) × (costs.each ≡ latest_cost config true earlier)

round-behind : (config : Config) (costs : Costs) (earlier : List Statement) (scope : Option Scope)
    → AreCosts config costs earlier → round_of costs scope ≡ round_behind config earlier scope
unfolding round_of
round-behind config costs earlier None are = λ i. record { each = false; cost = are.0 i }
round-behind config costs earlier (Some Once) are = λ i. record { each = false; cost = are.0 i }
round-behind config costs earlier (Some EachLine) are = λ i. record { each = true; cost = are.1 i }

costs-behind : (config : Config) (costs : Costs) (earlier : List Statement) (each : Bool)
    (act : Act)
    (when : Option Cond) → AreCosts config costs earlier
    → AreCosts config (costs_after config costs each act)
    (record { each = each; act = act; when = when } ∷ earlier)
unfolding costs_after latest_cost write_off_scale
costs-behind config costs earlier true (WriteOff fifo register binds quantity wanted amount) when
    are =
    (are.0, refl)
costs-behind config costs earlier false (WriteOff fifo register binds quantity wanted amount) when
    are =
    (refl, are.1)
costs-behind config costs earlier true (Make verb register binds sums) when are = are
costs-behind config costs earlier false (Make verb register binds sums) when are = are
costs-behind config costs earlier true (Require register binds resource least code) when are = are
costs-behind config costs earlier false (Require register binds resource least code) when are = are
costs-behind config costs earlier true (Control register resource) when are = are
costs-behind config costs earlier false (Control register resource) when are = are
costs-behind config costs earlier true (Entry ledger debit credit amount) when are = are
costs-behind config costs earlier false (Entry ledger debit credit amount) when are = are

-- statements that are accepted behind these
record AreAccepted (config : Config) (kind : Kind) (earlier : List Statement) (before : ℕ)
    (plains : List PlainStatement) (statements : List Statement) : Type 0 where
  resolved : AreResolved config kind earlier plains statements
  keep : All (λ s. KeepsSequences config kind s.act) statements
  few : before + length statements ≤ 64

statements_from-IfOk : (config : Config) (kind : Kind) (costs : Costs) (earlier : List Statement)
    (before : ℕ) (plains : List PlainStatement) → AreCosts config costs earlier → before ≤ 64
    → IfOk (statements_from config kind costs before plains)
    (AreAccepted config kind earlier before plains)
unfolding statements_from resolved_statement AreResolved
statements_from-IfOk config kind costs earlier before [] are small =
    record { resolved = tt; keep = λ k d l. absurd (omega (arith, l)); few = omega (arith, small) }
statements_from-IfOk config kind costs earlier before (plain ∷ plains) are small =
    let round : Round = round_of costs plain.scope in
    let checked : Checked Statement = resolved_statement_in config kind round before plain in
    step-IfOk _ _ (fault_in_kind kind plain.place checked) (Stands config kind round before plain)
    (fault_in_kind-IfOk kind plain.place checked (Stands config kind round before plain)
    (statement_in-IfOk config kind round before plain))
    (λ s ok. step-IfOk _ _
    (statements_from config kind (costs_after config costs s.each s.act) (before + 1) plains)
    (AreAccepted config kind (s ∷ earlier) (before + 1) plains)
    (statements_from-IfOk config kind (costs_after config costs s.each s.act) (s ∷ earlier)
    (before + 1) plains (costs-behind config costs earlier s.each s.act s.when are)
    (omega (arith, ok.0)))
    (λ ss oks. record {
      resolved = (
        subst (λ r. IsResolved config kind r plain s) (round-behind config costs earlier plain.scope
            are)
            ok.1.0,
        oks.resolved,
      );
      keep = All-cons (λ t. KeepsSequences config kind t.act) s ss ok.1.1 oks.keep;
      few = omega (arith, oks.few);
    }))

-- the statements are those of the text, and keep the sequences
abbrev AreRules : Config → Kind → List Statement → Type 0
AreRules config kind statements =
    AreOfText config kind statements × All (λ s. KeepsSequences config kind s.act) statements

read_for-says : (kind : Kind) (read : Result (List PlainStatement) TextFault)
    → IfOk (read_for kind read) (λ plains. read ≡ Ok plains)
read_for-says kind (Ok plains) = refl
read_for-says kind (Err (Syntax place)) = tt
read_for-says kind (Err NoMemory) = tt

kind_rules-IfOk : (config : Config) (kind : Kind)
    → IfOk (kind_rules config kind) (AreRules config kind)
unfolding kind_rules latest_cost
kind_rules-IfOk config kind =
    step-IfOk _ _ (read_for kind (statements_of kind.rules)) _
    (read_for-says kind (statements_of kind.rules))
    (λ plains read. IfOk-follows
    (statements_from config kind (record { once = None; each = None }) 0 plains)
    (AreAccepted config kind [] 0 plains) (AreRules config kind)
    (λ statements are. (
      record {
        plains = plains;
        read = read;
        resolved = are.resolved;
        few = omega (arith, are.few);
      },
      are.keep,
    ))
    (statements_from-IfOk config kind (record { once = None; each = None }) [] 0 plains (refl, refl)
    (omega arith)))

each_kind-IfOk : (config : Config) (kinds : List Kind)
    → IfOk (each_kind config kinds) (AllZip (AreRules config) kinds)
unfolding each_kind
each_kind-IfOk config [] = tt
each_kind-IfOk config (kind ∷ kinds) =
    step-IfOk _ _ (kind_rules config kind) (AreRules config kind) (kind_rules-IfOk config kind)
    (λ ss oks. step-IfOk _ _ (each_kind config kinds) (AllZip (AreRules config) kinds)
    (each_kind-IfOk config kinds) (λ others rest. (oks, rest)))

-- what follows for the statements of a type follows for each type
each-follows : (config : Config) (P : Kind → List Statement → Type 0)
    → ((kind : Kind) (statements : List Statement) → AreRules config kind statements
    → P kind statements) → IfOk (rules_of config) (AllZip P config.kinds)
unfolding rules_of
each-follows config P so = IfOk-follows (each_kind config config.kinds)
    (AllZip (AreRules config) config.kinds) (AllZip P config.kinds)
    (AllZip-follows (AreRules config) P so config.kinds) (each_kind-IfOk config config.kinds)

pub resolved : (config : Config)
    → IfOk (rules_of config) (AllZip (AreOfText config) config.kinds)
resolved config = each-follows config (AreOfText config) (λ kind ss are. are.0)

pub kept : (config : Config) → IfOk (rules_of config)
    (AllZip (λ kind statements. All (λ s. KeepsSequences config kind s.act) statements)
    config.kinds)
kept config = each-follows config
    (λ kind statements. All (λ s. KeepsSequences config kind s.act) statements)
    (λ kind ss are. are.1)
