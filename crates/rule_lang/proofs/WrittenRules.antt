-- Statements are written so that they read as the same.
use Rattle.std.proofs.Common.{◌≡◌, ℕ, ◌+◌, Bool, true, false, not, ◌||◌, List, [], ◌∷◌, ◌++◌, codes}
use Rattle.std.proofs.Common.{Option, Some, None, is_some, Ok, IfOk, refl, ap, ap₂, ◌∙◌}
use Rattle.std.proofs.lemmas.Bool.{and_from, and_parts}
use Rattle.std.specs.List.{list_all}
use Rattle.reg_base.specs.Results.{unless}
use Rattle.cfg_model.specs.declared.config.Config.{Config}
use Rattle.cfg_model.specs.declared.kind.Kind.{Kind}
use Rattle.rule_text.specs.declared.plain.PlainCond.{PlainCond}
use Rattle.rule_text.specs.declared.plain.PlainStatement.{PlainStatement}
use Rattle.rule_text.specs.declared.plain.Scope.{Scope}
use Rattle.rule_text.specs.declared.plain.Scope.TheVariants.{Once, EachLine}
use Rattle.rule_text.proofs.ForAbove.{scope_text as plain_scope_text}
use Rattle.rule_text.proofs.ForAbove.{when_text as plain_when_text}
use Rattle.rule_text.proofs.ForAbove.{statement_text as plain_statement_text}
use Rattle.rule_text.proofs.ForAbove.{statements_text as plain_statements_text, placed, is_small}
use Rattle.rule_text.proofs.ForAbove.{when_fits, statement_fits}
use Rattle.rule_text.proofs.ForAbove.{act_read, when_read, statement_read}
use Rattle.rule_lang.specs.Acts.{resolved_act}
use Rattle.rule_lang.specs.Conditions.{resolved_cond}
use Rattle.rule_lang.specs.Costs.{is_each, round_of, costs_after}
use Rattle.rule_lang.specs.Least.{Checked, both, beside}
use Rattle.rule_lang.specs.Rules.{is_control, scope_fits, resolved_when, last_fits}
use Rattle.rule_lang.specs.Rules.{statement_if_fit, resolved_statement_in, resolved_statement}
use Rattle.rule_lang.specs.Rules.{fault_in_kind, statements_from}
use Rattle.rule_lang.specs.RuleTexts.{statement_text, cost_of, statements_text}
use Rattle.rule_lang.specs.TermTexts.{when_text}
use Rattle.rule_lang.specs.declared.costs.Costs.{Costs}
use Rattle.rule_lang.specs.declared.fault.RuleWhy.TheVariants.{WrongScope}
use Rattle.rule_lang.specs.declared.statement.Act.{Act}
use Rattle.rule_lang.specs.declared.statement.Cond.{Cond}
use Rattle.rule_lang.specs.declared.statement.Statement.{Statement}
use Rattle.rule_lang.specs.declared.terms.Round.{Round}
use Rattle.rule_lang.proofs.LawLemmas.{fault_in_kind-IfOk}
use Rattle.rule_lang.proofs.StepLemmas.{step-IfOk, unless-IfOk, both-IfOk, beside-IfOk}
use Rattle.rule_lang.proofs.WrittenConditions.{IsWrittenCond, resolved_cond-written}
use Rattle.rule_lang.proofs.WrittenEntries.{resolved_act-written}
use Rattle.rule_lang.proofs.WrittenMakes.{written_scope, IsWrittenAct, passed, beside-Ok}

-- a condition, where there is one, is written so that it reads as the same
record IsWrittenWhen (kind : Kind) (round : Round) (there : Bool) (when : Option Cond) : Type 0
  where
    written : Option PlainCond
    text : when_text kind round.cost when ≡ plain_when_text written
    same : resolved_when kind round written ≡ Ok when
    fits : when_fits is_small written ≡ true
    is : is_some written ≡ there

resolved_when-written : (kind : Kind) (round : Round) (plain : Option PlainCond)
    → when_read plain ≡ true
    → IfOk (resolved_when kind round plain) (IsWrittenWhen kind round (is_some plain))
unfolding resolved_when when_read when_text when_fits
resolved_when-written kind round None read = record {
  written = None;
  text = refl;
  same = refl;
  fits = refl;
  is = refl;
}
resolved_when-written kind round (Some plain) read =
    step-IfOk _ _ (resolved_cond kind round plain) (IsWrittenCond kind round)
    (resolved_cond-written kind round plain read)
    (λ cond is. record {
      written = Some is.written;
      text = ap (λ t. codes " when " ++ t) is.text;
      same = rw is.same refl;
      fits = is.fits;
      is = refl;
    })

-- a scope that is written is that of the statement
scope-kept : (control : Bool) (scope : Option Scope) (when : Bool)
    → (not control || not (is_some scope || when)) ≡ true
    → is_each (written_scope control (is_each scope)) ≡ is_each scope
scope-kept true None when e = refl
scope-kept true (Some Once) when e = refl
scope-kept true (Some EachLine) when e = absurd (cc)
scope-kept false None when e = refl
scope-kept false (Some Once) when e = refl
scope-kept false (Some EachLine) when e = refl

scope-fits : (control : Bool) (scope : Option Scope) (each when : Bool)
    → (not control || not (is_some scope || when)) ≡ true
    → (not control || not (is_some (written_scope control each) || when)) ≡ true
scope-fits true None each when e = e
scope-fits true (Some scope) each when e = absurd (cc)
scope-fits false scope each when e = refl

round-each : (costs : Costs) (scope : Option Scope) → (round_of costs scope).each ≡ is_each scope
unfolding round_of
round-each costs None = refl
round-each costs (Some Once) = refl
round-each costs (Some EachLine) = refl

round-cost : (costs : Costs) (scope : Option Scope) → cost_of costs (round_of costs scope).each
    ≡ (round_of costs scope).cost
unfolding round_of
round-cost costs None = refl
round-cost costs (Some Once) = refl
round-cost costs (Some EachLine) = refl

round-same : (costs : Costs) (a b : Option Scope) → is_each a ≡ is_each b
    → round_of costs a ≡ round_of costs b
unfolding round_of
round-same costs a b e = rw e refl

-- a statement is written so that it reads as the same, wherever it stands
record IsWrittenStatement (config : Config) (kind : Kind) (costs : Costs) (before : ℕ)
    (statement : Statement) : Type 0 where
  written : PlainStatement
  text : statement_text config kind (cost_of costs statement.each) statement
      ≡ plain_statement_text written
  same : (place : ℕ) → resolved_statement config kind costs before
      (record { place = place; scope = written.scope; act = written.act; when = written.when })
      ≡ Ok statement
  fits : statement_fits is_small written ≡ true

-- what was found for a statement
record IsFound (config : Config) (kind : Kind) (round : Round) (before : ℕ) (plain : PlainStatement)
    (parts : Act × Option Cond) : Type 0 where
  suits : (not (is_control plain.act) || not (is_some plain.scope || is_some plain.when)) ≡ true
  act : IsWrittenAct config kind round (is_control plain.act) parts.0
  when : IsWrittenWhen kind round (is_some plain.when) parts.1
  last : last_fits config kind before parts.0 ≡ Ok tt

scope-Ok : (test : Bool) → test ≡ true → unless test WrongScope ≡ Ok tt
scope-Ok test is = rw is refl

found-same : (config : Config) (kind : Kind) (costs : Costs) (before : ℕ) (plain : PlainStatement)
    (parts : Act × Option Cond)
    → (is : IsFound config kind (round_of costs plain.scope) before plain parts) → (place : ℕ)
    → resolved_statement config kind costs before
    (record {
      place = place;
      scope = written_scope (is_control plain.act) (is_each plain.scope);
      act = is.act.written;
      when = is.when.written;
    })
    ≡ Ok (record { each = (round_of costs plain.scope).each; act = parts.0; when = parts.1 })
unfolding resolved_statement resolved_statement_in statement_if_fit scope_fits
found-same config kind costs before plain parts is place =
    let control = is_control plain.act in
    let fit : unless (not (is_control is.act.written) || not
    (is_some (written_scope control (is_each plain.scope)) || is_some is.when.written))
    WrongScope ≡ Ok tt =
    rw (is.act.is, is.when.is) (scope-Ok _ (scope-fits control plain.scope (is_each plain.scope)
    (is_some plain.when) is.suits)) in
    rw (
      round-same costs (written_scope control (is_each plain.scope)) plain.scope
          (scope-kept control plain.scope (is_some plain.when) is.suits),
      beside-Ok _ _ _ parts.0 parts.1 fit is.act.same is.when.same,
      is.last,
    ) refl

found-text : (config : Config) (kind : Kind) (costs : Costs) (before place : ℕ)
    (plain : PlainStatement) (parts : Act × Option Cond)
    → (is : IsFound config kind (round_of costs plain.scope) before plain parts)
    → statement_text config kind (cost_of costs (round_of costs plain.scope).each)
    (record { each = (round_of costs plain.scope).each; act = parts.0; when = parts.1 })
    ≡ plain_statement_text (record {
      place = place;
      scope = written_scope (is_control plain.act)
          (is_each plain.scope);
      act = is.act.written;
      when = is.when.written;
    })
unfolding statement_text plain_statement_text
found-text config kind costs before place plain parts is =
    rw (round-cost costs plain.scope)
    (ap₂ ◌++◌ (is.act.scope (round_of costs plain.scope).each
    ∙ ap (λ e. plain_scope_text (written_scope (is_control plain.act) e))
    (round-each costs plain.scope))
    (ap₂ ◌++◌ is.act.text (ap (λ t. t ++ codes ";\n") is.when.text)))

resolved_statement-written : (config : Config) (kind : Kind) (costs : Costs) (before : ℕ)
    (plain : PlainStatement) → statement_read plain ≡ true
    → IfOk (resolved_statement config kind costs before plain) (IsWrittenStatement config kind costs
    before)
unfolding resolved_statement resolved_statement_in statement_if_fit scope_fits
resolved_statement-written config kind costs before plain read =
    let parts = and_parts (act_read plain.act) (when_read plain.when) read in
    let round : Round = round_of costs plain.scope in
    let test : Bool = not (is_control plain.act) || not (is_some plain.scope || is_some plain.when)
    in
    let act : Checked Act = resolved_act config kind round plain.act in
    let when : Checked (Option Cond) = resolved_when kind round plain.when in
    step-IfOk _ _ (beside (unless test WrongScope) (both act when)) _
    (beside-IfOk (unless test WrongScope) (both act when) (test ≡ true) _
    (unless-IfOk test WrongScope)
    (both-IfOk act when (IsWrittenAct config kind round (is_control plain.act))
    (IsWrittenWhen kind round (is_some plain.when))
    (resolved_act-written config kind round plain.act parts.0)
    (resolved_when-written kind round plain.when parts.1)))
    (λ p h. step-IfOk _ _ (last_fits config kind before p.0) (λ _. last_fits config kind before p.0
    ≡ Ok tt) (passed (last_fits config kind before p.0))
    (λ u last.
    let is : IsFound config kind round before plain p = record {
      suits = h.0;
      act = h.1.0;
      when =
          h.1.1;
      last = last;
    } in
    record {
      written = record {
        place = 0;
        scope = written_scope (is_control plain.act)
            (is_each plain.scope);
        act = is.act.written;
        when = is.when.written;
      };
      text = found-text config kind costs before 0 plain p is;
      same = found-same config kind costs before plain p is;
      fits = and_from _ _ is.act.fits is.when.fits;
    }))

-- statements are written so that they read as the same, wherever their text begins
pub record AreWritten (config : Config) (kind : Kind) (costs : Costs) (before : ℕ)
    (statements : List Statement) : Type 0 where
  pub written : List PlainStatement
  pub text : statements_text config kind costs statements ≡ plain_statements_text written
  pub same : (place : ℕ) → statements_from config kind costs before (placed place written)
      ≡ Ok statements
  pub fits : list_all (statement_fits is_small) written ≡ true

first-written : (config : Config) (kind : Kind) (costs : Costs) (before : ℕ) (statement : Statement)
    (statements : List Statement)
    → IsWrittenStatement config kind costs before statement
    → AreWritten config kind (costs_after config costs statement.each statement.act) (before + 1)
    statements
    → AreWritten config kind costs before (statement ∷ statements)
unfolding statements_text plain_statements_text statements_from placed
first-written config kind costs before statement statements first others = record {
  written = first.written ∷ others.written;
  text = ap₂ ◌++◌ first.text others.text;
  same = λ place. rw (first.same place, others.same _) refl;
  fits = and_from _ _ first.fits others.fits;
}

pub statements_from-written : (config : Config) (kind : Kind) (costs : Costs) (before : ℕ)
    (plains : List PlainStatement) → list_all statement_read plains ≡ true
    → IfOk (statements_from config kind costs before plains) (AreWritten config kind costs before)
unfolding statements_from statements_text plain_statements_text placed
statements_from-written config kind costs before [] read = record {
  written = [];
  text = refl;
  same = λ place. refl;
  fits = refl;
}
statements_from-written config kind costs before (plain ∷ plains) read =
    let parts = and_parts (statement_read plain) (list_all statement_read plains) read in
    let checked : Checked Statement = resolved_statement config kind costs before plain in
    step-IfOk _ _ (fault_in_kind kind plain.place checked) (IsWrittenStatement config kind costs
    before)
    (fault_in_kind-IfOk kind plain.place checked (IsWrittenStatement config kind costs before)
    (resolved_statement-written config kind costs before plain parts.0))
    (λ s first. step-IfOk _ _ (statements_from config kind (costs_after config costs s.each s.act)
    (before + 1) plains)
    (AreWritten config kind (costs_after config costs s.each s.act) (before + 1))
    (statements_from-written config kind (costs_after config costs s.each s.act) (before + 1) plains
    parts.1)
    (λ ss others. first-written config kind costs before s ss first others))
