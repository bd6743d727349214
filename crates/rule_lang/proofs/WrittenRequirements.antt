-- Requirements and controls are written so that they read as the same.
use Rattle.std.proofs.Common.{◌≡◌, ℕ, Bool, true, false, List, Some, Ok, IfOk, refl, slice_get}
use Rattle.std.proofs.lemmas.Bool.{and_from, and_parts}
use Rattle.std.specs.List.{list_all}
use Rattle.reg_base.specs.Codes.{is_code}
use Rattle.cfg_model.specs.declared.config.Config.{Config}
use Rattle.cfg_model.specs.declared.kind.Kind.{Kind}
use Rattle.cfg_model.specs.declared.register.Register.{Register}
use Rattle.cfg_model.specs.declared.register.Resource.{Resource}
use Rattle.rule_text.specs.declared.plain.PlainAct.TheVariants.{Require as PlainRequire}
use Rattle.rule_text.specs.declared.plain.PlainAct.TheVariants.{Control as PlainControl}
use Rattle.rule_text.specs.declared.plain.PlainBind.{PlainBind}
use Rattle.rule_text.specs.declared.plain.PlainTerm.{PlainTerm}
use Rattle.rule_text.specs.declared.plain.Target.{Target}
use Rattle.rule_text.specs.declared.token.Spelling.{Spelling}
use Rattle.rule_text.proofs.ForAbove.{act_text as plain_act_text, scope_text as plain_scope_text}
use Rattle.rule_text.proofs.ForAbove.{is_named, act_fits}
use Rattle.rule_text.proofs.ForAbove.{spelling_read, bind_read, target_read, terms_read}
use Rattle.rule_lang.specs.Acts.{resolved_act}
use Rattle.rule_lang.specs.Binds.{resolved_bind}
use Rattle.rule_lang.specs.Fields.{place_of}
use Rattle.rule_lang.specs.Least.{Checked, both, beside, each_or_least}
use Rattle.rule_lang.specs.Requirements.{require_fits, require_act, resolved_requirement}
use Rattle.rule_lang.specs.Requirements.{resolved_require, resolved_control}
use Rattle.rule_lang.specs.RuleTexts.{require_text, control_text, act_text, scope_text}
use Rattle.rule_lang.specs.Terms.{resolved_sum}
use Rattle.rule_lang.specs.declared.fault.RuleWhy.TheVariants.{UnknownName, WrongRegister}
use Rattle.rule_lang.specs.declared.statement.Act.TheVariants.{Require, Control}
use Rattle.rule_lang.specs.declared.statement.Bind.{Bind}
use Rattle.rule_lang.specs.declared.statement.Sum.{Sum}
use Rattle.rule_lang.specs.declared.terms.Round.{Round}
use Rattle.rule_lang.proofs.CodeLemmas.{AreBinds, binds-written}
use Rattle.rule_lang.proofs.NameLemmas.{IfOk-self, IsWritten, place_of-written}
use Rattle.rule_lang.proofs.ScaledLemmas.{scaled_terms, IsSum, resolved_sum-scaled}
use Rattle.rule_lang.proofs.StepLemmas.{step-IfOk, some-IfOk, must-IfOk, both-IfOk, beside-IfOk}
use Rattle.rule_lang.proofs.StepLemmas.{IfOk-follows}
use Rattle.rule_lang.proofs.WrittenMakes.{written_scope, IsWrittenAct, named, passed, beside-Ok}

require-scope : (place : ℕ) (binds : List Bind) (resource : ℕ) (least : Sum) (code : List ℕ)
    (each : Bool)
    → scope_text each (Require place binds resource least code)
    ≡ plain_scope_text (written_scope false each)
unfolding scope_text
require-scope place binds resource least code true = refl
require-scope place binds resource least code false = refl

-- what was found for a requirement
record IsRequired (kind : Kind) (round : Round) (register : Register) (binds : List PlainBind)
    (word : Spelling) (least : List PlainTerm) (at : ℕ) (resource : Resource)
    (parts : List Bind × Sum) : Type 0 where
  word_at : place_of (λ (r : Resource). r.name) register.resources word ≡ Ok at
  word_named : IsWritten (λ (r : Resource). r.name) register.resources word at
  there : slice_get register.resources at ≡ Some resource
  fit : require_fits register binds ≡ Ok tt
  bound : each_or_least (resolved_bind kind round register) binds ≡ Ok parts.0
  are_binds : AreBinds kind register binds parts.0
  is_sum : IsSum kind round resource.scale least parts.1

resolved_requirement-text : (config : Config) (kind : Kind) (round : Round) (place : ℕ)
    (register : Register) (target : Target) (word : Spelling) (least : List PlainTerm)
    (code : List ℕ) (at : ℕ) (resource : Resource)
    (parts : List Bind × Sum)
    → IsWritten (λ (r : Register). r.name) config.registers target.register place
    → slice_get config.registers place ≡ Some register
    → IsRequired kind round register target.binds word least at resource parts
    → act_text config kind (Require place parts.0 at parts.1 code)
    ≡ plain_act_text (PlainRequire target word (scaled_terms resource.scale least) code)
unfolding act_text require_text plain_act_text
resolved_requirement-text config kind round place register target word least code at resource parts
    written found is =
    rw (
      found,
      is.are_binds.text,
      is.word_named.name,
      is.there,
      is.is_sum.text,
      named (λ (r : Register). r.name) config.registers target.register place register written
          found,
    ) refl

resolved_requirement-same : (config : Config) (kind : Kind) (round : Round) (place : ℕ)
    (register : Register) (target : Target) (word : Spelling) (least : List PlainTerm)
    (code : List ℕ) (at : ℕ) (resource : Resource)
    (parts : List Bind × Sum)
    → place_of (λ (r : Register). r.name) config.registers target.register ≡ Ok place
    → slice_get config.registers place ≡ Some register
    → IsRequired kind round register target.binds word least at resource parts
    → resolved_act config kind round (PlainRequire target word (scaled_terms resource.scale least)
    code) ≡ Ok (Require place parts.0 at parts.1 code)
unfolding resolved_act resolved_require resolved_requirement require_act
resolved_requirement-same config kind round place register target word least code at resource parts
    found register_at is =
    rw (
      found,
      register_at,
      is.word_at,
      is.there,
      beside-Ok (require_fits register target.binds)
          (each_or_least (resolved_bind kind round register)
          target.binds) (resolved_sum kind round (Some resource.scale)
          (scaled_terms resource.scale least)) parts.0 parts.1
          is.fit is.bound is.is_sum.same,
    ) refl

pub require-written : (config : Config) (kind : Kind) (round : Round) (target : Target)
    (word : Spelling) (least : List PlainTerm) (code : List ℕ)
    → target_read target ≡ true → spelling_read word ≡ true → terms_read least ≡ true
    → is_code code ≡ true
    → IfOk (resolved_require config kind round target word least code)
    (IsWrittenAct config kind round false)
unfolding resolved_require resolved_requirement require_act act_fits
require-written config kind round target word least code target_is word_is least_is code_is =
    let reads = and_parts (spelling_read target.register) (list_all bind_read target.binds)
    target_is in
    let find : Checked ℕ = place_of (λ (r : Register). r.name) config.registers target.register in
    step-IfOk _ _ find _
    (IfOk-self find (IsWritten (λ (r : Register). r.name) config.registers target.register)
    (place_of-written (λ (r : Register). r.name) config.registers target.register reads.0))
    (λ place h. some-IfOk _ _ (slice_get config.registers place) UnknownName
    (λ r register_at.
    let find_word : Checked ℕ = place_of (λ (s : Resource). s.name) r.resources word in
    step-IfOk _ _ find_word _
    (IfOk-self find_word (IsWritten (λ (s : Resource). s.name) r.resources word)
    (place_of-written (λ (s : Resource). s.name) r.resources word word_is))
    (λ at f. some-IfOk _ _ (slice_get r.resources at) UnknownName
    (λ s there.
    let bs : Checked (List Bind) = each_or_least (resolved_bind kind round r) target.binds in
    let sum : Checked Sum = resolved_sum kind round (Some s.scale) least in
    let fit : Checked (Unit {0}) = require_fits r target.binds in
    step-IfOk _ _ (beside fit (both bs sum)) _
    (beside-IfOk fit (both bs sum) (fit ≡ Ok tt) _ (passed fit)
    (both-IfOk bs sum (λ b. (bs ≡ Ok b) × AreBinds kind r target.binds b)
    (IsSum kind round s.scale least)
    (IfOk-self bs (AreBinds kind r target.binds) (binds-written kind round r target.binds reads.1))
    (resolved_sum-scaled kind round s.scale least least_is)))
    (λ p g.
    let is : IsRequired kind round r target.binds word least at s p =
    record {
      word_at = f.0;
      word_named = f.1;
      there = there;
      fit = g.0;
      bound = g.1.0.0;
      are_binds =
          g.1.0.1;
      is_sum = g.1.1;
    } in
    record {
      written = PlainRequire target word (scaled_terms s.scale least) code;
      text = resolved_requirement-text config kind round place r target word least code at s p h.1
          register_at is;
      same = resolved_requirement-same config kind round place r target word least code at s p h.0
          register_at is;
      fits = and_from _ _ (and_from _ _ h.1.named is.are_binds.fits)
          (and_from _ _ f.1.named (and_from _ _ is.is_sum.fits code_is));
      is = refl;
      scope = require-scope place p.0 at p.1 code;
    })))))

control-scope : (place at : ℕ) (each : Bool) → scope_text each (Control place at)
    ≡ plain_scope_text (written_scope true each)
unfolding scope_text
control-scope place at each = refl

control-text : (config : Config) (kind : Kind) (place : ℕ) (register : Register)
    (word resource : Spelling) (at : ℕ)
    → IsWritten (λ (r : Register). r.name) config.registers word place
    → slice_get config.registers place ≡ Some register
    → IsWritten (λ (r : Resource). r.name) register.resources resource at
    → act_text config kind (Control place at) ≡ plain_act_text (PlainControl word resource)
unfolding act_text control_text plain_act_text
control-text config kind place register word resource at written found is =
    rw (
      found,
      is.name,
      named (λ (r : Register). r.name) config.registers word place register
          written found,
    ) refl

control-found : (config : Config) (kind : Kind) (word resource : Spelling)
    → spelling_read word ≡ true → spelling_read resource ≡ true
    → IfOk (resolved_control config word resource) (λ act. (act_text config kind act
    ≡ plain_act_text (PlainControl word resource))
    × (is_named word ≡ true) × (is_named resource ≡ true) × ((each : Bool)
    → scope_text each act ≡ plain_scope_text (written_scope true each)))
unfolding resolved_control
control-found config kind word resource word_is resource_is =
    let find : Checked ℕ = place_of (λ (r : Register). r.name) config.registers word in
    step-IfOk _ _ find (IsWritten (λ (r : Register). r.name) config.registers word)
    (place_of-written (λ (r : Register). r.name) config.registers word word_is)
    (λ place h. some-IfOk _ _ (slice_get config.registers place) UnknownName
    (λ r register_at.
    let find_resource : Checked ℕ = place_of (λ (s : Resource). s.name) r.resources resource in
    step-IfOk _ _ find_resource (IsWritten (λ (s : Resource). s.name) r.resources resource)
    (place_of-written (λ (s : Resource). s.name) r.resources resource resource_is)
    (λ at f. must-IfOk _ _ r.balance WrongRegister
    (λ u on. (
      control-text config kind place r word resource at h register_at f,
      h.named,
      f.named,
      control-scope place at,
    )))))

pub control-written : (config : Config) (kind : Kind) (round : Round) (word resource : Spelling)
    → spelling_read word ≡ true → spelling_read resource ≡ true
    → IfOk (resolved_control config word resource) (IsWrittenAct config kind round true)
unfolding resolved_act act_fits
control-written config kind round word resource word_is resource_is =
    IfOk-follows (resolved_control config word resource) _ (IsWrittenAct config kind round true)
    (λ act h. record {
      written = PlainControl word resource;
      text = h.1.0;
      same = h.0;
      fits = and_from _ _ h.1.1 h.1.2;
      is = refl;
      scope = h.1.3;
    })
    (IfOk-self (resolved_control config word resource) _ (control-found config kind word resource
    word_is resource_is))
