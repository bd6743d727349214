-- Receipts, expenses and turns are written so that they read as the same.
use Rattle.std.proofs.Common.{◌≡◌, ℕ, Bool, true, false, List, map, Option, Some, None, Ok, IfOk}
use Rattle.std.proofs.Common.{refl, ap, sym, ◌∙◌, slice_get}
use Rattle.std.proofs.lemmas.Bool.{and_from, and_parts}
use Rattle.std.specs.List.{list_all}
use Rattle.cfg_model.specs.declared.config.Config.{Config}
use Rattle.cfg_model.specs.declared.kind.Kind.{Kind}
use Rattle.cfg_model.specs.declared.register.Register.{Register}
use Rattle.rule_text.specs.declared.plain.PlainAct.{PlainAct}
use Rattle.rule_text.specs.declared.plain.PlainAct.TheVariants.{Make as PlainMake}
use Rattle.rule_text.specs.declared.plain.PlainAmount.{PlainAmount}
use Rattle.rule_text.specs.declared.plain.PlainBind.{PlainBind}
use Rattle.rule_text.specs.declared.plain.Scope.{Scope}
use Rattle.rule_text.specs.declared.plain.Scope.TheVariants.{Once, EachLine}
use Rattle.rule_text.specs.declared.plain.Target.{Target}
use Rattle.rule_text.specs.declared.plain.Verb.{Verb}
use Rattle.rule_text.specs.declared.plain.Verb.TheVariants.{Receipt, Expense, Turn}
use Rattle.rule_text.specs.declared.token.Spelling.{Spelling}
use Rattle.rule_text.proofs.ForAbove.{spelling_text, verb_text as plain_verb_text}
use Rattle.rule_text.proofs.ForAbove.{act_text as plain_act_text, scope_text as plain_scope_text}
use Rattle.rule_text.proofs.ForAbove.{is_small, act_fits}
use Rattle.rule_text.proofs.ForAbove.{spelling_read, bind_read, target_read, amounts_read}
use Rattle.rule_lang.specs.Acts.{resolved_act}
use Rattle.rule_lang.specs.Binds.{resolved_bind, resolved_amount}
use Rattle.rule_lang.specs.Fields.{place_of}
use Rattle.rule_lang.specs.Least.{Checked, both, beside, each_or_least}
use Rattle.rule_lang.specs.Makes.{make_fits, make_act, resolved_record, resolved_make}
use Rattle.rule_lang.specs.Rules.{is_control}
use Rattle.rule_lang.specs.RuleTexts.{verb_text, make_text, act_text, scope_text}
use Rattle.rule_lang.specs.TermTexts.{text_if}
use Rattle.rule_lang.specs.declared.fault.RuleWhy.TheVariants.{UnknownName}
use Rattle.rule_lang.specs.declared.statement.Act.{Act}
use Rattle.rule_lang.specs.declared.statement.Act.TheVariants.{Make}
use Rattle.rule_lang.specs.declared.statement.Bind.{Bind}
use Rattle.rule_lang.specs.declared.statement.Sum.{Sum}
use Rattle.rule_lang.specs.declared.terms.Round.{Round}
use Rattle.rule_lang.proofs.CodeLemmas.{AreBinds, binds-written}
use Rattle.rule_lang.proofs.NameLemmas.{IfOk-self, IsWritten, place_of-written}
use Rattle.rule_lang.proofs.StepLemmas.{step-IfOk, some-IfOk, self-IfOk, both-IfOk, beside-IfOk}
use Rattle.rule_lang.proofs.StepLemmas.{IfOk-follows}
use Rattle.rule_lang.proofs.WrittenAmounts.{scaled_amount, AreAmounts, amounts-written}
use Rattle.rule_lang.proofs.ZipLemmas.{none_twice-map}

-- the scope that is written: none for a control
abbrev pub written_scope : Bool → Bool → Option Scope
written_scope true each = None
written_scope false true = Some EachLine
written_scope false false = Some Once

-- an act is written so that it reads as the same
pub record IsWrittenAct (config : Config) (kind : Kind) (round : Round) (control : Bool)
    (act : Act) : Type 0 where
  pub written : PlainAct
  pub text : act_text config kind act ≡ plain_act_text written
  pub same : resolved_act config kind round written ≡ Ok act
  pub fits : act_fits is_small written ≡ true
  pub is : is_control written ≡ control
  pub scope : (each : Bool) → scope_text each act ≡ plain_scope_text (written_scope control each)

-- what stands at the place has the name that was read
pub named : {X : Type 0} (name_of : X → List ℕ) (xs : List X) (spelling : Spelling) (place : ℕ)
    (x : X)
    → IsWritten name_of xs spelling place → slice_get xs place ≡ Some x
    → name_of x ≡ spelling_text spelling
named name_of xs spelling place x written at = sym (ap (text_if name_of) at) ∙ written.name

-- a check that is passed
pub passed : (check : Checked (Unit {0})) → IfOk check (λ _. check ≡ Ok tt)
passed check = IfOk-follows check (λ u. check ≡ Ok u) (λ _. check ≡ Ok tt) (λ u is. is)
    (self-IfOk check)

-- what is accepted beside a check that is passed
pub beside-Ok : {X Y : Type 0} (check : Checked (Unit {0})) (a : Checked X) (b : Checked Y) (x : X)
    (y : Y)
    → check ≡ Ok tt → a ≡ Ok x → b ≡ Ok y → beside check (both a b) ≡ Ok (x, y)
unfolding beside both
beside-Ok check a b x y c p q = rw (c, p, q) refl

verb-same : (verb : Verb) → verb_text verb ≡ plain_verb_text verb
verb-same Receipt = refl
verb-same Expense = refl
verb-same Turn = refl

make-scope : (verb : Verb) (place : ℕ) (binds : List Bind) (sums : List (ℕ × Sum)) (each : Bool)
    → scope_text each (Make verb place binds sums) ≡ plain_scope_text (written_scope false each)
unfolding scope_text
make-scope verb place binds sums true = refl
make-scope verb place binds sums false = refl

make_fits-scaled : (verb : Verb) (register : Register) (binds : List PlainBind)
    (sums : List PlainAmount)
    → make_fits verb register binds (map (scaled_amount register) sums)
    ≡ make_fits verb register binds sums
unfolding make_fits
make_fits-scaled verb register binds sums =
    rw (none_twice-map (scaled_amount register) (λ (a : PlainAmount). a.resource) sums (λ a. refl))
    refl

-- what was found for a record
record IsMade (kind : Kind) (round : Round) (register : Register) (verb : Verb)
    (binds : List PlainBind) (sums : List PlainAmount) (parts : List Bind × List (ℕ × Sum)) : Type 0
  where
    fit : make_fits verb register binds sums ≡ Ok tt
    bound : each_or_least (resolved_bind kind round register) binds ≡ Ok parts.0
    are_binds : AreBinds kind register binds parts.0
    are_sums : AreAmounts kind round register (map (scaled_amount register) sums) parts.1

resolved_record-text : (config : Config) (kind : Kind) (round : Round) (place : ℕ)
    (register : Register) (verb : Verb) (target : Target) (sums : List PlainAmount)
    (parts : List Bind × List (ℕ × Sum))
    → IsWritten (λ (r : Register). r.name) config.registers target.register place
    → slice_get config.registers place ≡ Some register
    → IsMade kind round register verb target.binds sums parts
    → act_text config kind (Make verb place parts.0 parts.1)
    ≡ plain_act_text (PlainMake verb target (map (scaled_amount register) sums))
unfolding act_text make_text plain_act_text
resolved_record-text config kind round place register verb target sums parts written at is =
    rw (
      at,
      verb-same verb,
      is.are_binds.text,
      is.are_sums.text,
      named (λ (r : Register). r.name)
          config.registers target.register place register written at,
    ) refl

resolved_record-same : (config : Config) (kind : Kind) (round : Round) (place : ℕ)
    (register : Register) (verb : Verb) (target : Target) (sums : List PlainAmount)
    (parts : List Bind × List (ℕ × Sum))
    → place_of (λ (r : Register). r.name) config.registers target.register ≡ Ok place
    → slice_get config.registers place ≡ Some register
    → IsMade kind round register verb target.binds sums parts
    → resolved_act config kind round (PlainMake verb target (map (scaled_amount register) sums))
    ≡ Ok (Make verb place parts.0 parts.1)
unfolding resolved_act resolved_make resolved_record make_act
resolved_record-same config kind round place register verb target sums parts found at is =
    rw (
      found,
      at,
      make_fits-scaled verb register target.binds sums,
      beside-Ok (make_fits verb register target.binds sums)
          (each_or_least (resolved_bind kind round register) target.binds)
          (each_or_least (resolved_amount kind round register) (map (scaled_amount register) sums))
          parts.0 parts.1
          is.fit is.bound is.are_sums.same,
    ) refl

pub make-written : (config : Config) (kind : Kind) (round : Round) (verb : Verb) (target : Target)
    (sums : List PlainAmount)
    → target_read target ≡ true → amounts_read sums ≡ true
    → IfOk (resolved_make config kind round verb target sums) (IsWrittenAct config kind round false)
unfolding resolved_make resolved_record make_act act_fits
make-written config kind round verb target sums target_is sums_are =
    let reads = and_parts (spelling_read target.register) (list_all bind_read target.binds)
    target_is in
    let find : Checked ℕ = place_of (λ (r : Register). r.name) config.registers target.register in
    step-IfOk _ _ find _
    (IfOk-self find (IsWritten (λ (r : Register). r.name) config.registers target.register)
    (place_of-written (λ (r : Register). r.name) config.registers target.register reads.0))
    (λ place h. some-IfOk _ _ (slice_get config.registers place) UnknownName
    (λ r at.
    let bs : Checked (List Bind) = each_or_least (resolved_bind kind round r) target.binds in
    let ss : Checked (List (ℕ × Sum)) = each_or_least (resolved_amount kind round r) sums in
    let fit : Checked (Unit {0}) = make_fits verb r target.binds sums in
    step-IfOk _ _ (beside fit (both bs ss)) _
    (beside-IfOk fit (both bs ss) (fit ≡ Ok tt) _ (passed fit)
    (both-IfOk bs ss (λ b. (bs ≡ Ok b) × AreBinds kind r target.binds b)
    (AreAmounts kind round r (map (scaled_amount r) sums))
    (IfOk-self bs (AreBinds kind r target.binds) (binds-written kind round r target.binds reads.1))
    (amounts-written kind round r sums sums_are)))
    (λ p g.
    let is : IsMade kind round r verb target.binds sums p = record {
      fit = g.0;
      bound = g.1.0.0;
      are_binds = g.1.0.1;
      are_sums = g.1.1;
    } in
    record {
      written = PlainMake verb target (map (scaled_amount r) sums);
      text = resolved_record-text config kind round place r verb target sums p h.1 at is;
      same = resolved_record-same config kind round place r verb target sums p h.0 at is;
      fits = and_from _ _ (and_from _ _ h.1.named is.are_binds.fits) is.are_sums.fits;
      is = refl;
      scope = make-scope verb place p.0 p.1;
    })))
