-- Write-offs are written so that they read as the same.
use Rattle.std.proofs.Common.{◌≡◌, ℕ, Bool, true, false, List, Some, Ok, IfOk, refl, slice_get}
use Rattle.std.proofs.lemmas.Bool.{and_from, and_parts}
use Rattle.std.specs.List.{list_all}
use Rattle.cfg_model.specs.declared.config.Config.{Config}
use Rattle.cfg_model.specs.declared.kind.Kind.{Kind}
use Rattle.cfg_model.specs.declared.register.Register.{Register}
use Rattle.cfg_model.specs.declared.register.Resource.{Resource}
use Rattle.rule_text.specs.declared.plain.PlainAct.TheVariants.{WriteOff as PlainWriteOff}
use Rattle.rule_text.specs.declared.plain.PlainAmount.{PlainAmount}
use Rattle.rule_text.specs.declared.plain.PlainBind.{PlainBind}
use Rattle.rule_text.specs.declared.plain.Target.{Target}
use Rattle.rule_text.specs.declared.token.Spelling.{Spelling}
use Rattle.rule_text.proofs.ForAbove.{order_text as plain_order_text, act_text as plain_act_text}
use Rattle.rule_text.proofs.ForAbove.{scope_text as plain_scope_text, act_fits}
use Rattle.rule_text.proofs.ForAbove.{spelling_read, bind_read, target_read, amount_read}
use Rattle.rule_lang.specs.Acts.{resolved_act}
use Rattle.rule_lang.specs.Binds.{resolved_bind, resolved_amount}
use Rattle.rule_lang.specs.Fields.{place_of}
use Rattle.rule_lang.specs.Least.{Checked, both, beside, each_or_least}
use Rattle.rule_lang.specs.RuleTexts.{order_text, write_off_text, act_text, scope_text}
use Rattle.rule_lang.specs.WriteOffs.{write_off_fits, write_off_act, resolved_write_off_from}
use Rattle.rule_lang.specs.WriteOffs.{resolved_write_off}
use Rattle.rule_lang.specs.declared.fault.RuleWhy.TheVariants.{UnknownName}
use Rattle.rule_lang.specs.declared.statement.Act.TheVariants.{WriteOff}
use Rattle.rule_lang.specs.declared.statement.Bind.{Bind}
use Rattle.rule_lang.specs.declared.statement.Sum.{Sum}
use Rattle.rule_lang.specs.declared.terms.Round.{Round}
use Rattle.rule_lang.proofs.CodeLemmas.{AreBinds, binds-written}
use Rattle.rule_lang.proofs.NameLemmas.{IfOk-self, IsWritten, place_of-written}
use Rattle.rule_lang.proofs.StepLemmas.{step-IfOk, some-IfOk, both-IfOk, beside-IfOk}
use Rattle.rule_lang.proofs.WrittenAmounts.{scaled_amount, IsAmount, resolved_amount-written}
use Rattle.rule_lang.proofs.WrittenMakes.{written_scope, IsWrittenAct, named, passed, beside-Ok}

order-same : (fifo : Bool) → order_text fifo ≡ plain_order_text fifo
order-same true = refl
order-same false = refl

write_off-scope : (fifo : Bool) (place : ℕ) (binds : List Bind) (quantity : ℕ) (wanted : Sum)
    (amount : ℕ) (each : Bool)
    → scope_text each (WriteOff fifo place binds quantity wanted amount)
    ≡ plain_scope_text (written_scope false each)
unfolding scope_text
write_off-scope fifo place binds quantity wanted amount true = refl
write_off-scope fifo place binds quantity wanted amount false = refl

-- what was found for a write-off
record IsWrittenOff (kind : Kind) (round : Round) (register : Register) (fifo : Bool)
    (binds : List PlainBind) (wanted : PlainAmount) (cost : Spelling) (amount : ℕ)
    (parts : List Bind × (ℕ × Sum)) : Type 0 where
  cost_at : place_of (λ (r : Resource). r.name) register.resources cost ≡ Ok amount
  cost_named : IsWritten (λ (r : Resource). r.name) register.resources cost amount
  fit : write_off_fits fifo register binds wanted.resource cost ≡ Ok tt
  bound : each_or_least (resolved_bind kind round register) binds ≡ Ok parts.0
  are_binds : AreBinds kind register binds parts.0
  is_sum : IsAmount kind round register (scaled_amount register wanted) parts.1

resolved_write_off_from-text : (config : Config) (kind : Kind) (round : Round) (place : ℕ)
    (register : Register) (fifo : Bool) (target : Target) (wanted : PlainAmount) (cost : Spelling)
    (amount : ℕ)
    (parts : List Bind × (ℕ × Sum))
    → IsWritten (λ (r : Register). r.name) config.registers target.register place
    → slice_get config.registers place ≡ Some register
    → IsWrittenOff kind round register fifo target.binds wanted cost amount parts
    → act_text config kind (WriteOff fifo place parts.0 parts.1.0 parts.1.1 amount)
    ≡ plain_act_text (PlainWriteOff fifo target (scaled_amount register wanted) cost)
unfolding act_text write_off_text plain_act_text
resolved_write_off_from-text config kind round place register fifo target wanted cost amount parts
    written at is =
    rw (
      at,
      order-same fifo,
      is.are_binds.text,
      is.is_sum.text,
      is.cost_named.name,
      named (λ (r : Register). r.name) config.registers target.register place register written at,
    ) refl

resolved_write_off_from-same : (config : Config) (kind : Kind) (round : Round) (place : ℕ)
    (register : Register) (fifo : Bool) (target : Target) (wanted : PlainAmount) (cost : Spelling)
    (amount : ℕ)
    (parts : List Bind × (ℕ × Sum))
    → place_of (λ (r : Register). r.name) config.registers target.register ≡ Ok place
    → slice_get config.registers place ≡ Some register
    → IsWrittenOff kind round register fifo target.binds wanted cost amount parts
    → resolved_act config kind round (PlainWriteOff fifo target (scaled_amount register wanted)
    cost) ≡ Ok (WriteOff fifo place parts.0 parts.1.0 parts.1.1 amount)
unfolding resolved_act resolved_write_off resolved_write_off_from write_off_act
resolved_write_off_from-same config kind round place register fifo target wanted cost amount parts
    found at is =
    rw (
      found,
      at,
      is.cost_at,
      beside-Ok (write_off_fits fifo register target.binds wanted.resource cost)
          (each_or_least (resolved_bind kind round register) target.binds)
          (resolved_amount kind round register (scaled_amount register wanted)) parts.0 parts.1
          is.fit is.bound is.is_sum.same,
    ) refl

pub write_off-written : (config : Config) (kind : Kind) (round : Round) (fifo : Bool)
    (target : Target) (wanted : PlainAmount) (cost : Spelling)
    → target_read target ≡ true → amount_read wanted ≡ true → spelling_read cost ≡ true
    → IfOk (resolved_write_off config kind round fifo target wanted cost)
    (IsWrittenAct config kind round false)
unfolding resolved_write_off resolved_write_off_from write_off_act act_fits
write_off-written config kind round fifo target wanted cost target_is wanted_is cost_is =
    let reads = and_parts (spelling_read target.register) (list_all bind_read target.binds)
    target_is in
    let find : Checked ℕ = place_of (λ (r : Register). r.name) config.registers target.register in
    step-IfOk _ _ find _
    (IfOk-self find (IsWritten (λ (r : Register). r.name) config.registers target.register)
    (place_of-written (λ (r : Register). r.name) config.registers target.register reads.0))
    (λ place h. some-IfOk _ _ (slice_get config.registers place) UnknownName
    (λ r at.
    let find_cost : Checked ℕ = place_of (λ (s : Resource). s.name) r.resources cost in
    step-IfOk _ _ find_cost _
    (IfOk-self find_cost (IsWritten (λ (s : Resource). s.name) r.resources cost)
    (place_of-written (λ (s : Resource). s.name) r.resources cost cost_is))
    (λ amount f.
    let bs : Checked (List Bind) = each_or_least (resolved_bind kind round r) target.binds in
    let sum : Checked (ℕ × Sum) = resolved_amount kind round r wanted in
    let fit : Checked (Unit {0}) = write_off_fits fifo r target.binds wanted.resource cost in
    step-IfOk _ _ (beside fit (both bs sum)) _
    (beside-IfOk fit (both bs sum) (fit ≡ Ok tt) _ (passed fit)
    (both-IfOk bs sum (λ b. (bs ≡ Ok b) × AreBinds kind r target.binds b)
    (IsAmount kind round r (scaled_amount r wanted))
    (IfOk-self bs (AreBinds kind r target.binds) (binds-written kind round r target.binds reads.1))
    (resolved_amount-written kind round r wanted wanted_is)))
    (λ p g.
    let is : IsWrittenOff kind round r fifo target.binds wanted cost amount p =
    record {
      cost_at = f.0;
      cost_named = f.1;
      fit = g.0;
      bound = g.1.0.0;
      are_binds = g.1.0.1;
      is_sum = g.1.1;
    } in
    record {
      written = PlainWriteOff fifo target (scaled_amount r wanted) cost;
      text = resolved_write_off_from-text config kind round place r fifo target wanted cost amount p
          h.1 at is;
      same = resolved_write_off_from-same config kind round place r fifo target wanted cost amount p
          h.0 at is;
      fits = and_from _ _ (and_from _ _ h.1.named is.are_binds.fits)
          (and_from _ _ is.is_sum.fits f.1.named);
      is = refl;
      scope = write_off-scope fifo place p.0 p.1.0 p.1.1 amount;
    }))))
