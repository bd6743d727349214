-- What the acts and statements of a type are does not depend on the texts of types.
use Rattle.std.proofs.Common.{◌≡◌, ℕ, ◌+◌, Bool, true, false, List, [], ◌∷◌, Option, Some, None, Ok}
use Rattle.std.proofs.Common.{Err, refl, ap, ◌∙◌, slice_get}
use Rattle.reg_base.specs.Results.{◌>>=◌}
use Rattle.cfg_model.specs.declared.config.Config.{Config}
use Rattle.cfg_model.specs.declared.kind.Kind.{Kind}
use Rattle.cfg_model.specs.declared.ledger.Chart.{Chart}
use Rattle.cfg_model.specs.declared.register.Register.{Register}
use Rattle.cfg_model.specs.declared.register.Resource.{Resource}
use Rattle.rule_text.specs.declared.plain.PlainAct.{PlainAct}
use Rattle.rule_text.specs.declared.plain.PlainAct.TheVariants.{Make as PlainMake}
use Rattle.rule_text.specs.declared.plain.PlainAct.TheVariants.{WriteOff as PlainWriteOff}
use Rattle.rule_text.specs.declared.plain.PlainAct.TheVariants.{Require as PlainRequire}
use Rattle.rule_text.specs.declared.plain.PlainAct.TheVariants.{Control as PlainControl}
use Rattle.rule_text.specs.declared.plain.PlainAct.TheVariants.{Entry as PlainEntry}
use Rattle.rule_text.specs.declared.plain.PlainAmount.{PlainAmount}
use Rattle.rule_text.specs.declared.plain.PlainBind.{PlainBind}
use Rattle.rule_text.specs.declared.plain.PlainSide.{PlainSide}
use Rattle.rule_text.specs.declared.plain.PlainSides.{PlainSides}
use Rattle.rule_text.specs.declared.plain.PlainStatement.{PlainStatement}
use Rattle.rule_text.specs.declared.plain.PlainTerm.{PlainTerm}
use Rattle.rule_text.specs.declared.plain.Target.{Target}
use Rattle.rule_text.specs.declared.plain.Verb.{Verb}
use Rattle.rule_text.specs.declared.token.Spelling.{Spelling}
use Rattle.rule_lang.specs.Acts.{resolved_act}
use Rattle.rule_lang.specs.Costs.{round_of, scale_at, costs_after}
use Rattle.rule_lang.specs.Entries.{resolved_account, resolved_side, entry_act, resolved_entry}
use Rattle.rule_lang.specs.Fields.{place_of, item_at}
use Rattle.rule_lang.specs.Least.{Checked, both, beside, each_or_least}
use Rattle.rule_lang.specs.Makes.{make_fits, make_act, resolved_record, resolved_make}
use Rattle.rule_lang.specs.Printed.{with_rules, with_kinds}
use Rattle.rule_lang.specs.Requirements.{require_fits, require_act, resolved_requirement}
use Rattle.rule_lang.specs.Requirements.{resolved_require, resolved_control}
use Rattle.rule_lang.specs.Rules.{scope_fits, last_fits, statement_if_fit, resolved_statement_in}
use Rattle.rule_lang.specs.Rules.{resolved_statement, fault_in_kind, statements_from}
use Rattle.rule_lang.specs.Sequences.{sequence_fits, sequences_fit, keeps_sequences}
use Rattle.rule_lang.specs.WriteOffs.{write_off_fits, write_off_act, resolved_write_off_from}
use Rattle.rule_lang.specs.WriteOffs.{resolved_write_off}
use Rattle.rule_lang.specs.declared.costs.Costs.{Costs}
use Rattle.rule_lang.specs.declared.statement.Act.{Act}
use Rattle.rule_lang.specs.declared.statement.Act.TheVariants.{Make, WriteOff, Require, Control}
use Rattle.rule_lang.specs.declared.statement.Act.TheVariants.{Entry}
use Rattle.rule_lang.specs.declared.statement.Bind.{Bind}
use Rattle.rule_lang.specs.declared.terms.Round.{Round}
use Rattle.rule_lang.proofs.OtherTexts.{resolved_sum-rules, resolved_code-rules}
use Rattle.rule_lang.proofs.OtherTexts.{resolved_when-rules, resolved_bind-rules}
use Rattle.rule_lang.proofs.OtherTexts.{resolved_amount-rules}

resolved_record-rules : (kind : Kind) (text : List ℕ) (round : Round) (place : ℕ)
    (register : Register) (verb : Verb) (binds : List PlainBind) (sums : List PlainAmount)
    → resolved_record (with_rules kind text) round place register verb binds sums
    ≡ resolved_record kind round place register verb binds sums
unfolding resolved_record
resolved_record-rules kind text round place register verb binds sums = λ i.
    make_act verb place (beside (make_fits verb register binds sums)
    (both (each_or_least (resolved_bind-rules kind text round register i) binds)
    (each_or_least (resolved_amount-rules kind text round register i) sums)))

resolved_make-others : (config : Config) (kinds : List Kind) (kind : Kind) (text : List ℕ)
    (round : Round) (verb : Verb) (target : Target) (sums : List PlainAmount)
    → resolved_make (with_kinds config kinds) (with_rules kind text) round verb target sums
    ≡ resolved_make config kind round verb target sums
unfolding resolved_make
resolved_make-others config kinds kind text round verb target sums = λ i.
    place_of (λ (r : Register). r.name) config.registers target.register >>= λ place.
    item_at config.registers place >>= λ register.
    resolved_record-rules kind text round place register verb target.binds sums i

resolved_write_off_from-rules : (kind : Kind) (text : List ℕ) (round : Round) (place : ℕ)
    (register : Register) (fifo : Bool) (binds : List PlainBind) (wanted : PlainAmount)
    (cost : Spelling)
    → resolved_write_off_from (with_rules kind text) round place register fifo binds wanted cost
    ≡ resolved_write_off_from kind round place register fifo binds wanted cost
unfolding resolved_write_off_from
resolved_write_off_from-rules kind text round place register fifo binds wanted cost = λ i.
    place_of (λ (r : Resource). r.name) register.resources cost >>= λ amount.
    write_off_act fifo place amount
    (beside (write_off_fits fifo register binds wanted.resource cost)
    (both (each_or_least (resolved_bind-rules kind text round register i) binds)
    (resolved_amount-rules kind text round register i wanted)))

resolved_write_off-others : (config : Config) (kinds : List Kind) (kind : Kind) (text : List ℕ)
    (round : Round) (fifo : Bool) (target : Target) (wanted : PlainAmount) (cost : Spelling)
    → resolved_write_off (with_kinds config kinds) (with_rules kind text) round fifo target wanted
    cost ≡ resolved_write_off config kind round fifo target wanted cost
unfolding resolved_write_off
resolved_write_off-others config kinds kind text round fifo target wanted cost = λ i.
    place_of (λ (r : Register). r.name) config.registers target.register >>= λ place.
    item_at config.registers place >>= λ register.
    resolved_write_off_from-rules kind text round place register fifo target.binds wanted cost i

resolved_requirement-rules : (kind : Kind) (text : List ℕ) (round : Round) (place : ℕ)
    (register : Register) (binds : List PlainBind) (at scale : ℕ) (least : List PlainTerm)
    (code : List ℕ)
    → resolved_requirement (with_rules kind text) round place register binds at scale least code
    ≡ resolved_requirement kind round place register binds at scale least code
unfolding resolved_requirement
resolved_requirement-rules kind text round place register binds at scale least code = λ i.
    require_act place at code (beside (require_fits register binds)
    (both (each_or_least (resolved_bind-rules kind text round register i) binds)
    (resolved_sum-rules kind text round (Some scale) least i)))

resolved_require-others : (config : Config) (kinds : List Kind) (kind : Kind) (text : List ℕ)
    (round : Round) (target : Target) (word : Spelling) (least : List PlainTerm) (code : List ℕ)
    → resolved_require (with_kinds config kinds) (with_rules kind text) round target word least code
    ≡ resolved_require config kind round target word least code
unfolding resolved_require
resolved_require-others config kinds kind text round target word least code = λ i.
    place_of (λ (r : Register). r.name) config.registers target.register >>= λ place.
    item_at config.registers place >>= λ register.
    place_of (λ (r : Resource). r.name) register.resources word >>= λ at.
    item_at register.resources at >>= λ resource.
    resolved_requirement-rules kind text round place register target.binds at resource.scale least
    code i

resolved_control-others : (config : Config) (kinds : List Kind) (register resource : Spelling)
    → resolved_control (with_kinds config kinds) register resource
    ≡ resolved_control config register resource
unfolding resolved_control
resolved_control-others config kinds register resource = refl

resolved_account-rules : (kind : Kind) (text : List ℕ) (round : Round) (side : PlainSide)
    → resolved_account (with_rules kind text) round side ≡ resolved_account kind round side
unfolding resolved_account
resolved_account-rules kind text round side = λ i.
    both (resolved_code-rules kind text round side.account i)
    (each_or_least (λ c. resolved_code-rules kind text round c i) side.extras) >>= λ p.
    Ok (record { account = p.0; extras = p.1 })

resolved_side-rules : (kind : Kind) (text : List ℕ) (round : Round) (side : Option PlainSide)
    → resolved_side (with_rules kind text) round side ≡ resolved_side kind round side
unfolding resolved_side
resolved_side-rules kind text round None = refl
resolved_side-rules kind text round (Some side) = rw (resolved_account-rules kind text round side)
    refl

resolved_entry-others : (config : Config) (kinds : List Kind) (kind : Kind) (text : List ℕ)
    (round : Round) (ledger : Spelling) (sides : PlainSides) (amount : List PlainTerm)
    → resolved_entry (with_kinds config kinds) (with_rules kind text) round ledger sides amount
    ≡ resolved_entry config kind round ledger sides amount
unfolding resolved_entry
resolved_entry-others config kinds kind text round ledger sides amount = λ i.
    place_of (λ (c : Chart). c.name) config.ledgers ledger >>= λ place.
    item_at config.ledgers place >>= λ chart.
    entry_act place (both (both (resolved_side-rules kind text round sides.debit i)
    (resolved_side-rules kind text round sides.credit i))
    (resolved_sum-rules kind text round (Some chart.scale) amount i))

resolved_act-others : (config : Config) (kinds : List Kind) (kind : Kind) (text : List ℕ)
    (round : Round) (plain : PlainAct)
    → resolved_act (with_kinds config kinds) (with_rules kind text) round plain
    ≡ resolved_act config kind round plain
unfolding resolved_act
resolved_act-others config kinds kind text round (PlainMake verb target sums) = resolved_make-others
    config kinds kind text round verb target sums
resolved_act-others config kinds kind text round (PlainWriteOff fifo target wanted cost) =
    resolved_write_off-others config kinds kind text round fifo target wanted cost
resolved_act-others config kinds kind text round (PlainRequire target resource least code) =
    resolved_require-others config kinds kind text round target resource least code
resolved_act-others config kinds kind text round (PlainControl register resource) =
    resolved_control-others config kinds register resource
resolved_act-others config kinds kind text round (PlainEntry ledger sides amount) =
    resolved_entry-others config kinds kind text round ledger sides amount

sequences_at : (config : Config) (kinds : List Kind) (kind : Kind) (text : List ℕ) (place : ℕ)
    (binds : List Bind) (reads : Bool) (register : Option Register)
    → slice_get config.registers place ≡ register
    → sequences_fit (with_kinds config kinds) (with_rules kind text) place binds reads
    ≡ sequences_fit config kind place binds reads
unfolding sequences_fit sequence_fits
sequences_at config kinds kind text place binds reads None is = rw is refl
sequences_at config kinds kind text place binds reads (Some register) is = rw is refl

keeps_sequences-others : (config : Config) (kinds : List Kind) (kind : Kind) (text : List ℕ)
    (act : Act)
    → keeps_sequences (with_kinds config kinds) (with_rules kind text) act
    ≡ keeps_sequences config kind act
unfolding keeps_sequences
keeps_sequences-others config kinds kind text (Make verb register binds sums) = sequences_at config
    kinds kind text register binds false (slice_get config.registers register) refl
keeps_sequences-others config kinds kind text (WriteOff fifo register binds quantity wanted
    amount) = sequences_at config kinds kind text register binds true
    (slice_get config.registers register) refl
keeps_sequences-others config kinds kind text (Require register binds resource least code) =
    sequences_at config kinds kind text register binds true (slice_get config.registers register)
    refl
keeps_sequences-others config kinds kind text (Control register resource) = refl
keeps_sequences-others config kinds kind text (Entry ledger debit credit amount) = refl

last_fits-others : (config : Config) (kinds : List Kind) (kind : Kind) (text : List ℕ) (before : ℕ)
    (act : Act)
    → last_fits (with_kinds config kinds) (with_rules kind text) before act
    ≡ last_fits config kind before act
unfolding last_fits
last_fits-others config kinds kind text before act = rw (keeps_sequences-others config kinds kind
    text act) refl

resolved_statement-others : (config : Config) (kinds : List Kind) (kind : Kind) (text : List ℕ)
    (costs : Costs) (before : ℕ) (plain : PlainStatement)
    → resolved_statement (with_kinds config kinds) (with_rules kind text) costs before plain
    ≡ resolved_statement config kind costs before plain
unfolding resolved_statement resolved_statement_in statement_if_fit
resolved_statement-others config kinds kind text costs before plain = λ i.
    let round : Round = round_of costs plain.scope in
    beside (scope_fits plain) (both (resolved_act-others config kinds kind text round plain.act i)
    (resolved_when-rules kind text round plain.when i)) >>= λ p.
    last_fits-others config kinds kind text before p.0 i >>= λ u.
    Ok (record { each = round.each; act = p.0; when = p.1 })

costs_after-others : (config : Config) (kinds : List Kind) (costs : Costs) (each : Bool) (act : Act)
    → costs_after (with_kinds config kinds) costs each act ≡ costs_after config costs each act
unfolding costs_after scale_at
costs_after-others config kinds costs each (Make verb register binds sums) = refl
costs_after-others config kinds costs each (WriteOff fifo register binds quantity wanted amount) =
    refl
costs_after-others config kinds costs each (Require register binds resource least code) = refl
costs_after-others config kinds costs each (Control register resource) = refl
costs_after-others config kinds costs each (Entry ledger debit credit amount) = refl

fault_in_kind-rules : {X : Type 0} (kind : Kind) (text : List ℕ) (place : ℕ) (checked : Checked X)
    → fault_in_kind (with_rules kind text) place checked ≡ fault_in_kind kind place checked
fault_in_kind-rules kind text place (Ok x) = refl
fault_in_kind-rules kind text place (Err why) = refl

-- the statements of a type do not depend on the texts of types
pub statements_from-others : (config : Config) (kinds : List Kind) (kind : Kind) (text : List ℕ)
    (costs : Costs) (before : ℕ) (plains : List PlainStatement)
    → statements_from (with_kinds config kinds) (with_rules kind text) costs before plains
    ≡ statements_from config kind costs before plains
unfolding statements_from
statements_from-others config kinds kind text costs before [] = refl
statements_from-others config kinds kind text costs before (plain ∷ plains) =
    rw (
      resolved_statement-others config kinds kind text costs before plain,
      fault_in_kind-rules
          kind text plain.place (resolved_statement config kind costs before plain),
    )
    (λ i. fault_in_kind kind plain.place (resolved_statement config kind costs before plain) >>=
    λ s.
    (ap (λ costs. statements_from (with_kinds config kinds) (with_rules kind text) costs
    (before + 1) plains) (costs_after-others config kinds costs s.each s.act)
    ∙ statements_from-others config kinds kind text (costs_after config costs s.each s.act)
    (before + 1) plains) i >>= λ ss.
    Ok (s ∷ ss))
