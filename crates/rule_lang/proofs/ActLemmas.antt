-- The places of acts are those of what they name.
use Rattle.std.proofs.Common.{◌≡◌, ℕ, Bool, true, false, not, List, Option, Some, None, IfOk, refl}
use Rattle.std.proofs.Common.{slice_get}
use Rattle.std.proofs.lemmas.Bool.{and_parts}
use Rattle.std.proofs.lemmas.List.Folds.{Any-from_list_any}
use Rattle.std.specs.List.{All, AllZip, Any, list_any}
use Rattle.reg_base.specs.Results.{unless}
use Rattle.cfg_model.specs.declared.config.Config.{Config}
use Rattle.cfg_model.specs.declared.kind.Kind.{Kind}
use Rattle.cfg_model.specs.declared.ledger.Chart.{Chart}
use Rattle.cfg_model.specs.declared.register.Dimension.{Dimension}
use Rattle.cfg_model.specs.declared.register.Register.{Register}
use Rattle.cfg_model.specs.declared.register.Resource.{Resource}
use Rattle.rule_text.specs.Fronts.{is_spelt}
use Rattle.rule_text.specs.declared.plain.PlainAct.{PlainAct}
use Rattle.rule_text.specs.declared.plain.PlainAct.TheVariants.{Make as PlainMake}
use Rattle.rule_text.specs.declared.plain.PlainAct.TheVariants.{WriteOff as PlainWriteOff}
use Rattle.rule_text.specs.declared.plain.PlainAct.TheVariants.{Require as PlainRequire}
use Rattle.rule_text.specs.declared.plain.PlainAct.TheVariants.{Control as PlainControl}
use Rattle.rule_text.specs.declared.plain.PlainAct.TheVariants.{Entry as PlainEntry}
use Rattle.rule_text.specs.declared.plain.PlainAmount.{PlainAmount}
use Rattle.rule_text.specs.declared.plain.PlainBind.{PlainBind}
use Rattle.rule_text.specs.declared.plain.PlainSide.{PlainSide}
use Rattle.rule_text.specs.declared.plain.PlainSides.{PlainSides}
use Rattle.rule_text.specs.declared.plain.PlainTerm.{PlainTerm}
use Rattle.rule_text.specs.declared.plain.Target.{Target}
use Rattle.rule_text.specs.declared.plain.Verb.{Verb}
use Rattle.rule_text.specs.declared.token.Spelling.{Spelling}
use Rattle.rule_lang.specs.Acts.{resolved_act}
use Rattle.rule_lang.specs.Binds.{resolved_bind, resolved_amount, binds_each_dimension, none_twice}
use Rattle.rule_lang.specs.Binds.{same_name}
use Rattle.rule_lang.specs.Entries.{resolved_account, resolved_side, entry_act, resolved_entry}
use Rattle.rule_lang.specs.Least.{Checked, both, beside, each_or_least}
use Rattle.rule_lang.specs.Makes.{suits, make_fits, make_act, resolved_record, resolved_make}
use Rattle.rule_lang.specs.Requirements.{require_fits, require_act, resolved_requirement}
use Rattle.rule_lang.specs.Requirements.{resolved_require, resolved_control}
use Rattle.rule_lang.specs.Resolved.{IsCodeTerm, IsBind, IsAmount, IsNoLot, AreBinds}
use Rattle.rule_lang.specs.Resolved.{IsResolvedSide}
use Rattle.rule_lang.specs.ResolvedStatements.{IsMake, IsWriteOff, IsAct}
use Rattle.rule_lang.specs.Terms.{resolved_code, resolved_sum}
use Rattle.rule_lang.specs.WriteOffs.{lot_bound, order_fits, write_off_fits, write_off_act}
use Rattle.rule_lang.specs.WriteOffs.{resolved_write_off_from, resolved_write_off}
use Rattle.rule_lang.specs.declared.fault.RuleWhy.TheVariants.{Unbound, TwiceBound, WrongRegister}
use Rattle.rule_lang.specs.declared.terms.Round.{Round}
use Rattle.rule_lang.specs.declared.statement.Bind.{Bind}
use Rattle.rule_lang.specs.declared.statement.CodeTerm.{CodeTerm}
use Rattle.rule_lang.specs.declared.statement.Place.{Place}
use Rattle.rule_lang.specs.declared.statement.Sum.{Sum}
use Rattle.rule_lang.proofs.BindLemmas.{apart, none_twice-different, each-bound, all-bound}
use Rattle.rule_lang.proofs.BindLemmas.{lots-free, false-true, not-true}
use Rattle.rule_lang.proofs.StepLemmas.{step-IfOk, must-IfOk, unless-IfOk, both-IfOk, beside-IfOk}
use Rattle.rule_lang.proofs.StepLemmas.{each-IfOk, IfOk-follows}
use Rattle.rule_lang.proofs.ResolvedLemmas.{IsThere, place_of-IfOk, named-IfOk, sum_of-IfOk}
use Rattle.rule_lang.proofs.ResolvedLemmas.{code_of-IfOk, bind_of-IfOk, amount_of-IfOk}
use Rattle.rule_lang.specs.Fields.{place_of}

binds-IfOk : (kind : Kind) (round : Round) (register : Register) (binds : List PlainBind)
    → IfOk (each_or_least (resolved_bind kind round register) binds)
    (AllZip (IsBind kind round register) binds)
binds-IfOk kind round register binds =
    each-IfOk (resolved_bind kind round register) (IsBind kind round register)
    (bind_of-IfOk kind round register) binds

amounts-IfOk : (kind : Kind) (round : Round) (register : Register) (sums : List PlainAmount)
    → IfOk (each_or_least (resolved_amount kind round register) sums)
    (AllZip (IsAmount kind round register) sums)
amounts-IfOk kind round register sums =
    each-IfOk (resolved_amount kind round register) (IsAmount kind round register)
    (amount_of-IfOk kind round register) sums

bind-there : (kind : Kind) (round : Round) (register : Register) (plain : PlainBind) (bind : Bind)
    → IsBind kind round register plain bind
    → IsThere (λ (d : Dimension). d.name) register.dimensions plain.dimension bind.dimension
bind-there kind round register plain bind is = (is.0, is.1, is.2)

amount-there : (kind : Kind) (round : Round) (register : Register) (plain : PlainAmount)
    (amount : ℕ × Sum)
    → IsAmount kind round register plain amount
    → IsThere (λ (r : Resource). r.name) register.resources plain.resource amount.0
amount-there kind round register plain amount is = (is.0, is.1, is.2)

-- binds of which none stands twice
are_binds : (kind : Kind) (round : Round) (register : Register) (plain : List PlainBind)
    (binds : List Bind)
    → AllZip (IsBind kind round register) plain binds
    → none_twice (λ (b : PlainBind). b.dimension) plain ≡ true
    → AreBinds kind round register plain binds
are_binds kind round register plain binds zip once = record {
  each = zip;
  different = none_twice-different (λ (d : Dimension). d.name) register.dimensions
      (λ (b : PlainBind). b.dimension)
      (λ (b : Bind). b.dimension) (IsBind kind round register) (bind-there kind round register)
      plain binds zip once;
}

-- the tests of a record
record MakeFits (verb : Verb) (register : Register) (binds : List PlainBind)
    (sums : List PlainAmount) : Type 0 where
  bound : binds_each_dimension false register binds ≡ true
  once : none_twice (λ (b : PlainBind). b.dimension) binds ≡ true
  sums_once : none_twice (λ (a : PlainAmount). a.resource) sums ≡ true
  suits : suits verb register.balance ≡ true

make_fits-IfOk : (verb : Verb) (register : Register) (binds : List PlainBind)
    (sums : List PlainAmount)
    → IfOk (make_fits verb register binds sums) (λ _. MakeFits verb register binds sums)
unfolding make_fits
make_fits-IfOk verb register binds sums = must-IfOk _ _ (binds_each_dimension false register binds)
    Unbound
    (λ u a. must-IfOk _ _ (none_twice (λ (b : PlainBind). b.dimension) binds) TwiceBound
    (λ v b. must-IfOk _ _ (none_twice (λ (s : PlainAmount). s.resource) sums) TwiceBound
    (λ w c. IfOk-follows (unless (suits verb register.balance) WrongRegister)
    (λ _. suits verb register.balance ≡ true)
    (λ _. MakeFits verb register binds sums)
    (λ x d. record { bound = a; once = b; sums_once = c; suits = d })
    (unless-IfOk (suits verb register.balance) WrongRegister))))

is_make : (kind : Kind) (round : Round) (verb : Verb) (register : Register) (plain : List PlainBind)
    (sums : List PlainAmount)
    (binds : List Bind) (amounts : List (ℕ × Sum)) → MakeFits verb register plain sums
    → AllZip (IsBind kind round register) plain binds
    → AllZip (IsAmount kind round register) sums amounts
    → IsMake kind round verb plain sums binds amounts register
is_make kind round verb register plain sums binds amounts fits zip sums_zip = record {
  fits = fits.suits;
  are_binds = are_binds kind round register plain binds zip fits.once;
  bound = all-bound kind round register plain binds zip fits.bound;
  are_amounts = sums_zip;
  different = none_twice-different (λ (r : Resource). r.name) register.resources
      (λ (a : PlainAmount). a.resource)
      (λ (s : ℕ × Sum). s.0) (IsAmount kind round register) (amount-there kind round register) sums
      amounts sums_zip fits.sums_once;
}

-- a record stands on a register of its sort
record-IfOk : (config : Config) (kind : Kind) (round : Round) (place : ℕ) (register : Register)
    (verb : Verb) (target : Target)
    (sums : List PlainAmount) → slice_get config.registers place ≡ Some register
    → is_spelt register.name target.register ≡ true
    → IfOk (resolved_record kind round place register verb target.binds sums)
    (IsAct config kind round (PlainMake verb target sums))
unfolding resolved_record make_act IsAct
record-IfOk config kind round place register verb target sums at spelt =
    let bs : Checked (List Bind) = each_or_least (resolved_bind kind round register) target.binds in
    let ss : Checked (List (ℕ × Sum)) = each_or_least (resolved_amount kind round register) sums in
    let fit : Checked (Unit {0}) = make_fits verb register target.binds sums in
    step-IfOk _ _ (beside fit (both bs ss)) _
    (beside-IfOk fit (both bs ss) (MakeFits verb register target.binds sums) _
    (make_fits-IfOk verb register target.binds sums)
    (both-IfOk bs ss _ _ (binds-IfOk kind round register target.binds)
    (amounts-IfOk kind round register sums)))
    (λ p h. (
      place,
      p.0,
      p.1,
      refl,
      (
        register,
        at,
        spelt,
        is_make kind round verb register target.binds sums p.0 p.1 h.0 h.1.0 h.1.1,
      ),
    ))

make-IfOk : (config : Config) (kind : Kind) (round : Round) (verb : Verb) (target : Target)
    (sums : List PlainAmount)
    → IfOk (resolved_make config kind round verb target sums)
    (IsAct config kind round (PlainMake verb target sums))
unfolding resolved_make
make-IfOk config kind round verb target sums = named-IfOk (λ (r : Register). r.name)
    config.registers target.register _ _
    (λ place r at spelt. record-IfOk config kind round place r verb target sums at spelt)

-- the tests of a write-off
record WriteOffFits (fifo : Bool) (register : Register) (binds : List PlainBind)
    (quantity cost : Spelling) : Type 0 where
  bound : binds_each_dimension fifo register binds ≡ true
  once : none_twice (λ (b : PlainBind). b.dimension) binds ≡ true
  apart : not (same_name quantity cost) ≡ true
  balance : register.balance ≡ true
  order : order_fits fifo register binds ≡ true

write_off_fits-IfOk : (fifo : Bool) (register : Register) (binds : List PlainBind)
    (quantity cost : Spelling)
    → IfOk (write_off_fits fifo register binds quantity cost) (λ _. WriteOffFits fifo register binds
    quantity cost)
unfolding write_off_fits
write_off_fits-IfOk fifo register binds quantity cost = must-IfOk _ _
    (binds_each_dimension fifo register binds) Unbound
    (λ u a. must-IfOk _ _ (none_twice (λ (b : PlainBind). b.dimension) binds) TwiceBound
    (λ v b. must-IfOk _ _ (not (same_name quantity cost)) TwiceBound
    (λ w c. must-IfOk _ _ register.balance WrongRegister
    (λ x d. IfOk-follows (unless (order_fits fifo register binds) WrongRegister)
    (λ _. order_fits fifo register binds ≡ true)
    (λ _. WriteOffFits fifo register binds quantity cost)
    (λ y e. record { bound = a; once = b; apart = c; balance = d; order = e })
    (unless-IfOk (order_fits fifo register binds) WrongRegister)))))

-- by the order of lots there is one
has_lot : (fifo : Bool) (register : Register) (plain : List PlainBind)
    → order_fits fifo register plain ≡ true
    → fifo ≡ true → Any (λ (d : Dimension). d.lot ≡ true) register.dimensions
has_lot false register plain e is = absurd (false-true false refl is)
has_lot true register plain e is = Any-from_list_any (λ (d : Dimension). d.lot) register.dimensions
    (and_parts (list_any (λ (d : Dimension). d.lot) register.dimensions)
    (not (lot_bound register plain)) e).0

-- by the order of lots none has a value
free_lots : (kind : Kind) (round : Round) (fifo : Bool) (register : Register)
    (plain : List PlainBind) (binds : List Bind)
    → AllZip (IsBind kind round register) plain binds → order_fits fifo register plain ≡ true
    → fifo ≡ true → All (IsNoLot register) binds
free_lots kind round false register plain binds zip e is = absurd (false-true false refl is)
free_lots kind round true register plain binds zip e is = lots-free kind round register plain binds
    zip
    (not-true (lot_bound register plain)
    (and_parts (list_any (λ (d : Dimension). d.lot) register.dimensions)
    (not (lot_bound register plain)) e).1)

is_write_off : (kind : Kind) (round : Round) (fifo : Bool) (register : Register)
    (plain : List PlainBind) (wanted : PlainAmount)
    (cost : Spelling) (binds : List Bind) (quantity : ℕ × Sum) (amount : ℕ)
    → WriteOffFits fifo register plain wanted.resource cost
    → AllZip (IsBind kind round register) plain binds
    → IsAmount kind round register wanted quantity
    → IsThere (λ (r : Resource). r.name) register.resources cost amount
    → IsWriteOff kind round fifo plain wanted cost binds quantity amount register
is_write_off kind round fifo register plain wanted cost binds quantity amount fits zip is at =
    record {
      balance = fits.balance;
      are_binds = are_binds kind round register plain binds zip fits.once;
      bound = each-bound kind round register fifo plain binds zip fits.bound;
      lot = has_lot fifo register plain fits.order;
      free = free_lots kind round fifo register plain binds zip fits.order;
      is_quantity = is;
      is_amount = (at.0, at.1, at.2, tt);
      different = apart (λ (r : Resource). r.name) register.resources wanted.resource cost
          quantity.0 amount
          (amount-there kind round register wanted quantity is) at
          (not-true (same_name wanted.resource cost) fits.apart);
    }

write_off_from-IfOk : (config : Config) (kind : Kind) (round : Round) (place : ℕ)
    (register : Register) (fifo : Bool)
    (target : Target) (wanted : PlainAmount) (cost : Spelling) → slice_get config.registers place
    ≡ Some register
    → is_spelt register.name target.register ≡ true
    → IfOk (resolved_write_off_from kind round place register fifo target.binds wanted cost)
    (IsAct config kind round (PlainWriteOff fifo target wanted cost))
unfolding resolved_write_off_from write_off_act IsAct
write_off_from-IfOk config kind round place register fifo target wanted cost at spelt =
    let bs : Checked (List Bind) = each_or_least (resolved_bind kind round register) target.binds in
    let sum : Checked (ℕ × Sum) = resolved_amount kind round register wanted in
    let fit : Checked (Unit {0}) = write_off_fits fifo register target.binds wanted.resource cost in
    step-IfOk _ _ (place_of (λ (r : Resource). r.name) register.resources cost) _
    (place_of-IfOk (λ (r : Resource). r.name) register.resources cost)
    (λ amount there. step-IfOk _ _ (beside fit (both bs sum)) _
    (beside-IfOk fit (both bs sum) (WriteOffFits fifo register target.binds wanted.resource cost) _
    (write_off_fits-IfOk fifo register target.binds wanted.resource cost)
    (both-IfOk bs sum _ _ (binds-IfOk kind round register target.binds)
    (amount_of-IfOk kind round register wanted)))
    (λ p h. (
      place,
      p.0,
      p.1,
      amount,
      refl,
      (
        register,
        at,
        spelt,
        is_write_off kind round fifo register target.binds wanted cost p.0 p.1 amount h.0 h.1.0
            h.1.1 there,
      ),
    )))

write_off-IfOk : (config : Config) (kind : Kind) (round : Round) (fifo : Bool) (target : Target)
    (wanted : PlainAmount) (cost : Spelling)
    → IfOk (resolved_write_off config kind round fifo target wanted cost)
    (IsAct config kind round (PlainWriteOff fifo target wanted cost))
unfolding resolved_write_off
write_off-IfOk config kind round fifo target wanted cost =
    named-IfOk (λ (r : Register). r.name) config.registers target.register _ _
    (λ place r at spelt. write_off_from-IfOk config kind round place r fifo target wanted cost at
    spelt)

-- the tests of a requirement
record RequireFits (register : Register) (binds : List PlainBind) : Type 0 where
  once : none_twice (λ (b : PlainBind). b.dimension) binds ≡ true
  balance : register.balance ≡ true

require_fits-IfOk : (register : Register) (binds : List PlainBind)
    → IfOk (require_fits register binds) (λ _. RequireFits register binds)
unfolding require_fits
require_fits-IfOk register binds = must-IfOk _ _ (none_twice (λ (b : PlainBind). b.dimension) binds)
    TwiceBound
    (λ u a. IfOk-follows (unless register.balance WrongRegister) (λ _. register.balance ≡ true)
    (λ _. RequireFits register binds) (λ v b. record { once = a; balance = b })
    (unless-IfOk register.balance WrongRegister))

requirement-IfOk : (config : Config) (kind : Kind) (round : Round) (place : ℕ) (register : Register)
    (target : Target)
    (word : Spelling) (resource : ℕ) (found : Resource) (terms : List PlainTerm) (code : List ℕ)
    → slice_get config.registers place ≡ Some register → is_spelt register.name target.register
    ≡ true
    → slice_get register.resources resource ≡ Some found → is_spelt found.name word ≡ true
    → IfOk (resolved_requirement kind round place register target.binds resource found.scale terms
    code)
    (IsAct config kind round (PlainRequire target word terms code))
unfolding resolved_requirement require_act IsAct
requirement-IfOk config kind round place register target word resource found terms code at spelt
    there named =
    let bs : Checked (List Bind) = each_or_least (resolved_bind kind round register) target.binds in
    let sum : Checked Sum = resolved_sum kind round (Some found.scale) terms in
    let fit : Checked (Unit {0}) = require_fits register target.binds in
    step-IfOk _ _ (beside fit (both bs sum)) _
    (beside-IfOk fit (both bs sum) (RequireFits register target.binds) _
    (require_fits-IfOk register target.binds)
    (both-IfOk bs sum _ _ (binds-IfOk kind round register target.binds)
    (sum_of-IfOk kind round found.scale terms)))
    (λ p h. (
      place,
      p.0,
      resource,
      p.1,
      refl,
      (
        register,
        at,
        spelt,
        record {
          balance = h.0.balance;
          are_binds = are_binds kind round register target.binds p.0 h.1.0 h.0.once;
          is_least = (found, there, named, h.1.1);
        },
      ),
    ))

require-IfOk : (config : Config) (kind : Kind) (round : Round) (target : Target) (word : Spelling)
    (terms : List PlainTerm) (code : List ℕ)
    → IfOk (resolved_require config kind round target word terms code)
    (IsAct config kind round (PlainRequire target word terms code))
unfolding resolved_require
require-IfOk config kind round target word terms code =
    named-IfOk (λ (r : Register). r.name) config.registers target.register _ _
    (λ place r at spelt. named-IfOk (λ (s : Resource). s.name) r.resources word _ _
    (λ resource s there named. requirement-IfOk config kind round place r target word resource s
    terms code at spelt there named))

control-IfOk : (config : Config) (kind : Kind) (round : Round) (register word : Spelling)
    → IfOk (resolved_control config register word)
    (IsAct config kind round (PlainControl register word))
unfolding resolved_control IsAct
control-IfOk config kind round register word = named-IfOk (λ (r : Register). r.name)
    config.registers register _ _
    (λ place r at spelt. step-IfOk _ _ (place_of (λ (s : Resource). s.name) r.resources word) _
    (place_of-IfOk (λ (s : Resource). s.name) r.resources word)
    (λ k there. must-IfOk _ _ r.balance WrongRegister
    (λ u is. (place, k, refl, (r, at, spelt, (is, (there.0, there.1, there.2, tt)))))))

account-IfOk : (kind : Kind) (round : Round) (side : PlainSide)
    → IfOk (resolved_account kind round side) (λ place. IsResolvedSide kind round (Some side)
    (Some place))
unfolding resolved_account IsResolvedSide
account-IfOk kind round side =
    let account : Checked CodeTerm = resolved_code kind round side.account in
    let extras : Checked (List CodeTerm) = each_or_least (resolved_code kind round) side.extras in
    step-IfOk _ _ (both account extras) _ (both-IfOk account extras _ _
    (code_of-IfOk kind round side.account)
    (each-IfOk (resolved_code kind round) (IsCodeTerm kind round) (code_of-IfOk kind round)
    side.extras))
    (λ p h. (_, refl, h.0, h.1))

side-IfOk : (kind : Kind) (round : Round) (side : Option PlainSide)
    → IfOk (resolved_side kind round side) (IsResolvedSide kind round side)
unfolding resolved_side IsResolvedSide
side-IfOk kind round None = refl
side-IfOk kind round (Some side) = step-IfOk _ _ (resolved_account kind round side) _
    (account-IfOk kind round side) (λ place is. is)

entry-IfOk : (config : Config) (kind : Kind) (round : Round) (ledger : Spelling)
    (sides : PlainSides) (terms : List PlainTerm)
    → IfOk (resolved_entry config kind round ledger sides terms)
    (IsAct config kind round (PlainEntry ledger sides terms))
unfolding resolved_entry entry_act IsAct
entry-IfOk config kind round ledger sides terms =
    let debit : Checked (Option Place) = resolved_side kind round sides.debit in
    let credit : Checked (Option Place) = resolved_side kind round sides.credit in
    named-IfOk (λ (c : Chart). c.name) config.ledgers ledger _ _
    (λ place c at spelt. step-IfOk _ _ (both (both debit credit)
    (resolved_sum kind round (Some c.scale) terms)) _
    (both-IfOk (both debit credit) (resolved_sum kind round (Some c.scale) terms) _ _
    (both-IfOk debit credit _ _ (side-IfOk kind round sides.debit)
    (side-IfOk kind round sides.credit)) (sum_of-IfOk kind round c.scale terms))
    (λ p h. (place, p.0.0, p.0.1, p.1, refl, (c, at, spelt, (h.0.0, h.0.1, h.1)))))

-- an act that is accepted names what is there
pub act_of-IfOk : (config : Config) (kind : Kind) (round : Round) (plain : PlainAct)
    → IfOk (resolved_act config kind round plain) (IsAct config kind round plain)
unfolding resolved_act
act_of-IfOk config kind round (PlainMake verb target sums) = make-IfOk config kind round verb target
    sums
act_of-IfOk config kind round (PlainWriteOff fifo target wanted cost) = write_off-IfOk config kind
    round fifo target wanted cost
act_of-IfOk config kind round (PlainRequire target word terms code) = require-IfOk config kind round
    target word terms code
act_of-IfOk config kind round (PlainControl register word) = control-IfOk config kind round register
    word
act_of-IfOk config kind round (PlainEntry ledger sides terms) = entry-IfOk config kind round ledger
    sides terms
