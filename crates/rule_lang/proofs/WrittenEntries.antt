-- Entries are written so that they read as the same, and so is each act.
use Rattle.std.proofs.Common.{◌≡◌, ℕ, Bool, true, false, ◌&&◌, List, ◌++◌, codes, Option, Some}
use Rattle.std.proofs.Common.{None, Ok, IfOk, refl, ap₂, slice_get}
use Rattle.std.proofs.lemmas.Bool.{and_from, and_parts}
use Rattle.std.specs.List.{AllZip, list_all}
use Rattle.reg_base.specs.Codes.{is_code}
use Rattle.cfg_model.specs.declared.config.Config.{Config}
use Rattle.cfg_model.specs.declared.kind.Kind.{Kind}
use Rattle.cfg_model.specs.declared.ledger.Chart.{Chart}
use Rattle.rule_text.specs.declared.plain.PlainAct.{PlainAct}
use Rattle.rule_text.specs.declared.plain.PlainAct.TheVariants.{Make as PlainMake}
use Rattle.rule_text.specs.declared.plain.PlainAct.TheVariants.{WriteOff as PlainWriteOff}
use Rattle.rule_text.specs.declared.plain.PlainAct.TheVariants.{Require as PlainRequire}
use Rattle.rule_text.specs.declared.plain.PlainAct.TheVariants.{Control as PlainControl}
use Rattle.rule_text.specs.declared.plain.PlainAct.TheVariants.{Entry as PlainEntry}
use Rattle.rule_text.specs.declared.plain.PlainCode.{PlainCode}
use Rattle.rule_text.specs.declared.plain.PlainSide.{PlainSide}
use Rattle.rule_text.specs.declared.plain.PlainSides.{PlainSides}
use Rattle.rule_text.specs.declared.plain.PlainTerm.{PlainTerm}
use Rattle.rule_text.specs.declared.token.Spelling.{Spelling}
use Rattle.rule_text.proofs.ForAbove.{code_text as plain_code_text, joined}
use Rattle.rule_text.proofs.ForAbove.{side_text as plain_side_text, act_text as plain_act_text}
use Rattle.rule_text.proofs.ForAbove.{scope_text as plain_scope_text, code_fits, side_fits}
use Rattle.rule_text.proofs.ForAbove.{act_fits}
use Rattle.rule_text.proofs.ForAbove.{spelling_read, code_read, side_read, target_read}
use Rattle.rule_text.proofs.ForAbove.{amount_read, amounts_read, terms_read, act_read}
use Rattle.rule_lang.specs.Acts.{resolved_act}
use Rattle.rule_lang.specs.Entries.{resolved_account, resolved_side, entry_act, resolved_entry}
use Rattle.rule_lang.specs.Fields.{place_of}
use Rattle.rule_lang.specs.Least.{Checked, both, each_or_least}
use Rattle.rule_lang.specs.Rules.{is_control}
use Rattle.rule_lang.specs.RuleTexts.{side_text, entry_text, act_text, scope_text}
use Rattle.rule_lang.specs.Terms.{resolved_code, resolved_sum}
use Rattle.rule_lang.specs.TermTexts.{code_text, list_text}
use Rattle.rule_lang.specs.declared.fault.RuleWhy.TheVariants.{UnknownName}
use Rattle.rule_lang.specs.declared.statement.Act.TheVariants.{Entry}
use Rattle.rule_lang.specs.declared.statement.CodeTerm.{CodeTerm}
use Rattle.rule_lang.specs.declared.statement.Place.{Place}
use Rattle.rule_lang.specs.declared.statement.Sum.{Sum}
use Rattle.rule_lang.specs.declared.terms.Round.{Round}
use Rattle.rule_lang.proofs.CodeLemmas.{IsCode, resolved_code-written, each_code-written}
use Rattle.rule_lang.proofs.NameLemmas.{IfOk-self, IsWritten, place_of-written}
use Rattle.rule_lang.proofs.ScaledLemmas.{scaled_terms, IsSum, resolved_sum-scaled}
use Rattle.rule_lang.proofs.StepLemmas.{step-IfOk, some-IfOk, both-IfOk, AllZip-follows}
use Rattle.rule_lang.proofs.WrittenConditions.{both-Ok}
use Rattle.rule_lang.proofs.WrittenMakes.{written_scope, IsWrittenAct, named, make-written}
use Rattle.rule_lang.proofs.WrittenRequirements.{require-written, control-written}
use Rattle.rule_lang.proofs.WrittenWriteOffs.{write_off-written}
use Rattle.rule_lang.proofs.ZipLemmas.{zip-all, list_text-zip}

-- a side is written as it was read, and can be
record IsSide (kind : Kind) (plain : Option PlainSide) (side : Option Place) : Type 0 where
  text : side_text kind side ≡ plain_side_text plain
  fits : side_fits plain ≡ true

extras-text : (kind : Kind) (plains : List PlainCode) (extras : List CodeTerm)
    → AllZip (IsCode kind) plains extras
    → list_text (λ _. codes ", ") (code_text kind) extras ≡ joined (λ _. codes ", ") plain_code_text
    plains
extras-text kind plains extras all =
    list_text-zip (λ _. codes ", ") plain_code_text (λ _. codes ", ")
    (code_text kind) plains extras
    (AllZip-follows (IsCode kind) (λ p c. (codes ", " ≡ codes ", ") × (code_text kind c
    ≡ plain_code_text p)) (λ p c is. (refl, is.text)) plains extras all)

extras-fit : (kind : Kind) (plains : List PlainCode) (extras : List CodeTerm)
    → AllZip (IsCode kind) plains extras → list_all code_fits plains ≡ true
extras-fit kind plains extras all =
    zip-all code_fits plains extras (AllZip-follows (IsCode kind) (λ p c. code_fits p ≡ true)
    (λ p c is. is.fits) plains extras all)

account-written : (kind : Kind) (round : Round) (side : PlainSide) → side_read (Some side) ≡ true
    → IfOk (resolved_account kind round side) (λ place. IsSide kind (Some side) (Some place))
unfolding resolved_account side_read side_text plain_side_text side_fits
account-written kind round side read =
    let parts = and_parts (code_read side.account) (list_all code_read side.extras) read in
    let account : Checked CodeTerm = resolved_code kind round side.account in
    let extras : Checked (List CodeTerm) = each_or_least (resolved_code kind round) side.extras in
    step-IfOk _ _ (both account extras) _
    (both-IfOk account extras (IsCode kind side.account) (AllZip (IsCode kind) side.extras)
    (resolved_code-written kind round side.account parts.0)
    (each_code-written kind round side.extras parts.1))
    (λ p h. record {
      text = ap₂ (λ a b. a ++ (codes "(" ++ (b ++ codes ")"))) h.0.text
          (extras-text kind side.extras p.1 h.1);
      fits = and_from _ _ h.0.fits (extras-fit kind side.extras p.1 h.1);
    })

side-written : (kind : Kind) (round : Round) (side : Option PlainSide) → side_read side ≡ true
    → IfOk (resolved_side kind round side) (IsSide kind side)
unfolding resolved_side side_text plain_side_text side_fits
side-written kind round None read = record { text = refl; fits = refl }
side-written kind round (Some side) read =
    step-IfOk _ _ (resolved_account kind round side) (λ place. IsSide kind (Some side) (Some place))
    (account-written kind round side read) (λ place is. is)

entry-scope : (place : ℕ) (debit credit : Option Place) (amount : Sum) (each : Bool)
    → scope_text each (Entry place debit credit amount)
    ≡ plain_scope_text (written_scope false each)
unfolding scope_text
entry-scope place debit credit amount true = refl
entry-scope place debit credit amount false = refl

-- what was found for an entry
record IsEntry (kind : Kind) (round : Round) (sides : PlainSides) (amount : List PlainTerm)
    (chart : Chart) (parts : (Option Place × Option Place) × Sum) : Type 0 where
  debit_at : resolved_side kind round sides.debit ≡ Ok parts.0.0
  debit : IsSide kind sides.debit parts.0.0
  credit_at : resolved_side kind round sides.credit ≡ Ok parts.0.1
  credit : IsSide kind sides.credit parts.0.1
  is_sum : IsSum kind round chart.scale amount parts.1

entry-text : (config : Config) (kind : Kind) (round : Round) (place : ℕ) (chart : Chart)
    (ledger : Spelling) (sides : PlainSides) (amount : List PlainTerm)
    (parts : (Option Place × Option Place) × Sum)
    → IsWritten (λ (c : Chart). c.name) config.ledgers ledger place → slice_get config.ledgers place
    ≡ Some chart
    → IsEntry kind round sides amount chart parts
    → act_text config kind (Entry place parts.0.0 parts.0.1 parts.1)
    ≡ plain_act_text (PlainEntry ledger sides (scaled_terms chart.scale amount))
unfolding act_text entry_text plain_act_text
entry-text config kind round place chart ledger sides amount parts written at is =
    rw (
      at,
      is.debit.text,
      is.credit.text,
      is.is_sum.text,
      named (λ (c : Chart). c.name)
          config.ledgers ledger place chart written at,
    ) refl

entry-same : (config : Config) (kind : Kind) (round : Round) (place : ℕ) (chart : Chart)
    (ledger : Spelling) (sides : PlainSides) (amount : List PlainTerm)
    (parts : (Option Place × Option Place) × Sum)
    → place_of (λ (c : Chart). c.name) config.ledgers ledger ≡ Ok place
    → slice_get config.ledgers place ≡ Some chart
    → IsEntry kind round sides amount chart parts
    → resolved_act config kind round (PlainEntry ledger sides (scaled_terms chart.scale amount))
    ≡ Ok (Entry place parts.0.0 parts.0.1 parts.1)
unfolding resolved_act resolved_entry entry_act
entry-same config kind round place chart ledger sides amount parts found at is =
    rw (
      found,
      at,
      both-Ok _ _ parts.0 parts.1 (both-Ok _ _ parts.0.0 parts.0.1 is.debit_at
          is.credit_at) is.is_sum.same,
    ) refl

entry-written : (config : Config) (kind : Kind) (round : Round) (ledger : Spelling)
    (sides : PlainSides) (amount : List PlainTerm)
    → spelling_read ledger ≡ true → side_read sides.debit ≡ true → side_read sides.credit ≡ true
    → terms_read amount ≡ true
    → IfOk (resolved_entry config kind round ledger sides amount)
    (IsWrittenAct config kind round false)
unfolding resolved_entry entry_act act_fits
entry-written config kind round ledger sides amount ledger_is debit_is credit_is amount_is =
    let find : Checked ℕ = place_of (λ (c : Chart). c.name) config.ledgers ledger in
    let debit : Checked (Option Place) = resolved_side kind round sides.debit in
    let credit : Checked (Option Place) = resolved_side kind round sides.credit in
    step-IfOk _ _ find _
    (IfOk-self find (IsWritten (λ (c : Chart). c.name) config.ledgers ledger)
    (place_of-written (λ (c : Chart). c.name) config.ledgers ledger ledger_is))
    (λ place h. some-IfOk _ _ (slice_get config.ledgers place) UnknownName
    (λ c at.
    let sum : Checked Sum = resolved_sum kind round (Some c.scale) amount in
    step-IfOk _ _ (both (both debit credit) sum) _
    (both-IfOk (both debit credit) sum _ (IsSum kind round c.scale amount)
    (both-IfOk debit credit (λ s. (debit ≡ Ok s) × IsSide kind sides.debit s)
    (λ s. (credit ≡ Ok s) × IsSide kind sides.credit s)
    (IfOk-self debit (IsSide kind sides.debit) (side-written kind round sides.debit debit_is))
    (IfOk-self credit (IsSide kind sides.credit) (side-written kind round sides.credit credit_is)))
    (resolved_sum-scaled kind round c.scale amount amount_is))
    (λ p g.
    let is : IsEntry kind round sides amount c p =
    record {
      debit_at = g.0.0.0;
      debit = g.0.0.1;
      credit_at = g.0.1.0;
      credit = g.0.1.1;
      is_sum =
          g.1;
    } in
    record {
      written = PlainEntry ledger sides (scaled_terms c.scale amount);
      text = entry-text config kind round place c ledger sides amount p h.1 at is;
      same = entry-same config kind round place c ledger sides amount p h.0 at is;
      fits = and_from _ _ h.1.named (and_from _ _ is.debit.fits
          (and_from _ _ is.credit.fits is.is_sum.fits));
      is = refl;
      scope = entry-scope place p.0.0 p.0.1 p.1;
    })))

-- an act that is accepted is written so that it reads as the same
pub resolved_act-written : (config : Config) (kind : Kind) (round : Round) (plain : PlainAct)
    → act_read plain ≡ true
    → IfOk (resolved_act config kind round plain) (IsWrittenAct config kind round
    (is_control plain))
unfolding resolved_act act_read
resolved_act-written config kind round (PlainMake verb target sums) read =
    let parts = and_parts (target_read target) (amounts_read sums) read in
    make-written config kind round verb target sums parts.0 parts.1
resolved_act-written config kind round (PlainWriteOff fifo target wanted cost) read =
    let parts = and_parts (target_read target) (amount_read wanted && spelling_read cost) read in
    let more = and_parts (amount_read wanted) (spelling_read cost) parts.1 in
    write_off-written config kind round fifo target wanted cost parts.0 more.0 more.1
resolved_act-written config kind round (PlainRequire target resource least code) read =
    let parts = and_parts (target_read target)
    (spelling_read resource && (terms_read least && is_code code)) read in
    let more = and_parts (spelling_read resource) (terms_read least && is_code code) parts.1 in
    let last = and_parts (terms_read least) (is_code code) more.1 in
    require-written config kind round target resource least code parts.0 more.0 last.0 last.1
resolved_act-written config kind round (PlainControl register resource) read =
    let parts = and_parts (spelling_read register) (spelling_read resource) read in
    control-written config kind round register resource parts.0 parts.1
resolved_act-written config kind round (PlainEntry ledger sides amount) read =
    let parts = and_parts (spelling_read ledger)
    (side_read sides.debit && (side_read sides.credit && terms_read amount)) read in
    let more = and_parts (side_read sides.debit) (side_read sides.credit && terms_read amount)
    parts.1 in
    let last = and_parts (side_read sides.credit) (terms_read amount) more.1 in
    entry-written config kind round ledger sides amount parts.0 more.0 last.0 last.1
