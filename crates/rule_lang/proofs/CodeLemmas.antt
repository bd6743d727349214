-- Codes and binds are written as they were read.
use Rattle.std.proofs.Common.{◌≡◌, Bool, true, not, List, ◌++◌, codes, IfOk, refl, ap, ap₂}
use Rattle.std.proofs.Common.{slice_get}
use Rattle.std.proofs.lemmas.Bool.{and_from, and_parts}
use Rattle.std.specs.Bool.{⊤}
use Rattle.std.specs.List.{AllZip, list_all}
use Rattle.reg_base.specs.Results.{unless}
use Rattle.cfg_model.specs.declared.kind.Field.{Field}
use Rattle.cfg_model.specs.declared.kind.Kind.{Kind}
use Rattle.cfg_model.specs.declared.register.Dimension.{Dimension}
use Rattle.cfg_model.specs.declared.register.Register.{Register}
use Rattle.rule_text.specs.declared.plain.PlainBind.{PlainBind}
use Rattle.rule_text.specs.declared.plain.PlainCode.{PlainCode}
use Rattle.rule_text.specs.declared.plain.PlainCode.TheVariants.{Text as PlainText}
use Rattle.rule_text.specs.declared.plain.PlainCode.TheVariants.{Head as PlainHeadCode}
use Rattle.rule_text.specs.declared.plain.PlainCode.TheVariants.{Line as PlainLineCode}
use Rattle.rule_text.specs.declared.plain.PlainTo.{PlainTo}
use Rattle.rule_text.specs.declared.plain.PlainTo.TheVariants.{Code as PlainCodeTo}
use Rattle.rule_text.specs.declared.plain.PlainTo.TheVariants.{Point as PlainPoint}
use Rattle.rule_text.proofs.ForAbove.{code_text as plain_code_text, to_text as plain_to_text}
use Rattle.rule_text.proofs.ForAbove.{bind_text as plain_bind_text}
use Rattle.rule_text.proofs.ForAbove.{binds_text as plain_binds_text, code_fits, to_fits}
use Rattle.rule_text.proofs.ForAbove.{bind_fits}
use Rattle.rule_text.proofs.ForAbove.{spelling_read, code_read, to_read, bind_read}
use Rattle.rule_lang.specs.Binds.{resolved_bind_to, resolved_bind}
use Rattle.rule_lang.specs.Fields.{place_of, resolved_code_field}
use Rattle.rule_lang.specs.Least.{beside, each_or_least}
use Rattle.rule_lang.specs.RuleTexts.{to_text, bind_text, binds_text}
use Rattle.rule_lang.specs.Terms.{line_code, resolved_code}
use Rattle.rule_lang.specs.TermTexts.{code_text}
use Rattle.rule_lang.specs.declared.fault.RuleWhy.TheVariants.{UnknownName, WrongType, WrongScope}
use Rattle.rule_lang.specs.declared.statement.Bind.{Bind}
use Rattle.rule_lang.specs.declared.statement.BindTo.{BindTo}
use Rattle.rule_lang.specs.declared.statement.CodeTerm.{CodeTerm}
use Rattle.rule_lang.specs.declared.terms.Round.{Round}
use Rattle.rule_lang.proofs.NameLemmas.{IsWritten, place_of-written, resolved_code_field-written}
use Rattle.rule_lang.proofs.StepLemmas.{step-IfOk, some-IfOk, must-IfOk, any-IfOk, beside-IfOk}
use Rattle.rule_lang.proofs.StepLemmas.{IfOk-follows, AllZip-follows}
use Rattle.rule_lang.proofs.ZipLemmas.{each-zip, zip-all, list_text-zip}

-- a code is written as it was read, and can be
pub record IsCode (kind : Kind) (plain : PlainCode) (code : CodeTerm) : Type 0 where
  pub text : code_text kind code ≡ plain_code_text plain
  pub fits : code_fits plain ≡ true

pub resolved_code-written : (kind : Kind) (round : Round) (plain : PlainCode)
    → code_read plain ≡ true
    → IfOk (resolved_code kind round plain) (IsCode kind plain)
unfolding resolved_code line_code code_read code_text plain_code_text code_fits
resolved_code-written kind round (PlainText code) read = record { text = refl; fits = read }
resolved_code-written kind round (PlainHeadCode spelling) read =
    step-IfOk _ _ (resolved_code_field kind.head spelling) (IsWritten (λ (f : Field). f.name)
    kind.head spelling) (resolved_code_field-written kind.head spelling read)
    (λ place is. record { text = ap (λ t. codes "head." ++ t) is.name; fits = is.named })
resolved_code-written kind round (PlainLineCode spelling) read =
    step-IfOk _ _ (resolved_code_field kind.lines spelling)
    (IsWritten (λ (f : Field). f.name) kind.lines spelling)
    (resolved_code_field-written kind.lines spelling read)
    (λ place is. must-IfOk _ _ round.each WrongScope
    (λ u on. record { text = ap (λ t. codes "line." ++ t) is.name; fits = is.named }))

-- codes behind commas
pub each_code-written : (kind : Kind) (round : Round) (plains : List PlainCode)
    → list_all code_read plains ≡ true
    → IfOk (each_or_least (resolved_code kind round) plains) (AllZip (IsCode kind) plains)
each_code-written kind round plains read = each-zip (resolved_code kind round) code_read
    (IsCode kind) (resolved_code-written kind round) plains read

-- the value of a dimension is written as it was read, and can be
pub record IsTo (kind : Kind) (plain : PlainTo) (to : BindTo) : Type 0 where
  pub text : to_text kind to ≡ plain_to_text plain
  pub fits : to_fits plain ≡ true

resolved_bind_to-written : (kind : Kind) (round : Round) (lot : Bool) (plain : PlainTo)
    → to_read plain ≡ true
    → IfOk (resolved_bind_to kind round lot plain) (IsTo kind plain)
unfolding resolved_bind_to to_read to_text plain_to_text to_fits
resolved_bind_to-written kind round lot PlainPoint read = must-IfOk _ _ lot WrongType
    (λ u is. record { text = refl; fits = refl })
resolved_bind_to-written kind round lot (PlainCodeTo plain) read =
    step-IfOk _ _ (beside (unless (not lot) WrongType) (resolved_code kind round plain)) _
    (beside-IfOk (unless (not lot) WrongType) (resolved_code kind round plain) ⊤ (IsCode kind plain)
    (any-IfOk (unless (not lot) WrongType)) (resolved_code-written kind round plain read))
    (λ code h. record { text = h.1.text; fits = h.1.fits })

-- a dimension with its value is written as it was read, and can be
pub record IsBind (kind : Kind) (register : Register) (plain : PlainBind) (bind : Bind) : Type 0
  where
    pub text : bind_text kind register bind ≡ plain_bind_text plain
    pub fits : bind_fits plain ≡ true

resolved_bind-written : (kind : Kind) (round : Round) (register : Register) (plain : PlainBind)
    → bind_read plain ≡ true
    → IfOk (resolved_bind kind round register plain) (IsBind kind register plain)
unfolding resolved_bind bind_text plain_bind_text
resolved_bind-written kind round register plain read =
    let parts = and_parts (spelling_read plain.dimension) (to_read plain.to) read in
    step-IfOk _ _ (place_of (λ (d : Dimension). d.name) register.dimensions plain.dimension)
    (IsWritten (λ (d : Dimension). d.name) register.dimensions plain.dimension)
    (place_of-written (λ (d : Dimension). d.name) register.dimensions plain.dimension parts.0)
    (λ place is. some-IfOk _ _ (slice_get register.dimensions place) UnknownName
    (λ d at. step-IfOk _ _ (resolved_bind_to kind round d.lot plain.to) (IsTo kind plain.to)
    (resolved_bind_to-written kind round d.lot plain.to parts.1)
    (λ to value. record {
      text = ap₂ (λ a b. a ++ (codes " = " ++ b)) is.name value.text;
      fits =
          and_from _ _ is.named value.fits;
    })))

-- dimensions with their values are written as they were read, and can be
pub record AreBinds (kind : Kind) (register : Register) (plains : List PlainBind)
    (binds : List Bind) : Type 0 where
  pub text : binds_text kind register binds ≡ plain_binds_text plains
  pub fits : list_all bind_fits plains ≡ true

pub binds-written : (kind : Kind) (round : Round) (register : Register) (plains : List PlainBind)
    → list_all bind_read plains ≡ true
    → IfOk (each_or_least (resolved_bind kind round register) plains)
    (AreBinds kind register plains)
unfolding binds_text plain_binds_text
binds-written kind round register plains read =
    IfOk-follows (each_or_least (resolved_bind kind round register) plains)
    (AllZip (IsBind kind register) plains) (AreBinds kind register plains)
    (λ binds all. record {
      text = list_text-zip (λ _. codes ", ") plain_bind_text (λ _. codes ", ")
          (bind_text kind register) plains binds
          (AllZip-follows (IsBind kind register)
          (λ p b. (codes ", " ≡ codes ", ") × (bind_text kind register b ≡ plain_bind_text p))
          (λ p b is. (refl, is.text)) plains binds all);
      fits = zip-all bind_fits plains binds (AllZip-follows (IsBind kind register)
          (λ p b. bind_fits p ≡ true) (λ p b is. is.fits) plains binds all);
    })
    (each-zip (resolved_bind kind round register) bind_read (IsBind kind register)
    (resolved_bind-written kind round register) plains read)
