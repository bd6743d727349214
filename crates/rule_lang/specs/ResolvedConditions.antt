-- What conditions of accepted rules have of the conditions that were written.
use Rattle.std.specs.Prelude.{◌≡◌, ℕ, Bool, ◌⊎◌, List}
use Rattle.std.specs.Prelude.{Option, Some, None}
use Rattle.std.specs.List.{All}
use Rattle.cfg_model.specs.declared.kind.Kind.{Kind}
use Rattle.rule_text.specs.Plain.{lone_field, equality_of}
use Rattle.rule_text.specs.declared.plain.PlainCode.{PlainCode}
use Rattle.rule_text.specs.declared.plain.PlainCond.{PlainCond}
use Rattle.rule_text.specs.declared.plain.PlainCond.TheVariants.{Sums as PlainSums}
use Rattle.rule_text.specs.declared.plain.PlainCond.TheVariants.{Codes as PlainCodes}
use Rattle.rule_text.specs.declared.plain.PlainPart.TheVariants.{Number as PlainNumber}
use Rattle.rule_text.specs.declared.plain.PlainTerm.{PlainTerm}
use Rattle.rule_text.specs.declared.plain.Test.{Test}
use Rattle.rule_text.specs.declared.token.Literal.{Literal}
use Rattle.rule_lang.specs.Resolved.{IsCodeTerm, IsSum}
use Rattle.rule_lang.specs.declared.statement.CodeTerm.{CodeTerm}
use Rattle.rule_lang.specs.declared.statement.Cond.{Cond}
use Rattle.rule_lang.specs.declared.statement.Cond.TheVariants.{Sums, Codes}
use Rattle.rule_lang.specs.declared.statement.Sum.{Sum}
use Rattle.rule_lang.specs.declared.terms.Round.{Round}

-- a term that is a literal
abbrev pub IsLiteral : PlainTerm → Type 0
IsLiteral term = (literal : Literal) × (term.part ≡ PlainNumber literal)

-- two sums of one scale, which is of six decimals where both are literals alone
pub record AreSums (kind : Kind) (round : Round) (left : List PlainTerm) (test : Test)
    (right : List PlainTerm) (cond : Cond) : Type 0 where
  pub scale : ℕ
  pub first : Sum
  pub second : Sum
  pub is : cond ≡ Sums first test second
  pub first_is : IsSum kind round scale left first
  pub second_is : IsSum kind round scale right second
  pub literals : All IsLiteral left → All IsLiteral right → scale ≡ 6

-- two codes with the test between them
pub record AreCodes (kind : Kind) (round : Round) (left : PlainCode) (equal : Bool)
    (right : PlainCode) (cond : Cond) : Type 0 where
  pub first : CodeTerm
  pub second : CodeTerm
  pub is : cond ≡ Codes first equal second
  pub first_is : IsCodeTerm kind round left first
  pub second_is : IsCodeTerm kind round right second

-- two fields, which are compared as codes
pub record AreCodeFields (kind : Kind) (round : Round) (left : List PlainTerm) (test : Test)
    (right : List PlainTerm) (cond : Cond) : Type 0 where
  pub first : PlainCode
  pub second : PlainCode
  pub equal : Bool
  pub first_field : lone_field left ≡ Some first
  pub second_field : lone_field right ≡ Some second
  pub asks : equality_of test ≡ Some equal
  pub are : AreCodes kind round first equal second cond

-- a condition on two sums or on two codes
unfoldable pub IsCond : Kind → Round → PlainCond → Cond → Type 0
IsCond kind round (PlainCodes left equal right) cond = AreCodes kind round left equal right cond
IsCond kind round (PlainSums left test right) cond =
    AreSums kind round left test right cond ⊎ AreCodeFields kind round left test right cond

-- a condition, where there is one
unfoldable pub IsWhen : Kind → Round → Option PlainCond → Option Cond → Type 0
IsWhen kind round None when = when ≡ None
IsWhen kind round (Some plain) when =
    (cond : Cond) × (when ≡ Some cond) × IsCond kind round plain cond
