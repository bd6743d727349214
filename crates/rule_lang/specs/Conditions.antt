-- What the condition of a statement is in a document type.
use Rattle.std.specs.Prelude.{ℕ, Bool, true, List, [], ◌∷◌, Option, Some, None, option_and_then}
use Rattle.std.specs.Prelude.{is_ok, Ok, Err, if◌then◌else◌}
use Rattle.reg_base.specs.Results.{◌>>=◌}
use Rattle.cfg_model.specs.declared.kind.Field.{Field}
use Rattle.cfg_model.specs.declared.kind.Kind.{Kind}
use Rattle.rule_text.specs.Plain.{lone_field, equality_of}
use Rattle.rule_text.specs.declared.token.Spelling.{Spelling}
use Rattle.rule_text.specs.declared.plain.PlainCode.{PlainCode}
use Rattle.rule_text.specs.declared.plain.PlainCode.TheVariants.{Text as PlainText}
use Rattle.rule_text.specs.declared.plain.PlainCode.TheVariants.{Head as PlainHeadCode}
use Rattle.rule_text.specs.declared.plain.PlainCode.TheVariants.{Line as PlainLineCode}
use Rattle.rule_text.specs.declared.plain.PlainCond.{PlainCond}
use Rattle.rule_text.specs.declared.plain.PlainCond.TheVariants.{Sums as PlainSums}
use Rattle.rule_text.specs.declared.plain.PlainCond.TheVariants.{Codes as PlainCodes}
use Rattle.rule_text.specs.declared.plain.PlainPart.{PlainPart}
use Rattle.rule_text.specs.declared.plain.PlainPart.TheVariants.{Number as PlainNumber}
use Rattle.rule_text.specs.declared.plain.PlainPart.TheVariants.{Head as PlainHead}
use Rattle.rule_text.specs.declared.plain.PlainPart.TheVariants.{Line as PlainLine}
use Rattle.rule_text.specs.declared.plain.PlainPart.TheVariants.{Total as PlainTotal}
use Rattle.rule_text.specs.declared.plain.PlainPart.TheVariants.{Cost as PlainCost}
use Rattle.rule_text.specs.declared.plain.PlainTerm.{PlainTerm}
use Rattle.rule_text.specs.declared.plain.Test.{Test}
use Rattle.rule_lang.specs.Least.{Checked, both}
use Rattle.rule_lang.specs.Fields.{resolved_code_field, resolved_field}
use Rattle.rule_lang.specs.declared.fields.FieldAt.{FieldAt}
use Rattle.rule_lang.specs.declared.terms.Round.{Round}
use Rattle.rule_lang.specs.declared.statement.Cond.{Cond}
use Rattle.rule_lang.specs.declared.statement.Cond.TheVariants.{Sums, Codes}
use Rattle.rule_lang.specs.Terms.{resolved_sum, resolved_code}

-- the scale of a field, if there is the field and it has numbers
unfoldable pub scale_of_field : List Field → Spelling → Option ℕ
scale_of_field fields spelling = scale_found (resolved_field fields spelling)
  where
    scale_found : Checked FieldAt → Option ℕ
    scale_found (Ok found) = found.scale
    scale_found (Err why) = None

-- the scale that a part brings to a condition: a number brings none, a field or `cost` its own,
-- which is none where it has no numbers
unfoldable pub scale_of_part : Kind → Round → PlainPart → Option (Option ℕ)
scale_of_part kind round (PlainNumber literal) = None
scale_of_part kind round (PlainHead spelling) = Some (scale_of_field kind.head spelling)
scale_of_part kind round (PlainLine spelling) = Some (scale_of_field kind.lines spelling)
scale_of_part kind round (PlainTotal spelling) = Some (scale_of_field kind.lines spelling)
scale_of_part kind round PlainCost = Some round.cost

-- the scale of the first of these terms that brings one, else this one
unfoldable pub first_scale : Kind → Round → Option ℕ → List PlainTerm → Option ℕ
first_scale kind round other [] = other
first_scale kind round other (term ∷ terms) =
    scale_or (scale_of_part kind round term.part) (first_scale kind round other terms)
  where
    scale_or : Option (Option ℕ) → Option ℕ → Option ℕ
    scale_or None others = others
    scale_or (Some scale) others = scale

-- the scale of the first field or `cost` in a condition, left before right, or else six decimals
unfoldable pub asked_scale : Kind → Round → List PlainTerm → List PlainTerm → Option ℕ
asked_scale kind round left right =
    first_scale kind round (first_scale kind round (Some 6) right) left

-- two sums at the scale of the first field or `cost` in them, or with six decimals
unfoldable pub resolved_sums : Kind → Round → List PlainTerm → Test → List PlainTerm → Checked Cond
resolved_sums kind round left test right = do
  let asked = asked_scale kind round left right
  p ← both (resolved_sum kind round asked left) (resolved_sum kind round asked right)
  Ok (Sums p.0 test p.1)

-- two codes
unfoldable pub resolved_codes : Kind → Round → PlainCode → Bool → PlainCode → Checked Cond
resolved_codes kind round left equal right = do
  p ← both (resolved_code kind round left) (resolved_code kind round right)
  Ok (Codes p.0 equal p.1)

-- a field that has codes
abbrev pub has_code : Kind → PlainCode → Bool
has_code kind (PlainText code) = true
has_code kind (PlainHeadCode spelling) = is_ok (resolved_code_field kind.head spelling)
has_code kind (PlainLineCode spelling) = is_ok (resolved_code_field kind.lines spelling)

-- the field with codes that a sum is
unfoldable pub lone_code : Kind → List PlainTerm → Option PlainCode
lone_code kind terms =
    option_and_then (λ code. if has_code kind code then Some code else None) (lone_field terms)

-- two fields with codes are compared as codes, where the test is one for equality
abbrev pub codes_or_sums : Option PlainCode → Option Bool → Option PlainCode → Kind → Round
    → Checked Cond → Checked Cond
codes_or_sums (Some left) (Some equal) (Some right) kind round sums = resolved_codes kind round left
    equal right
codes_or_sums None equal right kind round sums = sums
codes_or_sums (Some left) None right kind round sums = sums
codes_or_sums (Some left) (Some equal) None kind round sums = sums

-- a condition
unfoldable pub resolved_cond : Kind → Round → PlainCond → Checked Cond
resolved_cond kind round (PlainCodes left equal right) = resolved_codes kind round left equal right
resolved_cond kind round (PlainSums left test right) =
    codes_or_sums (lone_code kind left) (equality_of test) (lone_code kind right) kind round
    (resolved_sums kind round left test right)
