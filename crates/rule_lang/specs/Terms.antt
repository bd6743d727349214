-- What terms, sums and codes of a statement are in a document type.
use Rattle.std.specs.Prelude.{ℕ, List, Option, Some, None, Ok, Err}
use Rattle.reg_base.specs.Results.{◌>>=◌, unless, some_or}
use Rattle.cfg_model.specs.declared.kind.Kind.{Kind}
use Rattle.rule_text.specs.declared.token.Literal.{Literal}
use Rattle.rule_text.specs.declared.token.Spelling.{Spelling}
use Rattle.rule_text.specs.declared.plain.PlainCode.{PlainCode}
use Rattle.rule_text.specs.declared.plain.PlainCode.TheVariants.{Text as PlainText}
use Rattle.rule_text.specs.declared.plain.PlainCode.TheVariants.{Head as PlainHeadCode}
use Rattle.rule_text.specs.declared.plain.PlainCode.TheVariants.{Line as PlainLineCode}
use Rattle.rule_text.specs.declared.plain.PlainPart.{PlainPart}
use Rattle.rule_text.specs.declared.plain.PlainPart.TheVariants.{Number as PlainNumber}
use Rattle.rule_text.specs.declared.plain.PlainPart.TheVariants.{Head as PlainHead}
use Rattle.rule_text.specs.declared.plain.PlainPart.TheVariants.{Line as PlainLine}
use Rattle.rule_text.specs.declared.plain.PlainPart.TheVariants.{Total as PlainTotal}
use Rattle.rule_text.specs.declared.plain.PlainPart.TheVariants.{Cost as PlainCost}
use Rattle.rule_text.specs.declared.plain.PlainTerm.{PlainTerm}
use Rattle.rule_lang.specs.Least.{Checked, each_or_least}
use Rattle.rule_lang.specs.Fields.{fits, resolved_number_field, resolved_code_field, units_at}
use Rattle.rule_lang.specs.declared.fault.RuleWhy.TheVariants.{WrongType, WrongScope}
use Rattle.rule_lang.specs.declared.terms.Round.{Round}
use Rattle.rule_lang.specs.declared.statement.CodeTerm.{CodeTerm}
use Rattle.rule_lang.specs.declared.statement.CodeTerm.TheVariants.{Text, Head as HeadCode}
use Rattle.rule_lang.specs.declared.statement.CodeTerm.TheVariants.{Line as LineCode}
use Rattle.rule_lang.specs.declared.statement.Part.{Part}
use Rattle.rule_lang.specs.declared.statement.Part.TheVariants.{Number, Head, Line, Total, Cost}
use Rattle.rule_lang.specs.declared.statement.Sum.{Sum}
use Rattle.rule_lang.specs.declared.statement.Term.{Term}

-- a number at the scale of its place; beside a `cost` that has no scale it has none either
unfoldable pub literal_at : Option ℕ → Literal → Checked Part
literal_at None literal = Err WrongScope
literal_at (Some scale) literal = do
  units ← some_or (units_at literal scale) WrongType
  Ok (Number units)

-- a field of lines, which a statement for each line may name
unfoldable pub line_part : Kind → Round → Option ℕ → Spelling → Checked Part
line_part kind round asked spelling = do
  place ← resolved_number_field kind.lines asked spelling
  _ ← unless round.each WrongScope
  Ok (Line place)

-- the amount of the latest write-off of the same scope, which there has to be
unfoldable pub cost_part : Round → Option ℕ → Checked Part
cost_part round asked = do
  scale ← some_or round.cost WrongScope
  _ ← unless (fits asked (Some scale)) WrongType
  Ok Cost

-- a part where a number of the scale that is asked for stands, if one is
unfoldable pub resolved_part : Kind → Round → Option ℕ → PlainPart → Checked Part
resolved_part kind round asked (PlainNumber literal) = literal_at asked literal
resolved_part kind round asked (PlainHead spelling) = do
  place ← resolved_number_field kind.head asked spelling
  Ok (Head place)
resolved_part kind round asked (PlainLine spelling) = line_part kind round asked spelling
resolved_part kind round asked (PlainTotal spelling) = do
  place ← resolved_number_field kind.lines asked spelling
  Ok (Total place)
resolved_part kind round asked PlainCost = cost_part round asked

-- a term
unfoldable pub resolved_term : Kind → Round → Option ℕ → PlainTerm → Checked Term
resolved_term kind round asked plain = do
  part ← resolved_part kind round asked plain.part
  Ok (record { minus = plain.minus; negative = plain.negative; part = part })

-- a sum, all of whose terms have one scale
unfoldable pub resolved_sum : Kind → Round → Option ℕ → List PlainTerm → Checked Sum
resolved_sum kind round asked plain = do
  terms ← each_or_least (resolved_term kind round asked) plain
  Ok (record { terms = terms })

-- a field of lines with a code
unfoldable pub line_code : Kind → Round → Spelling → Checked CodeTerm
line_code kind round spelling = do
  place ← resolved_code_field kind.lines spelling
  _ ← unless round.each WrongScope
  Ok (LineCode place)

-- a code, or a field that has one
unfoldable pub resolved_code : Kind → Round → PlainCode → Checked CodeTerm
resolved_code kind round (PlainText code) = Ok (Text code)
resolved_code kind round (PlainHeadCode spelling) = do
  place ← resolved_code_field kind.head spelling
  Ok (HeadCode place)
resolved_code kind round (PlainLineCode spelling) = line_code kind round spelling
