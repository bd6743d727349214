-- What a statement is in a document type does not depend on the texts of types.
use Rattle.std.proofs.Common.{◌≡◌, ℕ, Bool, cond, List, [], ◌∷◌, Option, Some, None}
use Rattle.std.proofs.Common.{option_and_then, Ok, refl, ap, ◌∙◌}
use Rattle.reg_base.specs.Results.{◌>>=◌}
use Rattle.cfg_model.specs.declared.kind.Kind.{Kind}
use Rattle.cfg_model.specs.declared.register.Dimension.{Dimension}
use Rattle.cfg_model.specs.declared.register.Register.{Register}
use Rattle.cfg_model.specs.declared.register.Resource.{Resource}
use Rattle.rule_text.specs.Plain.{lone_field, equality_of}
use Rattle.rule_text.specs.declared.plain.PlainCode.{PlainCode}
use Rattle.rule_text.specs.declared.plain.PlainCode.TheVariants.{Text as PlainText}
use Rattle.rule_text.specs.declared.plain.PlainCode.TheVariants.{Head as PlainHeadCode}
use Rattle.rule_text.specs.declared.plain.PlainCode.TheVariants.{Line as PlainLineCode}
use Rattle.rule_text.specs.declared.plain.PlainCond.{PlainCond}
use Rattle.rule_text.specs.declared.plain.PlainCond.TheVariants.{Sums as PlainSums}
use Rattle.rule_text.specs.declared.plain.PlainCond.TheVariants.{Codes as PlainCodes}
use Rattle.rule_text.specs.declared.plain.PlainPart.{PlainPart}
use Rattle.rule_text.specs.declared.plain.PlainPart.TheVariants.{Number as PlainNumber}
use Rattle.rule_text.specs.declared.plain.PlainPart.TheVariants.{Head as PlainHead}
use Rattle.rule_text.specs.declared.plain.PlainPart.TheVariants.{Line as PlainLine}
use Rattle.rule_text.specs.declared.plain.PlainPart.TheVariants.{Total as PlainTotal}
use Rattle.rule_text.specs.declared.plain.PlainPart.TheVariants.{Cost as PlainCost}
use Rattle.rule_text.specs.declared.plain.PlainTerm.{PlainTerm}
use Rattle.rule_text.specs.declared.plain.PlainTo.{PlainTo}
use Rattle.rule_text.specs.declared.plain.PlainTo.TheVariants.{Code as PlainCodeTo}
use Rattle.rule_text.specs.declared.plain.PlainTo.TheVariants.{Point as PlainPoint}
use Rattle.rule_text.specs.declared.plain.Test.{Test}
use Rattle.rule_lang.specs.Binds.{resolved_bind_to, resolved_bind, resolved_amount}
use Rattle.rule_lang.specs.Conditions.{scale_of_part, first_scale, asked_scale, resolved_sums}
use Rattle.rule_lang.specs.Conditions.{resolved_codes, has_code, lone_code, codes_or_sums}
use Rattle.rule_lang.specs.Conditions.{resolved_cond}
use Rattle.rule_lang.specs.Fields.{place_of, item_at}
use Rattle.rule_lang.specs.Least.{Checked, each_or_least}
use Rattle.rule_lang.specs.Printed.{with_rules}
use Rattle.rule_lang.specs.Rules.{resolved_when}
use Rattle.rule_lang.specs.Terms.{line_part, resolved_part, resolved_term, resolved_sum, line_code}
use Rattle.rule_lang.specs.Terms.{resolved_code}
use Rattle.rule_lang.specs.declared.statement.Cond.{Cond}
use Rattle.rule_lang.specs.declared.terms.Round.{Round}

resolved_part-rules : (kind : Kind) (text : List ℕ) (round : Round) (asked : Option ℕ)
    (plain : PlainPart)
    → resolved_part (with_rules kind text) round asked plain ≡ resolved_part kind round asked plain
unfolding resolved_part line_part
resolved_part-rules kind text round asked (PlainNumber literal) = refl
resolved_part-rules kind text round asked (PlainHead spelling) = refl
resolved_part-rules kind text round asked (PlainLine spelling) = refl
resolved_part-rules kind text round asked (PlainTotal spelling) = refl
resolved_part-rules kind text round asked PlainCost = refl

resolved_term-rules : (kind : Kind) (text : List ℕ) (round : Round) (asked : Option ℕ)
    (plain : PlainTerm)
    → resolved_term (with_rules kind text) round asked plain ≡ resolved_term kind round asked plain
unfolding resolved_term
resolved_term-rules kind text round asked plain = rw (resolved_part-rules kind text round asked
    plain.part) refl

pub resolved_sum-rules : (kind : Kind) (text : List ℕ) (round : Round) (asked : Option ℕ)
    (plain : List PlainTerm)
    → resolved_sum (with_rules kind text) round asked plain ≡ resolved_sum kind round asked plain
unfolding resolved_sum
resolved_sum-rules kind text round asked plain =
    λ i. each_or_least (λ p. resolved_term-rules kind text round asked p i) plain >>= λ terms. Ok
    (record { terms = terms })

pub resolved_code-rules : (kind : Kind) (text : List ℕ) (round : Round) (plain : PlainCode)
    → resolved_code (with_rules kind text) round plain ≡ resolved_code kind round plain
unfolding resolved_code line_code
resolved_code-rules kind text round (PlainText code) = refl
resolved_code-rules kind text round (PlainHeadCode spelling) = refl
resolved_code-rules kind text round (PlainLineCode spelling) = refl

scale_of_part-rules : (kind : Kind) (text : List ℕ) (round : Round) (plain : PlainPart)
    → scale_of_part (with_rules kind text) round plain ≡ scale_of_part kind round plain
unfolding scale_of_part
scale_of_part-rules kind text round (PlainNumber literal) = refl
scale_of_part-rules kind text round (PlainHead spelling) = refl
scale_of_part-rules kind text round (PlainLine spelling) = refl
scale_of_part-rules kind text round (PlainTotal spelling) = refl
scale_of_part-rules kind text round PlainCost = refl

first_scale-rules : (kind : Kind) (text : List ℕ) (round : Round) (other : Option ℕ)
    (plains : List PlainTerm)
    → first_scale (with_rules kind text) round other plains ≡ first_scale kind round other plains
unfolding first_scale
first_scale-rules kind text round other [] = refl
first_scale-rules kind text round other (plain ∷ plains) =
    rw (
      scale_of_part-rules kind text round plain.part,
      first_scale-rules kind text round other
          plains,
    ) refl

asked_scale-rules : (kind : Kind) (text : List ℕ) (round : Round) (left right : List PlainTerm)
    → asked_scale (with_rules kind text) round left right ≡ asked_scale kind round left right
unfolding asked_scale
asked_scale-rules kind text round left right = first_scale-rules kind text round _ left
    ∙ ap (λ other. first_scale kind round other left) (first_scale-rules kind text round
    (Some 6) right)

resolved_sums-rules : (kind : Kind) (text : List ℕ) (round : Round) (left : List PlainTerm)
    (test : Test) (right : List PlainTerm)
    → resolved_sums (with_rules kind text) round left test right ≡ resolved_sums kind round left
    test right
unfolding resolved_sums
resolved_sums-rules kind text round left test right =
    rw (
      asked_scale-rules kind text round left right,
      resolved_sum-rules kind text round (asked_scale kind round left right) left,
      resolved_sum-rules kind text round (asked_scale kind round left right) right,
    ) refl

resolved_codes-rules : (kind : Kind) (text : List ℕ) (round : Round) (left : PlainCode)
    (equal : Bool) (right : PlainCode)
    → resolved_codes (with_rules kind text) round left equal right ≡ resolved_codes kind round left
    equal right
unfolding resolved_codes
resolved_codes-rules kind text round left equal right = rw (
  resolved_code-rules kind text round
      left,
  resolved_code-rules kind text round right,
) refl

has_code-rules : (kind : Kind) (text : List ℕ) (code : PlainCode)
    → has_code (with_rules kind text) code ≡ has_code kind code
has_code-rules kind text (PlainText code) = refl
has_code-rules kind text (PlainHeadCode spelling) = refl
has_code-rules kind text (PlainLineCode spelling) = refl

lone_code-rules : (kind : Kind) (text : List ℕ) (terms : List PlainTerm)
    → lone_code (with_rules kind text) terms ≡ lone_code kind terms
unfolding lone_code
lone_code-rules kind text terms =
    λ i. option_and_then (λ code. cond (has_code-rules kind text code i) (Some code) None)
    (lone_field terms)

codes_or_sums-rules : (kind : Kind) (text : List ℕ) (round : Round) (left : Option PlainCode)
    (equal : Option Bool) (right : Option PlainCode) (sums : Checked Cond)
    → codes_or_sums left equal right (with_rules kind text) round sums
    ≡ codes_or_sums left equal right kind round sums
codes_or_sums-rules kind text round (Some left) (Some equal) (Some right) sums =
    resolved_codes-rules kind text round left equal right
codes_or_sums-rules kind text round (Some left) (Some equal) None sums = refl
codes_or_sums-rules kind text round (Some left) None right sums = refl
codes_or_sums-rules kind text round None equal right sums = refl

resolved_cond-rules : (kind : Kind) (text : List ℕ) (round : Round) (plain : PlainCond)
    → resolved_cond (with_rules kind text) round plain ≡ resolved_cond kind round plain
unfolding resolved_cond
resolved_cond-rules kind text round (PlainCodes left equal right) = resolved_codes-rules kind text
    round left equal right
resolved_cond-rules kind text round (PlainSums left test right) =
    rw (
      lone_code-rules kind text left,
      lone_code-rules kind text right,
      resolved_sums-rules kind
          text round left test right,
    )
    (codes_or_sums-rules kind text round (lone_code kind left) (equality_of test)
    (lone_code kind right) (resolved_sums kind round left test right))

pub resolved_when-rules : (kind : Kind) (text : List ℕ) (round : Round) (plain : Option PlainCond)
    → resolved_when (with_rules kind text) round plain ≡ resolved_when kind round plain
unfolding resolved_when
resolved_when-rules kind text round None = refl
resolved_when-rules kind text round (Some plain) = rw (resolved_cond-rules kind text round plain)
    refl

resolved_bind_to-rules : (kind : Kind) (text : List ℕ) (round : Round) (lot : Bool)
    (plain : PlainTo)
    → resolved_bind_to (with_rules kind text) round lot plain ≡ resolved_bind_to kind round lot
    plain
unfolding resolved_bind_to
resolved_bind_to-rules kind text round lot PlainPoint = refl
resolved_bind_to-rules kind text round lot (PlainCodeTo plain) = rw
    (resolved_code-rules kind text round plain) refl

pub resolved_bind-rules : (kind : Kind) (text : List ℕ) (round : Round) (register : Register)
    → resolved_bind (with_rules kind text) round register ≡ resolved_bind kind round register
unfolding resolved_bind
resolved_bind-rules kind text round register = λ i plain.
    place_of (λ (d : Dimension). d.name) register.dimensions plain.dimension >>= λ place.
    item_at register.dimensions place >>= λ d.
    resolved_bind_to-rules kind text round d.lot plain.to i >>= λ to.
    Ok (record { dimension = place; to = to })

pub resolved_amount-rules : (kind : Kind) (text : List ℕ) (round : Round) (register : Register)
    → resolved_amount (with_rules kind text) round register ≡ resolved_amount kind round register
unfolding resolved_amount
resolved_amount-rules kind text round register = λ i plain.
    place_of (λ (r : Resource). r.name) register.resources plain.resource >>= λ place.
    item_at register.resources place >>= λ r.
    resolved_sum-rules kind text round (Some r.scale) plain.sum i >>= λ sum.
    Ok (place, sum)
