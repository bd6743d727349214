-- Conditions are written so that they read as the same.
use Rattle.std.proofs.Common.{◌≡◌, ℕ, Bool, true, false, not, ◌&&◌, cond, List, [], ◌∷◌, ◌++◌}
use Rattle.std.proofs.Common.{codes, Option, Some, None, option_and_then, Ok, IfOk, refl, ap, ap₂}
use Rattle.std.proofs.Common.{subst, sym, ◌∙◌, append-nil}
use Rattle.std.proofs.lemmas.Bool.{and_from, and_parts}
use Rattle.std.proofs.lemmas.Option.{cond_some, same_Some}
use Rattle.cfg_model.specs.declared.kind.Kind.{Kind}
use Rattle.rule_text.specs.Plain.{lone_field, equality_of}
use Rattle.rule_text.specs.declared.plain.PlainCode.{PlainCode}
use Rattle.rule_text.specs.declared.plain.PlainCode.TheVariants.{Head as PlainHeadCode}
use Rattle.rule_text.specs.declared.plain.PlainCode.TheVariants.{Line as PlainLineCode}
use Rattle.rule_text.specs.declared.plain.PlainCond.{PlainCond}
use Rattle.rule_text.specs.declared.plain.PlainCond.TheVariants.{Sums as PlainSums}
use Rattle.rule_text.specs.declared.plain.PlainCond.TheVariants.{Codes as PlainCodes}
use Rattle.rule_text.specs.declared.plain.PlainPart.{PlainPart}
use Rattle.rule_text.specs.declared.plain.PlainPart.TheVariants.{Number as PlainNumber}
use Rattle.rule_text.specs.declared.plain.PlainPart.TheVariants.{Head as PlainHead}
use Rattle.rule_text.specs.declared.plain.PlainPart.TheVariants.{Line as PlainLine}
use Rattle.rule_text.specs.declared.plain.PlainPart.TheVariants.{Total as PlainTotal}
use Rattle.rule_text.specs.declared.plain.PlainPart.TheVariants.{Cost as PlainCost}
use Rattle.rule_text.specs.declared.plain.PlainTerm.{PlainTerm}
use Rattle.rule_text.specs.declared.plain.Test.{Test}
use Rattle.rule_text.specs.declared.plain.Test.TheVariants.{Less, AtMost, Equal, AtLeast, Greater}
use Rattle.rule_text.specs.declared.plain.Test.TheVariants.{Differs}
use Rattle.rule_text.specs.declared.token.Spelling.{Spelling}
use Rattle.rule_text.proofs.ForAbove.{code_text as plain_code_text, part_text as plain_part_text}
use Rattle.rule_text.proofs.ForAbove.{term_text as plain_term_text}
use Rattle.rule_text.proofs.ForAbove.{terms_text as plain_terms_text}
use Rattle.rule_text.proofs.ForAbove.{test_text as plain_test_text}
use Rattle.rule_text.proofs.ForAbove.{equal_text as plain_equal_text}
use Rattle.rule_text.proofs.ForAbove.{cond_text as plain_cond_text, code_fits, part_fits}
use Rattle.rule_text.proofs.ForAbove.{terms_fit, cond_fits, has_text, is_small}
use Rattle.rule_text.proofs.ForAbove.{spelling_read, code_read, part_read, terms_read, cond_read}
use Rattle.rule_lang.specs.Conditions.{scale_of_part, first_scale, asked_scale, resolved_sums}
use Rattle.rule_lang.specs.Conditions.{resolved_codes, has_code, lone_code, codes_or_sums}
use Rattle.rule_lang.specs.Conditions.{resolved_cond}
use Rattle.rule_lang.specs.Least.{Checked, both}
use Rattle.rule_lang.specs.Terms.{resolved_sum, resolved_code}
use Rattle.rule_lang.specs.TermTexts.{test_text, equal_text, cond_text}
use Rattle.rule_lang.specs.declared.statement.Cond.{Cond}
use Rattle.rule_lang.specs.declared.statement.Cond.TheVariants.{Sums}
use Rattle.rule_lang.specs.declared.statement.Sum.{Sum}
use Rattle.rule_lang.specs.declared.terms.Round.{Round}
use Rattle.rule_lang.proofs.CodeLemmas.{IsCode, resolved_code-written}
use Rattle.rule_lang.proofs.ConditionLemmas.{no_sums}
use Rattle.rule_lang.proofs.NameLemmas.{IfOk-self}
use Rattle.rule_lang.proofs.ScaledLemmas.{scaled_part, scaled_terms, IsSum, resolved_sum-scaled}
use Rattle.rule_lang.proofs.StepLemmas.{step-IfOk, both-IfOk, IfOk-follows}

-- a condition is written so that it reads as the same
pub record IsWrittenCond (kind : Kind) (round : Round) (cond : Cond) : Type 0 where
  pub written : PlainCond
  pub text : cond_text kind round.cost cond ≡ plain_cond_text written
  pub same : resolved_cond kind round written ≡ Ok cond
  pub fits : cond_fits is_small written ≡ true

equal-same : (equal : Bool) → equal_text equal ≡ plain_equal_text equal
equal-same true = refl
equal-same false = refl

test-same : (test : Test) → test_text test ≡ plain_test_text test
unfolding test_text plain_test_text
test-same Less = refl
test-same AtMost = refl
test-same Equal = refl
test-same AtLeast = refl
test-same Greater = refl
test-same Differs = refl

-- two codes are written with the mark between them
record AreCodes (kind : Kind) (round : Round) (left : PlainCode) (equal : Bool) (right : PlainCode)
    (cond : Cond) : Type 0 where
  text : cond_text kind round.cost cond
      ≡ plain_code_text left
      ++ (codes " " ++ (plain_equal_text equal ++ (codes " " ++ plain_code_text right)))
  left_fits : code_fits left ≡ true
  right_fits : code_fits right ≡ true

resolved_codes-text : (kind : Kind) (round : Round) (left : PlainCode) (equal : Bool)
    (right : PlainCode) → code_read left ≡ true → code_read right ≡ true
    → IfOk (resolved_codes kind round left equal right) (AreCodes kind round left equal right)
unfolding resolved_codes cond_text
resolved_codes-text kind round left equal right left_read right_read =
    step-IfOk _ _ (both (resolved_code kind round left) (resolved_code kind round right)) _
    (both-IfOk (resolved_code kind round left) (resolved_code kind round right) (IsCode kind left)
    (IsCode kind right) (resolved_code-written kind round left left_read)
    (resolved_code-written kind round right right_read))
    (λ p h. record {
      text = ap₂ ◌++◌ h.0.text (ap₂ (λ a b. codes " " ++ (a ++ (codes " " ++ b))) (equal-same equal)
          h.1.text);
      left_fits = h.0.fits;
      right_fits = h.1.fits;
    })

codes-written : (kind : Kind) (round : Round) (left : PlainCode) (equal : Bool) (right : PlainCode)
    → cond_read (PlainCodes left equal right) ≡ true
    → IfOk (resolved_codes kind round left equal right) (IsWrittenCond kind round)
unfolding resolved_cond cond_read cond_fits plain_cond_text
codes-written kind round left equal right read =
    let parts = and_parts (has_text left right) (code_read left && code_read right) read in
    let both_read = and_parts (code_read left) (code_read right) parts.1 in
    IfOk-follows (resolved_codes kind round left equal right) _ (IsWrittenCond kind round)
    (λ cond h. record {
      written = PlainCodes left equal right;
      text = h.1.text;
      same = h.0;
      fits = and_from _ _ parts.0 (and_from _ _ h.1.left_fits h.1.right_fits);
    })
    (IfOk-self (resolved_codes kind round left equal right) (AreCodes kind round left equal right)
    (resolved_codes-text kind round left equal right both_read.0 both_read.1))

-- a sum that is a field is written as the field
record IsLone (terms : List PlainTerm) (code : PlainCode) : Type 0 where
  text : plain_terms_text terms ≡ plain_code_text code
  read : terms_read terms ≡ true → code_read code ≡ true
  fits : terms_read terms ≡ true → code_fits code ≡ true → terms_fit is_small terms ≡ true

head-lone : (minus : Bool) (spelling : Spelling)
    → IsLone (record { minus = minus; negative = false; part = PlainHead spelling } ∷ [])
    (PlainHeadCode spelling)
unfolding plain_terms_text plain_term_text plain_part_text plain_code_text terms_read part_read
    code_read terms_fit part_fits code_fits
head-lone minus spelling = record {
  text = append-nil _;
  read = λ r. (and_parts (spelling_read spelling) true
      (and_parts (not minus) (spelling_read spelling && true) r).1).0;
  fits = λ r f. and_from _ _ (and_parts (not minus) (spelling_read spelling && true) r).0
      (and_from _ _ f refl);
}

line-lone : (minus : Bool) (spelling : Spelling)
    → IsLone (record { minus = minus; negative = false; part = PlainLine spelling } ∷ [])
    (PlainLineCode spelling)
unfolding plain_terms_text plain_term_text plain_part_text plain_code_text terms_read part_read
    code_read terms_fit part_fits code_fits
line-lone minus spelling = record {
  text = append-nil _;
  read = λ r. (and_parts (spelling_read spelling) true
      (and_parts (not minus) (spelling_read spelling && true) r).1).0;
  fits = λ r f. and_from _ _ (and_parts (not minus) (spelling_read spelling && true) r).0
      (and_from _ _ f refl);
}

term-lone : (minus negative : Bool) (part : PlainPart) (code : PlainCode)
    → lone_field (record { minus = minus; negative = negative; part = part } ∷ []) ≡ Some code
    → IsLone (record { minus = minus; negative = negative; part = part } ∷ []) code
unfolding lone_field
term-lone minus true part code e = absurd (cc)
term-lone minus false (PlainNumber literal) code e = absurd (cc)
term-lone minus false (PlainHead spelling) code e =
    subst (IsLone (record { minus = minus; negative = false; part = PlainHead spelling } ∷ []))
    (same_Some (PlainHeadCode spelling) code e) (head-lone minus spelling)
term-lone minus false (PlainLine spelling) code e =
    subst (IsLone (record { minus = minus; negative = false; part = PlainLine spelling } ∷ []))
    (same_Some (PlainLineCode spelling) code e) (line-lone minus spelling)
term-lone minus false (PlainTotal spelling) code e = absurd (cc)
term-lone minus false PlainCost code e = absurd (cc)

lone_field-lone : (terms : List PlainTerm) (code : PlainCode) → lone_field terms ≡ Some code
    → IsLone terms code
unfolding lone_field
lone_field-lone [] code e = absurd (cc)
lone_field-lone (term ∷ []) code e = term-lone term.minus term.negative term.part code e
lone_field-lone (term ∷ next ∷ terms) code e = absurd (cc)

of_field : (kind : Kind) (field : Option PlainCode) (code : PlainCode)
    → option_and_then (λ c. cond (has_code kind c) (Some c) None) field ≡ Some code
    → field ≡ Some code
of_field kind None code e = absurd (cc)
of_field kind (Some c) code e = ap Some (cond_some (has_code kind c) c code e).1

lone_code-lone : (kind : Kind) (terms : List PlainTerm) (code : PlainCode)
    → lone_code kind terms ≡ Some code → IsLone terms code
unfolding lone_code
lone_code-lone kind terms code e = lone_field-lone terms code (of_field kind (lone_field terms) code
    e)

-- the decimals of numbers change neither whether a sum is a field nor the scale that is asked for
lone-part : (scale : ℕ) (minus negative : Bool) (part : PlainPart)
    → lone_field (record { minus = minus; negative = negative; part = scaled_part scale part } ∷ [])
    ≡ lone_field (record { minus = minus; negative = negative; part = part } ∷ [])
unfolding lone_field
lone-part scale minus true part = refl
lone-part scale minus false (PlainNumber literal) = refl
lone-part scale minus false (PlainHead spelling) = refl
lone-part scale minus false (PlainLine spelling) = refl
lone-part scale minus false (PlainTotal spelling) = refl
lone-part scale minus false PlainCost = refl

lone_field-scaled : (scale : ℕ) (terms : List PlainTerm) → lone_field (scaled_terms scale terms)
    ≡ lone_field terms
unfolding lone_field
lone_field-scaled scale [] = refl
lone_field-scaled scale (term ∷ []) = lone-part scale term.minus term.negative term.part
lone_field-scaled scale (term ∷ next ∷ terms) = refl

lone_code-scaled : (kind : Kind) (scale : ℕ) (terms : List PlainTerm)
    → lone_code kind (scaled_terms scale terms) ≡ lone_code kind terms
unfolding lone_code
lone_code-scaled kind scale terms = ap (option_and_then (λ code. cond (has_code kind code)
    (Some code) None)) (lone_field-scaled scale terms)

scale_of_part-scaled : (kind : Kind) (round : Round) (scale : ℕ) (part : PlainPart)
    → scale_of_part kind round (scaled_part scale part) ≡ scale_of_part kind round part
unfolding scale_of_part
scale_of_part-scaled kind round scale (PlainNumber literal) = refl
scale_of_part-scaled kind round scale (PlainHead spelling) = refl
scale_of_part-scaled kind round scale (PlainLine spelling) = refl
scale_of_part-scaled kind round scale (PlainTotal spelling) = refl
scale_of_part-scaled kind round scale PlainCost = refl

first_scale-scaled : (kind : Kind) (round : Round) (scale : ℕ) (other : Option ℕ)
    (terms : List PlainTerm)
    → first_scale kind round other (scaled_terms scale terms) ≡ first_scale kind round other terms
unfolding first_scale
first_scale-scaled kind round scale other [] = refl
first_scale-scaled kind round scale other (term ∷ terms) =
    rw (
      scale_of_part-scaled kind round scale term.part,
      first_scale-scaled kind round scale other
          terms,
    ) refl

asked_scale-scaled : (kind : Kind) (round : Round) (scale : ℕ) (left right : List PlainTerm)
    → asked_scale kind round (scaled_terms scale left) (scaled_terms scale right)
    ≡ asked_scale kind round left right
unfolding asked_scale
asked_scale-scaled kind round scale left right = first_scale-scaled kind round scale _ left
    ∙ ap (λ other. first_scale kind round other left) (first_scale-scaled kind round scale
    (Some 6) right)

-- two sums have the scale that is asked for
record AreSums (kind : Kind) (round : Round) (left right : List PlainTerm) (sums : Sum × Sum) : Type
    0 where
  scale : ℕ
  asked : asked_scale kind round left right ≡ Some scale
  first : IsSum kind round scale left sums.0
  second : IsSum kind round scale right sums.1

both_sums : (kind : Kind) (round : Round) (left right : List PlainTerm) → terms_read left ≡ true
    → terms_read right ≡ true
    → (asked : Option ℕ) → asked_scale kind round left right ≡ asked
    → IfOk (both (resolved_sum kind round asked left) (resolved_sum kind round asked right))
    (AreSums kind round left right)
both_sums kind round left right left_read right_read (Some scale) is =
    IfOk-follows (both (resolved_sum kind round (Some scale) left)
    (resolved_sum kind round (Some scale) right)) _ (AreSums kind round left right)
    (λ p h. record { scale = scale; asked = is; first = h.0; second = h.1 })
    (both-IfOk (resolved_sum kind round (Some scale) left) (resolved_sum kind round (Some scale)
    right) (IsSum kind round scale left) (IsSum kind round scale right)
    (resolved_sum-scaled kind round scale left left_read) (resolved_sum-scaled kind round scale
    right right_read))
both_sums kind round left right left_read right_read None is =
    IfOk-follows (both (resolved_sum kind round None left) (resolved_sum kind round None right))
    (λ _. ⊥) (AreSums kind round left right) (λ p never. absurd never)
    (no_sums kind round left right is)

-- sums of a condition are written with the decimals of the scale that is asked for
record AreWrittenSums (kind : Kind) (round : Round) (left : List PlainTerm) (test : Test)
    (right : List PlainTerm) (cond : Cond) : Type 0 where
  scale : ℕ
  text : cond_text kind round.cost cond ≡ plain_cond_text (PlainSums (scaled_terms scale left) test
      (scaled_terms scale right))
  same : resolved_sums kind round (scaled_terms scale left) test (scaled_terms scale right)
      ≡ Ok cond
  fits : cond_fits is_small (PlainSums (scaled_terms scale left) test (scaled_terms scale right))
      ≡ true

sums-text : (kind : Kind) (round : Round) (left : List PlainTerm) (test : Test)
    (right : List PlainTerm) (sums : Sum × Sum)
    → (are : AreSums kind round left right sums)
    → cond_text kind round.cost (Sums sums.0 test sums.1)
    ≡ plain_cond_text (PlainSums (scaled_terms are.scale left) test
    (scaled_terms are.scale right))
unfolding cond_text plain_cond_text asked_scale
sums-text kind round left test right sums are =
    rw (are.first.brings _ ∙ ap (λ other. first_scale kind round other left)
    (are.second.brings (Some 6)) ∙ are.asked)
    (ap₂ ◌++◌ are.first.text (ap₂ (λ a b. codes " " ++ (a ++ (codes " " ++ b))) (test-same test)
    are.second.text))

-- two that are each accepted are accepted together
pub both-Ok : {X Y : Type 0} (a : Checked X) (b : Checked Y) (x : X) (y : Y) → a ≡ Ok x → b ≡ Ok y
    → both a b ≡ Ok (x, y)
unfolding both
both-Ok a b x y p q = rw (p, q) refl

sums-same : (kind : Kind) (round : Round) (left : List PlainTerm) (test : Test)
    (right : List PlainTerm) (sums : Sum × Sum)
    → (are : AreSums kind round left right sums)
    → resolved_sums kind round (scaled_terms are.scale left) test (scaled_terms are.scale right)
    ≡ Ok (Sums sums.0 test sums.1)
unfolding resolved_sums
sums-same kind round left test right sums are =
    rw (
      asked_scale-scaled kind round are.scale left right ∙ are.asked,
      both-Ok _ _ sums.0 sums.1
          are.first.same are.second.same,
    ) refl

resolved_sums-written : (kind : Kind) (round : Round) (left : List PlainTerm) (test : Test)
    (right : List PlainTerm)
    → terms_read left ≡ true → terms_read right ≡ true
    → IfOk (resolved_sums kind round left test right) (AreWrittenSums kind round left test right)
unfolding resolved_sums cond_fits
resolved_sums-written kind round left test right left_read right_read =
    let asked : Option ℕ = asked_scale kind round left right in
    step-IfOk _ _ (both (resolved_sum kind round asked left) (resolved_sum kind round asked right))
    (AreSums kind round left right)
    (both_sums kind round left right left_read right_read asked refl)
    (λ p are. record {
      scale = are.scale;
      text = sums-text kind round left test right p are;
      same = sums-same kind round left test right p are;
      fits = and_from _ _ are.first.fits are.second.fits;
    })

-- a test for equality is written as the mark between codes
mark-same : (test : Test) (equal : Bool) → equality_of test ≡ Some equal
    → plain_test_text test ≡ plain_equal_text equal
unfolding equality_of plain_test_text
mark-same Less equal e = absurd (cc)
mark-same AtMost equal e = absurd (cc)
mark-same Equal equal e = ap plain_equal_text (same_Some true equal e)
mark-same AtLeast equal e = absurd (cc)
mark-same Greater equal e = absurd (cc)
mark-same Differs equal e = ap plain_equal_text (same_Some false equal e)

-- what two sums are read as, where both are fields with codes
fields-written : (kind : Kind) (round : Round) (left : List PlainTerm) (test : Test)
    (right : List PlainTerm) (a b : PlainCode) (equal : Bool)
    → lone_code kind left ≡ Some a → equality_of test ≡ Some equal → lone_code kind right ≡ Some b
    → terms_read left ≡ true → terms_read right ≡ true
    → IfOk (resolved_codes kind round a equal b) (IsWrittenCond kind round)
unfolding resolved_cond cond_fits plain_cond_text
fields-written kind round left test right a b equal is_left is_test is_right left_read right_read =
    let first = lone_code-lone kind left a is_left in
    let second = lone_code-lone kind right b is_right in
    IfOk-follows (resolved_codes kind round a equal b) _ (IsWrittenCond kind round)
    (λ cond h. record {
      written = PlainSums left test right;
      text = h.1.text ∙ ap₂ ◌++◌ (sym first.text) (ap₂ (λ t u. codes " " ++ (t ++ (codes " " ++ u)))
          (sym (mark-same test equal is_test)) (sym second.text));
      same = rw (is_left, is_test, is_right) h.0;
      fits = and_from _ _ (first.fits left_read h.1.left_fits)
          (second.fits right_read h.1.right_fits);
    })
    (IfOk-self (resolved_codes kind round a equal b) (AreCodes kind round a equal b)
    (resolved_codes-text kind round a equal b (first.read left_read) (second.read right_read)))

sums-written : (kind : Kind) (round : Round) (left : List PlainTerm) (test : Test)
    (right : List PlainTerm)
    → terms_read left ≡ true → terms_read right ≡ true
    → ((sums : Checked Cond) → codes_or_sums (lone_code kind left) (equality_of test)
    (lone_code kind right) kind round sums ≡ sums)
    → IfOk (resolved_sums kind round left test right) (IsWrittenCond kind round)
unfolding resolved_cond
sums-written kind round left test right left_read right_read no_codes =
    IfOk-follows (resolved_sums kind round left test right) (AreWrittenSums kind round left test
    right) (IsWrittenCond kind round)
    (λ cond are. record {
      written = PlainSums (scaled_terms are.scale left) test (scaled_terms are.scale right);
      text = are.text;
      same = rw (lone_code-scaled kind are.scale left, lone_code-scaled kind are.scale right)
          (no_codes _ ∙ are.same);
      fits = are.fits;
    })
    (resolved_sums-written kind round left test right left_read right_read)

codes_or_sums-written : (kind : Kind) (round : Round) (left : List PlainTerm) (test : Test)
    (right : List PlainTerm)
    → terms_read left ≡ true → terms_read right ≡ true
    → (a : Option PlainCode) (e : Option Bool) (b : Option PlainCode)
    → lone_code kind left ≡ a → equality_of test ≡ e → lone_code kind right ≡ b
    → IfOk (codes_or_sums a e b kind round (resolved_sums kind round left test right))
    (IsWrittenCond kind round)
codes_or_sums-written kind round left test right left_read right_read (Some a) (Some e)
    (Some b) is_left is_test is_right =
    fields-written kind round left test right a b e is_left is_test is_right left_read right_read
codes_or_sums-written kind round left test right left_read right_read (Some a) (Some e) None is_left
    is_test is_right =
    sums-written kind round left test right left_read right_read
    (λ sums. rw (is_left, is_test, is_right) refl)
codes_or_sums-written kind round left test right left_read right_read (Some a) None b is_left
    is_test is_right =
    sums-written kind round left test right left_read right_read
    (λ sums. rw (is_left, is_test) refl)
codes_or_sums-written kind round left test right left_read right_read None e b is_left is_test
    is_right =
    sums-written kind round left test right left_read right_read (λ sums. rw is_left refl)

sums_read : (left : List PlainTerm) (test : Test) (right : List PlainTerm)
    → cond_read (PlainSums left test right) ≡ true
    → (terms_read left ≡ true) × (terms_read right ≡ true)
unfolding cond_read
sums_read left test right read = and_parts (terms_read left) (terms_read right) read

pub resolved_cond-written : (kind : Kind) (round : Round) (plain : PlainCond)
    → cond_read plain ≡ true
    → IfOk (resolved_cond kind round plain) (IsWrittenCond kind round)
unfolding resolved_cond
resolved_cond-written kind round (PlainCodes left equal right) read = codes-written kind round left
    equal right read
resolved_cond-written kind round (PlainSums left test right) read =
    let parts = sums_read left test right read in
    codes_or_sums-written kind round left test right parts.0 parts.1 (lone_code kind left)
    (equality_of test) (lone_code kind right) refl refl refl
