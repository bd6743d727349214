-- Conditions are read back as they were written.
use Rattle.std.proofs.Common.{◌≡◌, ℕ, Bool, true, false, not, List, [], ◌∷◌, ◌++◌, slice_index}
use Rattle.std.proofs.Common.{Option, Some, None, codes, refl, append_assoc, append-nil}
use Rattle.std.proofs.lemmas.Bool.{and_parts}
use Rattle.std.specs.List.{flat_map}
use Rattle.reg_base.specs.Codes.{is_code, is_name}
use Rattle.rule_text.specs.Marks.{mark_text}
use Rattle.rule_text.specs.Plain.{code_of_part, lone_field, equality_of}
use Rattle.rule_text.specs.Fronts.{token_code, token_break, is_mark_next, is_word_next}
use Rattle.rule_text.specs.Sums.{sum}
use Rattle.rule_text.specs.Conditions.{test_of, comparison, equality, text_cond, sums_cond}
use Rattle.rule_text.specs.Conditions.{field_cond, code_or_sum_cond, sum_cond, cond, when}
use Rattle.rule_text.specs.Tokens.{is_blank, lexeme}
use Rattle.rule_text.specs.declared.mark.Mark.TheVariants.{Minus as MinusMark, Plus as PlusMark}
use Rattle.rule_text.specs.declared.mark.Mark.TheVariants.{Equal as EqualMark, Less as LessMark}
use Rattle.rule_text.specs.declared.mark.Mark.TheVariants.{AtMost as AtMostMark}
use Rattle.rule_text.specs.declared.mark.Mark.TheVariants.{AtLeast as AtLeastMark}
use Rattle.rule_text.specs.declared.mark.Mark.TheVariants.{Greater as GreaterMark}
use Rattle.rule_text.specs.declared.mark.Mark.TheVariants.{Differs as DiffersMark}
use Rattle.rule_text.specs.declared.token.Token.{Token}
use Rattle.rule_text.specs.declared.plain.PlainCode.{PlainCode}
use Rattle.rule_text.specs.declared.plain.PlainCode.TheVariants.{Text, Head as HeadCode}
use Rattle.rule_text.specs.declared.plain.PlainCode.TheVariants.{Line as LineCode}
use Rattle.rule_text.specs.declared.plain.PlainCond.{PlainCond}
use Rattle.rule_text.specs.declared.plain.PlainCond.TheVariants.{Sums, Codes}
use Rattle.rule_text.specs.declared.plain.PlainPart.{PlainPart}
use Rattle.rule_text.specs.declared.plain.PlainPart.TheVariants.{Number, Head, Line, Total, Cost}
use Rattle.rule_text.specs.declared.plain.PlainTerm.{PlainTerm}
use Rattle.rule_text.specs.declared.plain.Test.{Test}
use Rattle.rule_text.specs.declared.plain.Test.TheVariants.{Less, AtMost, Equal, AtLeast, Greater}
use Rattle.rule_text.specs.declared.plain.Test.TheVariants.{Differs}
use Rattle.rule_text.proofs.PlainTexts.{code_text, part_text, sign_text, term_text, joint_text}
use Rattle.rule_text.proofs.PlainTexts.{terms_text, test_text, equal_text, cond_text, when_text}
use Rattle.rule_text.proofs.PlainTexts.{is_named, is_small, code_fits, part_fits, terms_fit}
use Rattle.rule_text.proofs.PlainTexts.{cond_fits, when_fits}
use Rattle.rule_text.proofs.LexemeLemmas.{EndsPart, quoted_text}
use Rattle.rule_text.proofs.ReadBack.{ReadsBack, Anything, then_reads, then_gives, behind_blank}
use Rattle.rule_text.proofs.ReadBack.{reads_before, before_less, Begins, begins-blank, NotNext}
use Rattle.rule_text.proofs.ReadBack.{takes_nothing_before}
use Rattle.rule_text.proofs.TokensBack.{EndsWord, is_mark, begins-token, reads_token, takes_word}
use Rattle.rule_text.proofs.TokensBack.{reads_code_if, NoCode, no_code_if, no_code_next}
use Rattle.rule_text.proofs.ListsBack.{may_follow}
use Rattle.rule_text.proofs.SumsBack.{part_token, begins_part, begins_owner, reads_code, EndsSum}
use Rattle.rule_text.proofs.SumsBack.{ends_blank, reads_more_terms, reads_sum}
use Rattle.rule_text.proofs.BindsBack.{ends_sum}

-- a blank follows
abbrev EndsTest : List ℕ → Type 0
EndsTest rest = is_blank (slice_index rest 0) ≡ true

-- the mark of a test, and that between codes
reads_test : (x : Test) → ReadsBack EndsTest comparison (test_text x) x
unfolding comparison test_of test_text mark_text
reads_test Less = reads_token (is_mark LessMark) comparison Less (λ place len tokens. refl)
reads_test Greater = reads_token (is_mark GreaterMark) comparison Greater (λ place len tokens. refl)
reads_test AtMost =
    before_less (reads_token (is_mark AtMostMark) comparison AtMost (λ place len tokens. refl))
reads_test AtLeast =
    before_less (reads_token (is_mark AtLeastMark) comparison AtLeast (λ place len tokens. refl))
reads_test Equal =
    before_less (reads_token (is_mark EqualMark) comparison Equal (λ place len tokens. refl))
reads_test Differs =
    before_less (reads_token (is_mark DiffersMark) comparison Differs (λ place len tokens. refl))

reads_equality : (equal : Bool) → ReadsBack Anything equality (equal_text equal) equal
unfolding equality equality_of test_of mark_text
reads_equality true = reads_token (is_mark EqualMark) equality true (λ place len tokens. refl)
reads_equality false = reads_token (is_mark DiffersMark) equality false (λ place len tokens. refl)

-- a sum ends at a blank and a token that joins no term
before_test : {token : Token} {rest : List ℕ} → Begins token rest
    → is_mark_next PlusMark (lexeme 0 0 token ∷ []) ≡ false
    → is_mark_next MinusMark (lexeme 0 0 token ∷ []) ≡ false → EndsSum (32 ∷ rest)
before_test {rest = rest} begins plus minus =
    ends_sum (begins-blank begins) (ends_blank rest) plus minus

-- a sum ends at the mark of a test
sum_before_test : (x : Test) (rest : List ℕ)
    → EndsSum (codes " " ++ (test_text x ++ (codes " " ++ rest)))
unfolding test_text mark_text
sum_before_test Less rest =
    before_test (begins-token (is_mark LessMark) (32 ∷ rest) refl) refl refl
sum_before_test Greater rest =
    before_test (begins-token (is_mark GreaterMark) (32 ∷ rest) refl) refl refl
sum_before_test AtMost rest =
    before_test (begins-token (is_mark AtMostMark) (32 ∷ rest) tt) refl refl
sum_before_test AtLeast rest =
    before_test (begins-token (is_mark AtLeastMark) (32 ∷ rest) tt) refl refl
sum_before_test Equal rest =
    before_test (begins-token (is_mark EqualMark) (32 ∷ rest) tt) refl refl
sum_before_test Differs rest =
    before_test (begins-token (is_mark DiffersMark) (32 ∷ rest) tt) refl refl

no_code_part : (x : PlainPart) → token_code (part_token x) ≡ None
unfolding part_token
no_code_part (Number literal) = refl
no_code_part (Head spelling) = refl
no_code_part (Line spelling) = refl
no_code_part (Total spelling) = refl
no_code_part Cost = refl

no_break_part : (x : PlainPart) → token_break (part_token x) ≡ None
unfolding part_token
no_break_part (Number literal) = refl
no_break_part (Head spelling) = refl
no_break_part (Line spelling) = refl
no_break_part (Total spelling) = refl
no_break_part Cost = refl

no_code_signed : (negative : Bool) (x : PlainPart) → part_fits is_small x ≡ true → (rest : List ℕ)
    → EndsPart rest → NoCode ((sign_text negative ++ part_text x) ++ rest)
unfolding mark_text
no_code_signed true x fits rest end = no_code_next (begins-token (is_mark MinusMark) _ tt) refl refl
no_code_signed false x fits rest end =
    no_code_next (begins_part x fits rest end) (no_code_part x) (no_break_part x)

-- no sum begins with a quote
no_code_sum : (xs : List PlainTerm) → terms_fit is_small xs ≡ true → (rest : List ℕ) → EndsSum rest
    → NoCode (terms_text xs ++ rest)
unfolding terms_text terms_fit term_text
no_code_sum [] fit rest end = absurd (cc)
no_code_sum (x ∷ xs) fit rest end =
    let parts = and_parts (not x.minus) _ fit in
    let others = and_parts (part_fits is_small x.part) _ parts.1 in
    let more = flat_map (λ y. joint_text y.minus ++ term_text y) xs in
    rw (append_assoc (sign_text x.negative ++ part_text x.part) more rest)
    (no_code_signed x.negative x.part others.0 (more ++ rest)
    (may_follow reads_more_terms xs rest end))

reads_sums : (left right : List PlainTerm) (by : Test) → terms_fit is_small right ≡ true
    → ReadsBack EndsSum (sums_cond left by) (terms_text right) (Sums left by right)
unfolding sums_cond
reads_sums left right by fits = then_gives _ (reads_sum right fits) (λ tokens. refl)

reads_compared : (field : Option PlainCode) (equal : Option Bool) (left right : List PlainTerm)
    → (by : Test)
    → terms_fit is_small right ≡ true
    → ReadsBack EndsSum (code_or_sum_cond field equal left by) (terms_text right)
    (Sums left by right)
unfolding field_cond
reads_compared (Some field) (Some equal) left right by fits = then_reads _ no_code_if
    (reads_sums left right by fits) (λ rest end. no_code_sum right fits rest end)
reads_compared (Some field) None left right by fits = reads_sums left right by fits
reads_compared None equal left right by fits = reads_sums left right by fits

reads_sum_cond : (left right : List PlainTerm) (by : Test) → terms_fit is_small left ≡ true
    → terms_fit is_small right ≡ true
    → ReadsBack EndsSum sum_cond
    (terms_text left ++ (codes " " ++ (test_text by ++ (codes " " ++ terms_text right))))
    (Sums left by right)
unfolding sum_cond
reads_sum_cond left right by left_fits right_fits =
    then_reads _ (reads_sum left left_fits)
    (then_reads _ (behind_blank (reads_test by))
    (behind_blank (reads_compared (lone_field left) (equality_of by) left right by right_fits))
    (λ rest end. refl))
    (λ rest end. rw append_assoc (sum_before_test by (terms_text right ++ rest)))

-- the test for equality, or that for difference
abbrev equality_test : Bool → Test
equality_test true = Equal
equality_test false = Differs

test_text-equality : (equal : Bool) → test_text (equality_test equal) ≡ equal_text equal
unfolding test_text
test_text-equality true = refl
test_text-equality false = refl

equality_of-test : (equal : Bool) → equality_of (equality_test equal) ≡ Some equal
unfolding equality_of
equality_of-test true = refl
equality_of-test false = refl

-- a field alone, read as a sum
abbrev lone : PlainPart → List PlainTerm
lone x = record { minus = false; negative = false; part = x } ∷ []

reads_lone : (x : PlainPart) → part_fits is_small x ≡ true
    → ReadsBack EndsSum sum (part_text x) (lone x)
unfolding terms_text terms_fit term_text
reads_lone x fits =
    let fit : terms_fit is_small (lone x) ≡ true = rw fits refl in
    rw append-nil at (reads_sum (lone x) fit)

reads_text_behind : (field : PlainCode) (equal : Bool) (x : PlainPart) (by : Test) (text : List ℕ)
    → code_of_part x ≡ Some field → equality_of by ≡ Some equal → is_code text ≡ true
    → ReadsBack Anything (code_or_sum_cond (lone_field (lone x)) (equality_of by) (lone x) by)
    (quoted_text text) (Codes field equal (Text text))
unfolding lone_field field_cond
reads_text_behind field equal x by text is asks coded =
    rw (is, asks) (then_gives _ (reads_code_if text coded) (λ tokens. refl))

reads_field_cond : (field : PlainCode) (equal : Bool) (x : PlainPart) (text : List ℕ)
    → code_of_part x ≡ Some field → part_fits is_small x ≡ true → is_code text ≡ true
    → ReadsBack Anything sum_cond
    (part_text x ++ (codes " " ++ (equal_text equal ++ (codes " " ++ quoted_text text))))
    (Codes field equal (Text text))
unfolding sum_cond
reads_field_cond field equal x text is fits coded =
    let by = equality_test equal in
    let behind = reads_text_behind field equal x by text is (equality_of-test equal) coded in
    rw (← (test_text-equality equal)) (then_reads _ (reads_lone x fits)
    (then_reads _ (behind_blank (reads_test by)) (behind_blank behind) (λ rest end. refl))
    (λ rest end. rw append_assoc (sum_before_test by (quoted_text text ++ rest))))

no_code_sides : (left : List PlainTerm) → terms_fit is_small left ≡ true
    → (by : Test) (right rest : List ℕ)
    → NoCode ((terms_text left ++ (codes " " ++ (test_text by ++ (codes " " ++ right)))) ++ rest)
no_code_sides left fits by right rest =
    let back = codes " " ++ right in
    rw (
      append_assoc (terms_text left) (codes " " ++ (test_text by ++ back)) rest,
      append_assoc (test_text by) back rest,
    )
    (no_code_sum left fits _ (sum_before_test by (right ++ rest)))

reads_text_cond : (text : List ℕ) (equal : Bool) (right : PlainCode) → is_code text ≡ true
    → code_fits right ≡ true
    → ReadsBack EndsWord cond
    (quoted_text text ++ (codes " " ++ (equal_text equal ++ (codes " " ++ code_text right))))
    (Codes (Text text) equal right)
unfolding cond text_cond
reads_text_cond text equal right coded fits =
    then_reads _ (reads_code_if text coded)
    (then_reads _ (behind_blank (reads_equality equal))
    (then_gives _ (behind_blank (reads_code right fits)) (λ tokens. refl))
    (λ rest end. tt))
    (λ rest end. tt)

-- a condition
pub reads_cond : (x : PlainCond) → cond_fits is_small x ≡ true
    → ReadsBack EndsSum cond (cond_text x) x
unfolding cond cond_text cond_fits code_text code_fits part_text part_fits is_name
reads_cond (Sums left by right) fits =
    let parts = and_parts (terms_fit is_small left) (terms_fit is_small right) fits in
    then_reads _ no_code_if (reads_sum_cond left right by parts.0 parts.1)
    (λ rest end. no_code_sides left parts.0 by (terms_text right) rest)
reads_cond (Codes (Text text) equal right) fits =
    let parts = and_parts (is_code text) (code_fits right) fits in
    reads_before (reads_text_cond text equal right parts.0 parts.1)
    (λ rest (end : EndsSum rest). end.part.no_word)
reads_cond (Codes (HeadCode spelling) equal (Text text)) fits =
    let parts = and_parts (is_named spelling) (is_code text) fits in
    then_reads _ no_code_if
    (before_less
    (reads_field_cond (HeadCode spelling) equal (Head spelling) text refl parts.0 parts.1))
    (λ rest end. no_code_next (begins_owner (codes "head") refl _) refl refl)
reads_cond (Codes (LineCode spelling) equal (Text text)) fits =
    let parts = and_parts (is_named spelling) (is_code text) fits in
    then_reads _ no_code_if
    (before_less
    (reads_field_cond (LineCode spelling) equal (Line spelling) text refl parts.0 parts.1))
    (λ rest end. no_code_next (begins_owner (codes "line") refl _) refl refl)
reads_cond (Codes (HeadCode spelling) equal (HeadCode _)) fits = absurd (cc)
reads_cond (Codes (HeadCode spelling) equal (LineCode _)) fits = absurd (cc)
reads_cond (Codes (LineCode spelling) equal (HeadCode _)) fits = absurd (cc)
reads_cond (Codes (LineCode spelling) equal (LineCode _)) fits = absurd (cc)

-- what may follow a condition or none: what may follow a sum, and no `when`
pub record EndsWhen (rest : List ℕ) : Type 0 where
  pub sum : EndsSum rest
  pub no_when : NotNext (is_word_next (codes "when")) rest

-- a condition, where there is one
pub reads_when : (x : Option PlainCond) → when_fits is_small x ≡ true
    → ReadsBack EndsWhen when (when_text x) x
unfolding when when_fits is_name
reads_when None fits = then_gives _
    (takes_nothing_before (is_word_next (codes "when")) (λ rest (end : EndsWhen rest). end.no_when))
    (λ tokens. refl)
reads_when (Some x) fits =
    let one = reads_before (reads_cond x fits) (λ rest (end : EndsWhen rest). end.sum) in
    then_reads _ (behind_blank (takes_word (codes "when") refl))
    (then_gives _ (behind_blank one) (λ tokens. refl))
    (λ rest end. refl)
