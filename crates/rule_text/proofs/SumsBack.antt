-- Codes, parts, terms and sums are read back as they were written.
use Rattle.std.proofs.Common.{◌≡◌, ℕ, Bool, true, false, not, List, [], ◌∷◌, ◌++◌, Some, None}
use Rattle.std.proofs.Common.{codes, refl, subst, cond}
use Rattle.std.proofs.lemmas.Bool.{and_parts}
use Rattle.reg_base.specs.Codes.{is_name}
use Rattle.rule_text.specs.Marks.{mark_text}
use Rattle.rule_text.specs.Readers.{Reader}
use Rattle.rule_text.specs.Fronts.{token_number, is_mark_next, is_word_next}
use Rattle.rule_text.specs.Sums.{field, owner, field_code, code, field_part, part, term, joint}
use Rattle.rule_text.specs.Sums.{next_term, sum}
use Rattle.rule_text.specs.Tokens.{lexeme}
use Rattle.rule_text.specs.declared.mark.Mark.{Mark}
use Rattle.rule_text.specs.declared.mark.Mark.TheVariants.{Point as PointMark, Plus as PlusMark}
use Rattle.rule_text.specs.declared.mark.Mark.TheVariants.{Minus as MinusMark}
use Rattle.rule_text.specs.declared.sums.Owner.TheVariants.{OfHead, OfLine}
use Rattle.rule_text.specs.declared.token.Spelling.{Spelling}
use Rattle.rule_text.specs.declared.token.Spelling.TheVariants.{Named}
use Rattle.rule_text.specs.declared.token.Token.{Token}
use Rattle.rule_text.specs.declared.token.Token.TheVariants.{Word, Number as NumberToken}
use Rattle.rule_text.specs.declared.plain.PlainCode.{PlainCode}
use Rattle.rule_text.specs.declared.plain.PlainCode.TheVariants.{Text, Head as HeadCode}
use Rattle.rule_text.specs.declared.plain.PlainCode.TheVariants.{Line as LineCode}
use Rattle.rule_text.specs.declared.plain.PlainPart.{PlainPart}
use Rattle.rule_text.specs.declared.plain.PlainPart.TheVariants.{Number, Head, Line, Total, Cost}
use Rattle.rule_text.specs.declared.plain.PlainTerm.{PlainTerm}
use Rattle.rule_text.proofs.PlainTexts.{spelling_text, code_text, part_text, sign_text, term_text}
use Rattle.rule_text.proofs.PlainTexts.{joint_text, terms_text, is_named, is_small, code_fits}
use Rattle.rule_text.proofs.PlainTexts.{part_fits, terms_fit}
use Rattle.rule_text.proofs.LexemeLemmas.{EndsPart}
use Rattle.rule_text.proofs.ReadBack.{ReadsBack, TakesToken, Anything, then_reads, then_gives}
use Rattle.rule_text.proofs.ReadBack.{takes_first, takes_blank, behind_blank, reads_before}
use Rattle.rule_text.proofs.ReadBack.{before_less, Begins, begins-blank, NotNext, takes_nothing}
use Rattle.rule_text.proofs.ReadBack.{takes_nothing_before, picks_nothing}
use Rattle.rule_text.proofs.TokensBack.{EndsWord, is_word, is_mark, is_number, takes-token}
use Rattle.rule_text.proofs.TokensBack.{begins-token, reads_mark, takes_mark, takes_word}
use Rattle.rule_text.proofs.TokensBack.{reads_name, reads_code_if, picks_number, no_code_if}
use Rattle.rule_text.proofs.TokensBack.{not_word, not_mark, none_next, no_code_next}
use Rattle.rule_text.proofs.ListsBack.{ReadsMore, reads_list_of}

-- a point and a field
pub reads_field : (spelling : Spelling) → is_named spelling ≡ true
    → ReadsBack EndsWord field (codes "." ++ spelling_text spelling) spelling
unfolding field mark_text
reads_field spelling named =
    then_reads _ (reads_mark PointMark) (reads_name spelling named) (λ rest end. tt)

-- a word in front of a point
pub begins_owner : (text : List ℕ) → is_name text ≡ true → (rest : List ℕ)
    → Begins (Word (Named text)) (text ++ (46 ∷ rest))
begins_owner text named rest = begins-token (is_word text named) (46 ∷ rest) refl

reads_head : ReadsBack EndsWord owner (codes "head") OfHead
unfolding owner is_name
reads_head = then_gives _ (takes_word (codes "head") refl) (λ tokens. refl)

reads_line : ReadsBack EndsWord owner (codes "line") OfLine
unfolding owner is_name
reads_line = then_reads _ (takes_nothing (is_word_next (codes "head")))
    (then_gives _ (takes_word (codes "line") refl) (λ tokens. refl))
    (λ rest end. not_word (begins-token (is_word (codes "line") refl) rest end) (codes "head") refl)

-- a code
pub reads_code : (x : PlainCode) → code_fits x ≡ true → ReadsBack EndsWord code (code_text x) x
unfolding code field_code code_text code_fits is_name
reads_code (Text text) fits =
    before_less (then_gives _ (reads_code_if text fits) (λ tokens. refl))
reads_code (HeadCode spelling) fits = then_reads _ no_code_if
    (then_reads _ reads_head (then_gives _ (reads_field spelling fits) (λ tokens. refl))
    (λ rest end. refl))
    (λ rest end. no_code_next (begins_owner (codes "head") refl _) refl refl)
reads_code (LineCode spelling) fits = then_reads _ no_code_if
    (then_reads _ reads_line (then_gives _ (reads_field spelling fits) (λ tokens. refl))
    (λ rest end. refl))
    (λ rest end. no_code_next (begins_owner (codes "line") refl _) refl refl)

-- the token that a part begins with
unfoldable pub part_token : PlainPart → Token
part_token (Number literal) = NumberToken literal
part_token (Head spelling) = Word (Named (codes "head"))
part_token (Line spelling) = Word (Named (codes "line"))
part_token (Total spelling) = Word (Named (codes "total"))
part_token Cost = Word (Named (codes "cost"))

-- a part begins with its token
pub begins_part : (x : PlainPart) → part_fits is_small x ≡ true → (rest : List ℕ) → EndsPart rest
    → Begins (part_token x) (part_text x ++ rest)
unfolding part_token part_text part_fits is_name
begins_part (Number literal) fits rest end = begins-token (is_number literal fits) rest end
begins_part (Head spelling) fits rest end = begins_owner (codes "head") refl _
begins_part (Line spelling) fits rest end = begins_owner (codes "line") refl _
begins_part (Total spelling) fits rest end = begins_owner (codes "total") refl _
begins_part Cost fits rest end = begins-token (is_word (codes "cost") refl) rest end.no_word

-- where no word may follow, neither a word nor a point may
pub before_part : {X : Type 0} {read : Reader X} {text : List ℕ} {x : X}
    → ReadsBack EndsWord read text x → ReadsBack EndsPart read text x
before_part h = reads_before h (λ rest (end : EndsPart rest). end.no_word)

-- a part
pub reads_part : (x : PlainPart) → part_fits is_small x ≡ true
    → ReadsBack EndsPart part (part_text x) x
unfolding part field_part part_text part_fits part_token is_name
reads_part (Number literal) fits = then_gives _ (picks_number literal fits) (λ tokens. refl)
reads_part (Head spelling) fits = then_reads _ (picks_nothing token_number)
    (then_reads _ (takes_nothing (is_word_next (codes "cost")))
    (then_reads _ (takes_nothing (is_word_next (codes "total")))
    (then_reads _ reads_head
    (then_gives _ (before_part (reads_field spelling fits)) (λ tokens. refl))
    (λ rest end. refl))
    (λ rest end. not_word (begins_part (Head spelling) fits rest end) (codes "total") refl))
    (λ rest end. not_word (begins_part (Head spelling) fits rest end) (codes "cost") refl))
    (λ rest end. none_next (begins_part (Head spelling) fits rest end) token_number refl)
reads_part (Line spelling) fits = then_reads _ (picks_nothing token_number)
    (then_reads _ (takes_nothing (is_word_next (codes "cost")))
    (then_reads _ (takes_nothing (is_word_next (codes "total")))
    (then_reads _ reads_line
    (then_gives _ (before_part (reads_field spelling fits)) (λ tokens. refl))
    (λ rest end. refl))
    (λ rest end. not_word (begins_part (Line spelling) fits rest end) (codes "total") refl))
    (λ rest end. not_word (begins_part (Line spelling) fits rest end) (codes "cost") refl))
    (λ rest end. none_next (begins_part (Line spelling) fits rest end) token_number refl)
reads_part (Total spelling) fits = then_reads _ (picks_nothing token_number)
    (then_reads _ (takes_nothing (is_word_next (codes "cost")))
    (then_reads _ (takes_word (codes "total") refl)
    (then_gives _ (before_part (reads_field spelling fits)) (λ tokens. refl))
    (λ rest end. refl))
    (λ rest end. not_word (begins_part (Total spelling) fits rest end) (codes "cost") refl))
    (λ rest end. none_next (begins_part (Total spelling) fits rest end) token_number refl)
reads_part Cost fits = then_reads _ (picks_nothing token_number)
    (then_gives _ (before_part (takes_word (codes "cost") refl)) (λ tokens. refl))
    (λ rest end. none_next (begins_part Cost fits rest end) token_number refl)

not_sign : (sign : Mark) (x : PlainPart)
    → is_mark_next sign (lexeme 0 0 (part_token x) ∷ []) ≡ false
unfolding part_token
not_sign sign (Number literal) = refl
not_sign sign (Head spelling) = refl
not_sign sign (Line spelling) = refl
not_sign sign (Total spelling) = refl
not_sign sign Cost = refl

-- a part behind its own sign
reads_signed : (minus negative : Bool) (x : PlainPart) → part_fits is_small x ≡ true
    → ReadsBack EndsPart (term minus) (sign_text negative ++ part_text x)
    (record { minus = minus; negative = negative; part = x })
unfolding term mark_text
reads_signed minus true x fits = then_reads _ (takes_mark MinusMark)
    (then_gives _ (reads_part x fits) (λ tokens. refl)) (λ rest end. tt)
reads_signed minus false x fits = then_reads _ (takes_nothing (is_mark_next MinusMark))
    (then_gives _ (reads_part x fits) (λ tokens. refl))
    (λ rest end. not_mark (begins_part x fits rest end) MinusMark (not_sign MinusMark x))

-- a term
pub reads_term : (minus : Bool) (x : PlainTerm) → x.minus ≡ minus → part_fits is_small x.part ≡ true
    → ReadsBack EndsPart (term minus) (term_text x) x
unfolding term_text
reads_term minus x is fits = subst (λ (m : Bool). ReadsBack EndsPart (term m) (term_text x) x) is
    (reads_signed x.minus x.negative x.part fits)

-- what may follow a sum: no byte of its last part, and no mark that joins one more term
pub record EndsSum (rest : List ℕ) : Type 0 where
  pub part : EndsPart rest
  pub no_plus : NotNext (is_mark_next PlusMark) rest
  pub no_minus : NotNext (is_mark_next MinusMark) rest

-- a part ends at a blank
pub ends_blank : (rest : List ℕ) → EndsPart (32 ∷ rest)
ends_blank rest = record { no_word = refl; no_point = refl }

-- no mark joins one more term
no_joint : ReadsBack EndsSum joint [] None
unfolding joint
no_joint =
    then_reads _
    (takes_nothing_before (is_mark_next PlusMark) (λ rest (end : EndsSum rest). end.no_plus))
    (then_gives _
    (takes_nothing_before (is_mark_next MinusMark) (λ rest (end : EndsSum rest). end.no_minus))
    (λ tokens. refl))
    (λ rest end. end)

-- the mark that joins one more term, behind a blank
reads_joint : (minus : Bool) → ReadsBack Anything joint (32 ∷ (cond minus 45 43 ∷ [])) (Some minus)
unfolding joint mark_text
reads_joint false = then_gives _ (behind_blank (takes_mark PlusMark)) (λ tokens. refl)
reads_joint true = then_reads _ (takes_nothing (is_mark_next PlusMark))
    (then_gives _ (behind_blank (takes_mark MinusMark)) (λ tokens. refl))
    (λ rest end. not_mark (begins-blank (begins-token (is_mark MinusMark) rest tt)) PlusMark refl)

joint_text-byte : (minus : Bool) → joint_text minus ≡ 32 ∷ (cond minus 45 43 ∷ (32 ∷ []))
joint_text-byte true = refl
joint_text-byte false = refl

reads_next_term : (x : PlainTerm) → part_fits is_small x.part ≡ true
    → ReadsBack EndsPart next_term (joint_text x.minus ++ term_text x) (Some x)
unfolding next_term
reads_next_term x fits = rw joint_text-byte
    (then_reads _ (reads_joint x.minus)
    (then_gives _ (behind_blank (reads_term x.minus x refl fits)) (λ tokens. refl))
    (λ rest end. tt))

takes_joint : (minus : Bool) → TakesToken Anything (32 ∷ (cond minus 45 43 ∷ []))
unfolding mark_text
takes_joint false = takes_blank (takes-token (is_mark PlusMark))
takes_joint true = takes_blank (takes-token (is_mark MinusMark))

takes_next_term : (x : PlainTerm) → part_fits is_small x.part ≡ true
    → TakesToken EndsPart (joint_text x.minus ++ term_text x)
takes_next_term x fits = rw joint_text-byte
    (takes_first (takes_joint x.minus) (behind_blank (reads_term x.minus x refl fits))
    (λ rest end. tt))

no_term : ReadsBack EndsSum next_term [] None
unfolding next_term
no_term = then_gives _ no_joint (λ tokens. refl)

-- one more term, or none
pub reads_more_terms : ReadsMore EndsPart EndsSum next_term (λ x. joint_text x.minus ++ term_text x)
    (λ x. part_fits is_small x.part)
reads_more_terms = record {
  one = reads_next_term;
  some = takes_next_term;
  goes_on = λ x rest. rw joint_text-byte (ends_blank _);
  none = no_term;
  ended = λ rest end. end.part;
}

not_minus : (minus : Bool) → not minus ≡ true → minus ≡ false
not_minus true h = absurd (cc)
not_minus false h = refl

-- a sum
pub reads_sum : (xs : List PlainTerm) → terms_fit is_small xs ≡ true
    → ReadsBack EndsSum sum (terms_text xs) xs
unfolding sum terms_text terms_fit
reads_sum [] fit = absurd (cc)
reads_sum (x ∷ xs) fit =
    let parts = and_parts (not x.minus) _ fit in
    let others = and_parts (part_fits is_small x.part) _ parts.1 in
    let one = reads_term false x (not_minus x.minus parts.0) others.0 in
    reads_list_of one reads_more_terms xs others.1
