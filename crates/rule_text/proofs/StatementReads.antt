-- Conditions, acts and whole statements that are read pass their tests.
use Rattle.std.proofs.Common.{◌≡◌, ℕ, Bool, true, false, not, ◌&&◌, codes, List, [], ◌∷◌, Option}
use Rattle.std.proofs.Common.{Some, None, option_and_then, Ok, Err, IfOk, refl}
use Rattle.std.specs.List.{list_all}
use Rattle.std.proofs.lemmas.Bool.{and_from, and_parts}
use Rattle.reg_base.specs.Codes.{is_code}
use Rattle.rule_text.specs.Acts.{make, write_off, require, control, next_code, extra_codes}
use Rattle.rule_text.specs.Acts.{account_side, side, sides, entry, front_opening, act_of, verb, act}
use Rattle.rule_text.specs.Binds.{target, amount, amounts}
use Rattle.rule_text.specs.Conditions.{front_test, comparison as test_mark, equality, text_cond}
use Rattle.rule_text.specs.Conditions.{sums_cond, field_cond, code_or_sum_cond, sum_cond, cond}
use Rattle.rule_text.specs.Conditions.{when}
use Rattle.rule_text.specs.Fronts.{is_mark_next, is_word_next}
use Rattle.rule_text.specs.Plain.{lone_field, equality_of}
use Rattle.rule_text.specs.Readers.{Read, ◌>>=◌, give, mark, word, name, code_if, quoted}
use Rattle.rule_text.specs.Readers.{list_reader}
use Rattle.rule_text.specs.Sentences.{scope, statement, next_statement, statements, statements_of}
use Rattle.rule_text.specs.Sums.{code, sum}
use Rattle.rule_text.specs.Tokens.{tokens_of}
use Rattle.rule_text.specs.declared.acts.Opening.{Opening}
use Rattle.rule_text.specs.declared.acts.Opening.TheVariants.{Makes, WritesOff, Requires, Controls}
use Rattle.rule_text.specs.declared.acts.Opening.TheVariants.{Enters}
use Rattle.rule_text.specs.declared.fault.ReadFault.TheVariants.{Stuck, Memory}
use Rattle.rule_text.specs.declared.mark.Mark.TheVariants.{Open, Close, Semicolon, Comma, AtLeast}
use Rattle.rule_text.specs.declared.plain.PlainAct.TheVariants.{Make, WriteOff, Require, Control}
use Rattle.rule_text.specs.declared.plain.PlainAct.TheVariants.{Entry}
use Rattle.rule_text.specs.declared.plain.PlainCode.{PlainCode}
use Rattle.rule_text.specs.declared.plain.PlainCode.TheVariants.{Text, Head as HeadCode}
use Rattle.rule_text.specs.declared.plain.PlainCode.TheVariants.{Line as LineCode}
use Rattle.rule_text.specs.declared.plain.PlainCond.TheVariants.{Sums, Codes}
use Rattle.rule_text.specs.declared.plain.PlainPart.{PlainPart}
use Rattle.rule_text.specs.declared.plain.PlainPart.TheVariants.{Number, Head, Line, Total, Cost}
use Rattle.rule_text.specs.declared.plain.PlainSides.{PlainSides}
use Rattle.rule_text.specs.declared.plain.PlainTerm.{PlainTerm}
use Rattle.rule_text.specs.declared.plain.Scope.TheVariants.{Once, EachLine}
use Rattle.rule_text.specs.declared.plain.Test.{Test}
use Rattle.rule_text.specs.declared.plain.Verb.{Verb}
use Rattle.rule_text.specs.declared.token.Lexeme.{Lexeme}
use Rattle.rule_text.proofs.ReadTests.{spelling_read, code_read, part_read, terms_read, target_read}
use Rattle.rule_text.proofs.ReadTests.{amount_read, amounts_read, side_read, act_read, cond_read}
use Rattle.rule_text.proofs.ReadTests.{when_read, statement_read}
use Rattle.rule_text.proofs.SpeltTokens.{are_read, tokens_of-read, found_cases}
use Rattle.rule_text.proofs.GivesLemmas.{Passes, Gives, any, if_some, then-gives, follows-gives}
use Rattle.rule_text.proofs.GivesLemmas.{give-gives, takes-then, mark-gives, word-gives, name-gives}
use Rattle.rule_text.proofs.GivesLemmas.{code_if-gives, quoted-gives, first_and_others}
use Rattle.rule_text.proofs.GivesLemmas.{list_reader-gives, list_on-gives, take_front-gives}
use Rattle.rule_text.proofs.GivesLemmas.{drop-read, by_test}
use Rattle.rule_text.proofs.SumReads.{code-gives, sum-gives, after_comma-gives, target-gives}
use Rattle.rule_text.proofs.SumReads.{amount-gives, amounts-gives, all-pass}

-- Conditions

test-gives : Gives any test_mark
unfolding test_mark
test-gives = record { each = λ tokens are. (take_front-gives (front_test tokens)).each tokens are }

equality-gives : Gives any equality
unfolding equality
equality-gives = record {
  each = λ tokens are.
      (take_front-gives (option_and_then equality_of (front_test tokens))).each tokens are;
}

text_cond-gives : (text : List ℕ) → is_code text ≡ true → Gives cond_read (text_cond text)
unfolding text_cond cond_read code_read
text_cond-gives text is = then-gives _ _ equality any equality-gives
    (λ equal h. then-gives _ _ code code_read code-gives
    (λ right r. give-gives cond_read (Codes (Text text) equal right)
    (and_from (is_code text) (code_read right) is r)))

sums_cond-gives : (left : List PlainTerm) (by : Test) → terms_read left ≡ true
    → Gives cond_read (sums_cond left by)
unfolding sums_cond cond_read
sums_cond-gives left by l = then-gives _ _ sum terms_read sum-gives
    (λ right r. give-gives cond_read (Sums left by right) (and_from (terms_read left)
    (terms_read right) l r))

-- a text behind a field is on one side
field_and_text : (field : PlainCode) (equal : Bool) (text : List ℕ) → code_read field ≡ true
    → is_code text ≡ true
    → cond_read (Codes field equal (Text text)) ≡ true
unfolding cond_read code_read
field_and_text (Text other) equal text f t = and_from (is_code other) (is_code text) f t
field_and_text (HeadCode spelling) equal text f t = and_from (spelling_read spelling) (is_code text)
    f t
field_and_text (LineCode spelling) equal text f t = and_from (spelling_read spelling) (is_code text)
    f t

field_cond-gives : (field : PlainCode) (equal : Bool) (left : List PlainTerm) (by : Test)
    → code_read field ≡ true → terms_read left ≡ true
    → Gives cond_read (field_cond field equal left by)
unfolding field_cond
field_cond-gives field equal left by f l = then-gives _ _ code_if (if_some is_code) code_if-gives
    (elim [
      | Some text ↦ λ h. give-gives cond_read (Codes field equal (Text text))
          (field_and_text field equal text f h)
      | None ↦ λ h. sums_cond-gives left by l
    ])

code_or_sum_cond-gives : (field : Option PlainCode) (equal : Option Bool) (left : List PlainTerm)
    (by : Test)
    → if_some code_read field ≡ true → terms_read left ≡ true
    → Gives cond_read (code_or_sum_cond field equal left by)
code_or_sum_cond-gives (Some field) (Some equal) left by f l = field_cond-gives field equal left by
    f l
code_or_sum_cond-gives (Some field) None left by f l = sums_cond-gives left by l
code_or_sum_cond-gives None equal left by f l = sums_cond-gives left by l

lone_part-read : (minus negative : Bool) (part : PlainPart) → part_read part ≡ true
    → if_some code_read (lone_field (record { minus = minus; negative = negative; part = part }
    ∷ [])) ≡ true
unfolding lone_field part_read code_read
lone_part-read minus true part h = refl
lone_part-read minus false (Head field) h = h
lone_part-read minus false (Line field) h = h
lone_part-read minus false (Number literal) h = refl
lone_part-read minus false (Total field) h = refl
lone_part-read minus false Cost h = refl

-- a field that is a sum alone is one that was read
lone_field-read : (terms : List PlainTerm) → terms_read terms ≡ true
    → if_some code_read (lone_field terms) ≡ true
unfolding lone_field terms_read
lone_field-read [] h = refl
lone_field-read (t ∷ []) h =
    let (unjoined, others) = and_parts (not t.minus) (part_read t.part && true) h in
    lone_part-read t.minus t.negative t.part (and_parts (part_read t.part) true others).0
lone_field-read (t ∷ next ∷ terms) h = refl

sum_cond-gives : Gives cond_read sum_cond
unfolding sum_cond
sum_cond-gives = then-gives _ _ sum terms_read sum-gives
    (λ left l. then-gives _ _ test_mark any test-gives
    (λ by h. code_or_sum_cond-gives (lone_field left) (equality_of by) left by
    (lone_field-read left l) l))

cond-gives : Gives cond_read cond
unfolding cond
cond-gives = then-gives _ _ code_if (if_some is_code) code_if-gives (elim [
  | Some text ↦ λ h. text_cond-gives text h
  | None ↦ λ h. sum_cond-gives
])

when-gives : Gives when_read when
unfolding when when_read
when-gives = takes-then _ _ (is_word_next (codes "when"))
    (then-gives _ _ cond cond_read cond-gives (λ condition c. give-gives when_read (Some condition)
    c))
    (give-gives when_read None refl)

-- Acts

make-gives : (verb : Verb) → Gives act_read (make verb)
unfolding make act_read
make-gives verb = then-gives _ _ target target_read target-gives
    (λ to t. then-gives _ _ amounts amounts_read amounts-gives
    (λ sums s. then-gives _ _ (mark Close) any (mark-gives Close)
    (λ u h. give-gives act_read (Make verb to sums) (and_from (target_read to) (amounts_read sums) t
    s))))

write_off-gives : (fifo : Bool) → Gives act_read (write_off fifo)
unfolding write_off act_read
write_off-gives fifo = then-gives _ _ target target_read target-gives
    (λ to t. then-gives _ _ amount amount_read amount-gives
    (λ wanted w. then-gives _ _ (mark Comma) any (mark-gives Comma)
    (λ u h. then-gives _ _ name spelling_read name-gives
    (λ cost c. then-gives _ _ (mark Close) any (mark-gives Close)
    (λ v i. give-gives act_read (WriteOff fifo to wanted cost)
    (and_from (target_read to) (amount_read wanted && spelling_read cost) t
    (and_from (amount_read wanted) (spelling_read cost) w c)))))))

require-gives : Gives act_read require
unfolding require act_read
require-gives = then-gives _ _ target target_read target-gives
    (λ to t. then-gives _ _ name spelling_read name-gives
    (λ resource r. then-gives _ _ (mark Close) any (mark-gives Close)
    (λ u h. then-gives _ _ (mark AtLeast) any (mark-gives AtLeast)
    (λ v i. then-gives _ _ sum terms_read sum-gives
    (λ least l. then-gives _ _ (word (codes "code")) any (word-gives (codes "code"))
    (λ w j. then-gives _ _ quoted is_code quoted-gives
    (λ text is. give-gives act_read (Require to resource least text)
    (and_from (target_read to) (spelling_read resource && (terms_read least && is_code text)) t
    (and_from (spelling_read resource) (terms_read least && is_code text) r
    (and_from (terms_read least) (is_code text) l is))))))))))

control-gives : Gives act_read control
unfolding control act_read
control-gives = then-gives _ _ name spelling_read name-gives
    (λ register r. then-gives _ _ name spelling_read name-gives
    (λ resource s. give-gives act_read (Control register resource)
    (and_from (spelling_read register) (spelling_read resource) r s)))

some_codes-gives : Gives (list_all code_read) (list_reader code next_code)
unfolding next_code
some_codes-gives = follows-gives (first_and_others code_read code_read) (list_all code_read)
    (all-pass code_read) _
    (list_reader-gives code_read code_read code _ code-gives
    (after_comma-gives code_read code code-gives))

extra_codes-gives : Gives (list_all code_read) extra_codes
unfolding extra_codes
extra_codes-gives = record {
  each = λ tokens are. by_test (is_mark_next Close tokens)
      (λ e. rw e (refl, are)) (λ e. rw e (some_codes-gives.each tokens are));
}

account_side-gives : Gives side_read account_side
unfolding account_side side_read
account_side-gives = then-gives _ _ code code_read code-gives
    (λ account a. then-gives _ _ (mark Open) any (mark-gives Open)
    (λ u h. then-gives _ _ extra_codes (list_all code_read) extra_codes-gives
    (λ extras e. then-gives _ _ (mark Close) any (mark-gives Close)
    (λ v i. give-gives side_read (Some (record { account = account; extras = extras }))
    (and_from (code_read account) (list_all code_read extras) a e)))))

side-gives : Gives side_read side
unfolding side side_read
side-gives = takes-then _ _ (is_word_next (codes "none")) (give-gives side_read None refl)
    account_side-gives

-- both sides
abbrev sides_read : PlainSides → Bool
sides_read sides = side_read sides.debit && side_read sides.credit

sides-gives : Gives sides_read sides
unfolding sides
sides-gives = then-gives _ _ (word (codes "debit")) any (word-gives (codes "debit"))
    (λ u h. then-gives _ _ side side_read side-gives
    (λ debit d. then-gives _ _ (mark Comma) any (mark-gives Comma)
    (λ v i. then-gives _ _ (word (codes "credit")) any (word-gives (codes "credit"))
    (λ w j. then-gives _ _ side side_read side-gives
    (λ credit c. give-gives sides_read (record { debit = debit; credit = credit })
    (and_from (side_read debit) (side_read credit) d c))))))

entry-gives : Gives act_read entry
unfolding entry act_read
entry-gives = then-gives _ _ name spelling_read name-gives
    (λ ledger l. then-gives _ _ (mark Open) any (mark-gives Open)
    (λ u h. then-gives _ _ sides sides_read sides-gives
    (λ both b. then-gives _ _ (mark Semicolon) any (mark-gives Semicolon)
    (λ v i. then-gives _ _ sum terms_read sum-gives
    (λ amount a. then-gives _ _ (mark Close) any (mark-gives Close)
    (λ w j. let (debit, credit) = and_parts (side_read both.debit) (side_read both.credit) b in
    give-gives act_read (Entry ledger both amount)
    (and_from (spelling_read ledger) (side_read both.debit && (side_read both.credit && terms_read
    amount)) l
    (and_from (side_read both.debit) (side_read both.credit && terms_read amount) debit
    (and_from (side_read both.credit) (terms_read amount) credit a)))))))))

act_of-gives : (opening : Opening) → Gives act_read (act_of opening)
unfolding act_of
act_of-gives (Makes verb) = make-gives verb
act_of-gives (WritesOff fifo) = write_off-gives fifo
act_of-gives Requires = require-gives
act_of-gives Controls = control-gives
act_of-gives Enters = entry-gives

verb-gives : Gives any verb
unfolding verb
verb-gives = record {
  each = λ tokens are. found_cases (front_opening tokens)
      (λ e. rw e tt) (λ opening e. rw e (refl, drop-read tokens are));
}

act-gives : Gives act_read act
unfolding act
act-gives = then-gives _ _ verb any verb-gives (λ opening h. act_of-gives opening)

-- Statements

scope-gives : Gives any scope
unfolding scope
scope-gives = takes-then _ _ (is_word_next (codes "once")) (give-gives any (Some Once) refl)
    (takes-then _ _ (is_word_next (codes "each"))
    (then-gives _ _ (word (codes "line")) any (word-gives (codes "line"))
    (λ u h. give-gives any (Some EachLine) refl))
    (give-gives any None refl))

statement-gives : (place : ℕ) → Gives statement_read (statement place)
unfolding statement
statement-gives place = then-gives _ _ scope any scope-gives
    (λ s h. then-gives _ _ act act_read act-gives
    (λ a is. then-gives _ _ when when_read when-gives
    (λ w ws. then-gives _ _ (mark Semicolon) any (mark-gives Semicolon)
    (λ u i. give-gives statement_read _ (and_from (act_read a) (when_read w) is ws)))))

some_statement-gives : (place : ℕ)
    → Gives (if_some statement_read) (statement place >>= λ s. give (Some s))
some_statement-gives place = then-gives _ _ (statement place) statement_read (statement-gives place)
    (λ s is. give-gives (if_some statement_read) (Some s) is)

next_statement-passes : (tokens : List Lexeme) → are_read tokens ≡ true
    → Passes (if_some statement_read) (next_statement tokens)
unfolding next_statement
next_statement-passes [] are = (refl, refl)
next_statement-passes (token ∷ tokens) are = (some_statement-gives token.place).each
    (token ∷ tokens) are

next_statement-gives : Gives (if_some statement_read) next_statement
next_statement-gives = record { each = next_statement-passes }

statements-gives : Gives (list_all statement_read) statements
unfolding statements
statements-gives = list_on-gives statement_read next_statement next_statement-gives

-- what follows where a value was read, and where none was
read_cases : {X G : Type 0} (read : Read X) → ((r : X × List Lexeme) → read ≡ Ok r → G)
    → ((place : Option ℕ) → read ≡ Err (Stuck place) → G) → (read ≡ Err Memory → G) → G
read_cases (Ok r) value stuck memory = value r refl
read_cases (Err (Stuck place)) value stuck memory = stuck place refl
read_cases (Err Memory) value stuck memory = memory refl

-- all statements that are read pass their tests
pub statements_of-fits : (text : List ℕ)
    → IfOk (statements_of text) (λ ps. list_all statement_read ps ≡ true)
unfolding statements_of
statements_of-fits text =
    let passes : Passes (list_all statement_read) (statements (tokens_of text)) =
    statements-gives.each (tokens_of text) (tokens_of-read text) in
    read_cases (statements (tokens_of text)) (λ r e. rw e (rw e at passes).0) (λ place e. rw e tt)
    (λ e. rw e tt)
