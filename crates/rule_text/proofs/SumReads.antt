-- Codes, sums, binds and conditions that are read pass their tests.
use Rattle.std.proofs.Common.{◌≡◌, Bool, true, false, not, ◌&&◌, codes, List, [], ◌∷◌, Some, None}
use Rattle.std.proofs.Common.{refl}
use Rattle.std.specs.List.{list_all}
use Rattle.std.proofs.lemmas.Bool.{and_from, and_parts}
use Rattle.reg_base.specs.Codes.{is_code}
use Rattle.rule_text.specs.Binds.{bind_to, bind, after_comma, next_bind, binds, target, amount}
use Rattle.rule_text.specs.Binds.{next_amount, amounts}
use Rattle.rule_text.specs.Fronts.{is_mark_next, is_word_next, token_number}
use Rattle.rule_text.specs.Readers.{Reader, pick, takes, mark, name, code_if, list_reader}
use Rattle.rule_text.specs.Sums.{field, owner, code_field, field_code, code, field_part, part, term}
use Rattle.rule_text.specs.Sums.{joint, next_term, sum}
use Rattle.rule_text.specs.declared.mark.Mark.TheVariants.{Point as PointMark, Plus as PlusMark}
use Rattle.rule_text.specs.declared.mark.Mark.TheVariants.{Minus as MinusMark, Semicolon, Comma}
use Rattle.rule_text.specs.declared.mark.Mark.TheVariants.{Equal as EqualMark, Open}
use Rattle.rule_text.specs.declared.plain.PlainAmount.{PlainAmount}
use Rattle.rule_text.specs.declared.plain.PlainCode.TheVariants.{Text}
use Rattle.rule_text.specs.declared.plain.PlainPart.{PlainPart}
use Rattle.rule_text.specs.declared.plain.PlainPart.TheVariants.{Number, Head, Line, Total, Cost}
use Rattle.rule_text.specs.declared.plain.PlainTerm.{PlainTerm}
use Rattle.rule_text.specs.declared.plain.PlainTo.TheVariants.{Code, Point}
use Rattle.rule_text.specs.declared.sums.Owner.{Owner}
use Rattle.rule_text.specs.declared.sums.Owner.TheVariants.{OfHead, OfLine}
use Rattle.rule_text.specs.declared.token.Spelling.{Spelling}
use Rattle.rule_text.proofs.ReadTests.{spelling_read, code_read, part_read, term_read, terms_read}
use Rattle.rule_text.proofs.ReadTests.{to_read, bind_read, target_read, amount_read, amounts_read}
use Rattle.rule_text.proofs.GivesLemmas.{Gives, any, if_some, then-gives, follows-gives, give-gives}
use Rattle.rule_text.proofs.GivesLemmas.{stuck-gives, takes-gives, number-gives, mark-gives}
use Rattle.rule_text.proofs.GivesLemmas.{name-gives, code_if-gives, first_and_others}
use Rattle.rule_text.proofs.GivesLemmas.{list_reader-gives, takes-then, by_test}

field-gives : Gives spelling_read field
unfolding field
field-gives = then-gives _ _ (mark PointMark) any (mark-gives PointMark) (λ u h. name-gives)

owner-gives : Gives any owner
unfolding owner
owner-gives = takes-then _ _ (is_word_next (codes "head")) (give-gives any OfHead refl)
    (takes-then _ _ (is_word_next (codes "line")) (give-gives any OfLine refl) (stuck-gives any))

code_field-read : (of : Owner) (spelling : Spelling) → spelling_read spelling ≡ true
    → code_read (code_field of spelling) ≡ true
unfolding code_read
code_field-read OfHead spelling h = h
code_field-read OfLine spelling h = h

field_code-gives : Gives code_read field_code
unfolding field_code
field_code-gives = then-gives _ _ owner any owner-gives
    (λ of o. then-gives _ _ field spelling_read field-gives
    (λ spelling s. give-gives code_read _ (code_field-read of spelling s)))

pub code-gives : Gives code_read code
unfolding code code_read
code-gives = then-gives _ _ code_if (if_some is_code) code_if-gives (elim [
  | None ↦ λ h. field_code-gives
  | Some text ↦ λ h. give-gives code_read (Text text) h
])

field_part-gives : Gives part_read field_part
unfolding field_part part_read
field_part-gives = takes-then _ _ (is_word_next (codes "total"))
    (then-gives _ _ field spelling_read field-gives (λ spelling s. give-gives part_read
    (Total spelling) s))
    (then-gives _ _ owner any owner-gives (elim [
      | OfHead ↦ λ h. then-gives _ _ field spelling_read field-gives
          (λ spelling s. give-gives part_read (Head spelling) s)
      | OfLine ↦ λ h. then-gives _ _ field spelling_read field-gives
          (λ spelling s. give-gives part_read (Line spelling) s)
    ]))

part-gives : Gives part_read part
unfolding part part_read
part-gives = then-gives _ _ (pick token_number) (if_some any) number-gives (elim [
  | Some literal ↦ λ h. give-gives part_read (Number literal) refl
  | None ↦ λ h. takes-then _ _ (is_word_next (codes "cost")) (give-gives part_read Cost refl)
      field_part-gives
])

-- a term that a minus joins or not, with a part that passes
term-gives : (minus : Bool) (test : PlainTerm → Bool)
    → ((negative : Bool) (p : PlainPart) → part_read p ≡ true
    → test (record { minus = minus; negative = negative; part = p }) ≡ true)
    → Gives test (term minus)
unfolding term
term-gives minus test each = then-gives _ _ (takes (is_mark_next MinusMark)) any (takes-gives _)
    (λ negative h. then-gives _ _ part part_read part-gives (λ p is. give-gives test _
    (each negative p is)))

joint-gives : Gives any joint
unfolding joint
joint-gives = takes-then _ _ (is_mark_next PlusMark) (give-gives any (Some false) refl)
    (takes-then _ _ (is_mark_next MinusMark) (give-gives any (Some true) refl)
    (give-gives any None refl))

next_term-gives : Gives (if_some term_read) next_term
unfolding next_term
next_term-gives = then-gives _ _ joint any joint-gives (elim [
  | None ↦ λ h. give-gives (if_some term_read) None refl
  | Some minus ↦ λ h. then-gives _ _ (term minus) term_read (term-gives minus term_read
      (λ negative p is. is))
      (λ t is. give-gives (if_some term_read) (Some t) is)
])

-- the first term of a sum: nothing joins it
abbrev first_term : PlainTerm → Bool
first_term t = not t.minus && term_read t

first_term-terms : (terms : List PlainTerm) → first_and_others first_term term_read terms ≡ true
    → terms_read terms ≡ true
unfolding terms_read
first_term-terms [] h = h
first_term-terms (t ∷ ts) h =
    let (one, others) = and_parts (first_term t) (list_all term_read ts) h in
    let (unjoined, is) = and_parts (not t.minus) (term_read t) one in
    and_from (not t.minus) (term_read t && list_all term_read ts) unjoined
    (and_from (term_read t) (list_all term_read ts) is others)

pub sum-gives : Gives terms_read sum
unfolding sum
sum-gives = follows-gives (first_and_others first_term term_read) terms_read first_term-terms _
    (list_reader-gives first_term term_read (term false) next_term
    (term-gives false first_term (λ negative p is. is)) next_term-gives)

bind_to-gives : Gives to_read bind_to
unfolding bind_to to_read
bind_to-gives = takes-then _ _ (is_word_next (codes "point")) (give-gives to_read Point refl)
    (then-gives _ _ code code_read code-gives (λ c is. give-gives to_read (Code c) is))

bind-gives : Gives bind_read bind
unfolding bind
bind-gives = then-gives _ _ name spelling_read name-gives
    (λ dimension d. then-gives _ _ (mark EqualMark) any (mark-gives EqualMark)
    (λ u h. then-gives _ _ bind_to to_read bind_to-gives
    (λ to is. give-gives bind_read _ (and_from _ _ d is))))

pub after_comma-gives : {X : Type 0} (test : X → Bool) (read : Reader X) → Gives test read
    → Gives (if_some test) (after_comma read)
after_comma-gives test read each = takes-then _ _ (is_mark_next Comma)
    (then-gives _ _ read test each (λ x is. give-gives (if_some test) (Some x) is))
    (give-gives (if_some test) None refl)

-- the first and each other one are each one
pub all-pass : {X : Type 0} (test : X → Bool) (xs : List X) → first_and_others test test xs ≡ true
    → list_all test xs ≡ true
all-pass test [] h = refl
all-pass test (x ∷ xs) h = h

some_binds-gives : Gives (list_all bind_read) (list_reader bind next_bind)
unfolding next_bind
some_binds-gives = follows-gives (first_and_others bind_read bind_read) (list_all bind_read)
    (all-pass bind_read) _
    (list_reader-gives bind_read bind_read bind _ bind-gives
    (after_comma-gives bind_read bind bind-gives))

binds-gives : Gives (list_all bind_read) binds
unfolding binds
binds-gives = record {
  each = λ tokens are. by_test (is_mark_next Semicolon tokens)
      (λ e. rw e (refl, are)) (λ e. rw e (some_binds-gives.each tokens are));
}

pub target-gives : Gives target_read target
unfolding target
target-gives = then-gives _ _ name spelling_read name-gives
    (λ register r. then-gives _ _ (mark Open) any (mark-gives Open)
    (λ u h. then-gives _ _ binds (list_all bind_read) binds-gives
    (λ bound are. then-gives _ _ (mark Semicolon) any (mark-gives Semicolon)
    (λ v i. give-gives target_read _ (and_from _ _ r are)))))

pub amount-gives : Gives amount_read amount
unfolding amount
amount-gives = then-gives _ _ name spelling_read name-gives
    (λ resource r. then-gives _ _ (mark EqualMark) any (mark-gives EqualMark)
    (λ u h. then-gives _ _ sum terms_read sum-gives
    (λ terms are. give-gives amount_read _ (and_from _ _ r are))))

some_amounts : (amounts : List PlainAmount)
    → first_and_others amount_read amount_read amounts ≡ true → amounts_read amounts ≡ true
unfolding amounts_read
some_amounts [] h = h
some_amounts (a ∷ others) h = h

pub amounts-gives : Gives amounts_read amounts
unfolding amounts next_amount
amounts-gives = follows-gives (first_and_others amount_read amount_read) amounts_read some_amounts _
    (list_reader-gives amount_read amount_read amount _ amount-gives
    (after_comma-gives amount_read amount amount-gives))
