-- Each reader of statements is decided by the tokens that it takes and the first one behind them.
use Rattle.std.proofs.Common.{◌≡◌, ℕ, codes, not, Bool, true, false, List, [], ◌∷◌, Option, Some}
use Rattle.std.proofs.Common.{None, is_some, option_map, option_and_then, Ok, Err, refl, ap, sym}
use Rattle.std.proofs.Common.{◌∙◌, length, ◌<◌, arith}
use Rattle.rule_text.specs.Acts.{make, write_off, require, control, next_code, codes_if}
use Rattle.rule_text.specs.Acts.{extra_codes, account_side, side, sides, entry, front_opening}
use Rattle.rule_text.specs.Acts.{act_of, verb, act}
use Rattle.rule_text.specs.Binds.{bind_to, bind, after_comma, next_bind, binds_if, binds, target}
use Rattle.rule_text.specs.Binds.{amount, next_amount, amounts}
use Rattle.rule_text.specs.Conditions.{front_test, comparison, equality, text_cond, sums_cond}
use Rattle.rule_text.specs.Conditions.{field_cond, code_or_sum_cond, sum_cond, cond, when}
use Rattle.rule_text.specs.Fronts.{first, is_mark_next, is_word_next, token_number}
use Rattle.rule_text.specs.Plain.{lone_field, equality_of}
use Rattle.rule_text.specs.Readers.{Read, Reader, then_read, ◌>>=◌, give, take_front, put_in_front}
use Rattle.rule_text.specs.Readers.{pick, takes, mark, word, name, code_if, quoted, list_on}
use Rattle.rule_text.specs.Sentences.{scope, statement, statement_if, next_statement, statements}
use Rattle.rule_text.specs.Sums.{field, owner, code_field, field_code, code, field_part, part, term}
use Rattle.rule_text.specs.Sums.{joint, next_term, sum}
use Rattle.rule_text.specs.declared.acts.Opening.{Opening}
use Rattle.rule_text.specs.declared.acts.Opening.TheVariants.{Makes, WritesOff, Requires, Controls}
use Rattle.rule_text.specs.declared.acts.Opening.TheVariants.{Enters}
use Rattle.rule_text.specs.declared.mark.Mark.{Mark}
use Rattle.rule_text.specs.declared.mark.Mark.TheVariants.{Open, Close, Semicolon, Comma, Point}
use Rattle.rule_text.specs.declared.mark.Mark.TheVariants.{Plus, Minus, Equal, AtLeast}
use Rattle.rule_text.specs.declared.plain.PlainAct.{PlainAct}
use Rattle.rule_text.specs.declared.plain.PlainCode.{PlainCode}
use Rattle.rule_text.specs.declared.plain.PlainTerm.{PlainTerm}
use Rattle.rule_text.specs.declared.plain.PlainCond.{PlainCond}
use Rattle.rule_text.specs.declared.plain.PlainStatement.{PlainStatement}
use Rattle.rule_text.specs.declared.plain.Scope.{Scope}
use Rattle.rule_text.specs.declared.fault.ReadFault.TheVariants.{Stuck}
use Rattle.rule_text.specs.declared.plain.Test.{Test}
use Rattle.rule_text.specs.declared.plain.Verb.{Verb}
use Rattle.rule_text.specs.declared.sums.Owner.TheVariants.{OfHead, OfLine}
use Rattle.rule_text.specs.declared.token.Lexeme.{Lexeme}
use Rattle.rule_text.proofs.Decided.{Decides, OnFirst, on-first, then-decides, give-decides}
use Rattle.rule_text.proofs.Decided.{stuck-decides, look-decides, takes_mark-decides}
use Rattle.rule_text.proofs.Decided.{takes_word-decides, mark-decides, word-decides, mark-first}
use Rattle.rule_text.proofs.Decided.{name-decides, pick-decides, code_if-decides, quoted-decides}
use Rattle.rule_text.proofs.Decided.{take_front-decides}
use Rattle.rule_text.proofs.DecidedLists.{Uses, ReadsOneMore, same_Ok, then-uses, takes-uses}
use Rattle.rule_text.proofs.DecidedLists.{all_more, all_more-whole, list_on-decides}
use Rattle.rule_text.proofs.DecidedLists.{list_reader-decides}

field-decides : Decides field
unfolding field
field-decides = then-decides _ (mark Point) (mark-decides Point) (λ u. name-decides)

owner-decides : Decides owner
unfolding owner
owner-decides = then-decides _ (takes (is_word_next (codes "head")))
    (takes_word-decides (codes "head")) (elim [
      | true ↦ give-decides OfHead
      | false ↦ then-decides _ (takes (is_word_next (codes "line")))
          (takes_word-decides (codes "line"))
          (elim [ true ↦ give-decides OfLine | false ↦ stuck-decides ])
    ])

field_code-decides : Decides field_code
unfolding field_code
field_code-decides = then-decides _ owner owner-decides
    (λ of. then-decides _ field field-decides (λ spelling. give-decides (code_field of spelling)))

code-decides : Decides code
unfolding code
code-decides = then-decides _ code_if code_if-decides
    (elim [ Some text ↦ give-decides _ | None ↦ field_code-decides ])

field_part-decides : Decides field_part
unfolding field_part
field_part-decides = then-decides _ (takes (is_word_next (codes "total")))
    (takes_word-decides (codes "total")) (elim [
      | true ↦ then-decides _ field field-decides (λ spelling. give-decides _)
      | false ↦ then-decides _ owner owner-decides
          (λ of. then-decides _ field field-decides (λ spelling. give-decides _))
    ])

part-decides : Decides part
unfolding part
part-decides = then-decides _ (pick token_number) (pick-decides token_number) (elim [
  | Some literal ↦ give-decides _
  | None ↦ then-decides _ (takes (is_word_next (codes "cost"))) (takes_word-decides (codes "cost"))
      (elim [ true ↦ give-decides _ | false ↦ field_part-decides ])
])

term-decides : (minus : Bool) → Decides (term minus)
unfolding term
term-decides minus = then-decides _ (takes (is_mark_next Minus)) (takes_mark-decides Minus)
    (λ negative. then-decides _ part part-decides (λ p. give-decides _))

joint-decides : Decides joint
unfolding joint
joint-decides = then-decides _ (takes (is_mark_next Plus)) (takes_mark-decides Plus) (elim [
  | true ↦ give-decides _
  | false ↦ then-decides _ (takes (is_mark_next Minus)) (takes_mark-decides Minus)
      (elim [ true ↦ give-decides _ | false ↦ give-decides _ ])
])

-- a mark that stands in front takes a token
mark-uses : (sign : Mark) → Uses (λ found. found) (takes (is_mark_next sign))
mark-uses sign = takes-uses (is_mark_next sign) refl

none-uses : {X : Type 0} → Uses {X = Option X} is_some (give None)
none-uses = record {
  each = λ tokens r e is. absurd
      (unlike (ap (λ p. is_some p.0) (same_Ok (None, tokens) r e) ∙ is));
}
  where
    unlike : false ≡ true → ⊥
    unlike f = cc

joint-uses : Uses is_some joint
unfolding joint
joint-uses = then-uses _ is_some (λ found. found) (takes (is_mark_next Plus))
    (takes_mark-decides Plus) (mark-uses Plus)
    (elim [
      | true ↦ give-decides _
      | false ↦ then-decides _ (takes (is_mark_next Minus)) (takes_mark-decides Minus)
          (elim [ true ↦ give-decides _ | false ↦ give-decides _ ])
    ])
    (elim [
      | true ↦ λ e. absurd (cc)
      | false ↦ λ e. then-uses _ is_some (λ found. found) (takes (is_mark_next Minus))
          (takes_mark-decides Minus)
          (mark-uses Minus) (elim [ true ↦ give-decides _ | false ↦ give-decides _ ])
          (elim [ true ↦ λ f. absurd (cc) | false ↦ λ f. none-uses ])
    ])

next_term-decides : Decides next_term
unfolding next_term
next_term-decides = then-decides _ joint joint-decides (elim [
  | None ↦ give-decides _
  | Some minus ↦ then-decides _ (term minus) (term-decides minus) (λ t. give-decides _)
])

next_term-uses : Uses is_some next_term
unfolding next_term
next_term-uses = then-uses _ is_some is_some joint joint-decides joint-uses
    (elim [
      | None ↦ give-decides _
      | Some minus ↦ then-decides _ (term minus) (term-decides minus) (λ t. give-decides _)
    ])
    (elim [ None ↦ λ e. none-uses | Some minus ↦ λ e. absurd (cc) ])

next_term-none : next_term [] ≡ Ok (None, [])
unfolding next_term joint
next_term-none = refl

sum-decides : Decides sum
unfolding sum
sum-decides = list_reader-decides (term false) next_term (term-decides false)
    (record { decides = next_term-decides; uses = next_term-uses; none = next_term-none })

-- one more behind a comma
after_comma-decides : {X : Type 0} (read : Reader X) → Decides read → Decides (after_comma read)
after_comma-decides read d = then-decides _ (takes (is_mark_next Comma)) (takes_mark-decides Comma)
    (elim [
      | true ↦ then-decides _ read d (λ x. give-decides (Some x))
      | false ↦ give-decides None
    ])

after_comma-more : {X : Type 0} (read : Reader X) → Decides read → ReadsOneMore (after_comma read)
after_comma-more read d = record {
  decides = after_comma-decides read d;
  uses = then-uses _ is_some (λ found. found) (takes (is_mark_next Comma))
      (takes_mark-decides Comma) (mark-uses Comma)
      (elim [
        | true ↦ then-decides _ read d (λ x. give-decides (Some x))
        | false ↦ give-decides
            None
      ])
      (elim [ true ↦ λ e. absurd (cc) | false ↦ λ e. none-uses ]);
  none = refl;
}

-- ---- targets and amounts

bind_to-decides : Decides bind_to
unfolding bind_to
bind_to-decides = then-decides _ (takes (is_word_next (codes "point")))
    (takes_word-decides (codes "point")) (elim [
      | true ↦ give-decides _
      | false ↦ then-decides _ code code-decides (λ c. give-decides _)
    ])

bind-decides : Decides bind
unfolding bind
bind-decides = then-decides _ name name-decides
    (λ dimension. then-decides _ (mark Equal) (mark-decides Equal)
    (λ u. then-decides _ bind_to bind_to-decides (λ to. give-decides _)))

next_bind-more : ReadsOneMore next_bind
unfolding next_bind
next_bind-more = after_comma-more bind bind-decides

binds-decides : Decides binds
unfolding binds
binds-decides = look-decides (λ tokens. not (is_mark_next Semicolon tokens)) binds_if
    (λ others tokens same. ap not (mark-first Semicolon others tokens same)) (elim [
      | false ↦ give-decides []
      | true ↦ list_reader-decides bind next_bind bind-decides next_bind-more
    ])

target-decides : Decides target
unfolding target
target-decides = then-decides _ name name-decides
    (λ register. then-decides _ (mark Open) (mark-decides Open)
    (λ u. then-decides _ binds binds-decides
    (λ bound. then-decides _ (mark Semicolon) (mark-decides Semicolon) (λ v. give-decides _))))

amount-decides : Decides amount
unfolding amount
amount-decides = then-decides _ name name-decides
    (λ resource. then-decides _ (mark Equal) (mark-decides Equal)
    (λ u. then-decides _ sum sum-decides (λ terms. give-decides _)))

next_amount-more : ReadsOneMore next_amount
unfolding next_amount
next_amount-more = after_comma-more amount amount-decides

amounts-decides : Decides amounts
unfolding amounts
amounts-decides = list_reader-decides amount next_amount amount-decides next_amount-more

-- ---- conditions

test-first : OnFirst front_test
test-first = on-first front_test (λ token a b. refl)

comparison-decides : Decides comparison
unfolding comparison
comparison-decides = take_front-decides front_test test-first refl

equality-decides : Decides equality
unfolding equality
equality-decides = take_front-decides (λ tokens. option_and_then equality_of (front_test tokens))
    (on-first (λ tokens. option_and_then equality_of (front_test tokens)) (λ token a b. refl)) refl

text_cond-decides : (text : List ℕ) → Decides (text_cond text)
unfolding text_cond
text_cond-decides text = then-decides _ equality equality-decides
    (λ equal. then-decides _ code code-decides (λ right. give-decides _))

sums_cond-decides : (left : List PlainTerm) (by : Test) → Decides (sums_cond left by)
unfolding sums_cond
sums_cond-decides left by = then-decides _ sum sum-decides (λ right. give-decides _)

field_cond-decides : (field : PlainCode) (equal : Bool) (left : List PlainTerm) (by : Test)
    → Decides (field_cond field equal left by)
unfolding field_cond
field_cond-decides field equal left by = then-decides _ code_if code_if-decides
    (elim [ Some text ↦ give-decides _ | None ↦ sums_cond-decides left by ])

code_or_sum_cond-decides : (field : Option PlainCode) (equal : Option Bool) (left : List PlainTerm)
    (by : Test) → Decides (code_or_sum_cond field equal left by)
code_or_sum_cond-decides (Some field) (Some equal) left by = field_cond-decides field equal left by
code_or_sum_cond-decides (Some field) None left by = sums_cond-decides left by
code_or_sum_cond-decides None equal left by = sums_cond-decides left by

sum_cond-decides : Decides sum_cond
unfolding sum_cond
sum_cond-decides = then-decides _ sum sum-decides
    (λ left. then-decides _ comparison comparison-decides
    (λ by. code_or_sum_cond-decides (lone_field left) (equality_of by) left by))

cond-decides : Decides cond
unfolding cond
cond-decides = then-decides _ code_if code_if-decides
    (elim [ Some text ↦ text_cond-decides text | None ↦ sum_cond-decides ])

when-decides : Decides when
unfolding when
when-decides = then-decides _ (takes (is_word_next (codes "when")))
    (takes_word-decides (codes "when")) (elim [
      | true ↦ then-decides _ cond cond-decides (λ c. give-decides _)
      | false ↦ give-decides None
    ])

-- ---- acts

make-decides : (verb : Verb) → Decides (make verb)
unfolding make
make-decides verb = then-decides _ target target-decides
    (λ to. then-decides _ amounts amounts-decides
    (λ sums. then-decides _ (mark Close) (mark-decides Close) (λ u. give-decides _)))

write_off-decides : (fifo : Bool) → Decides (write_off fifo)
unfolding write_off
write_off-decides fifo = then-decides _ target target-decides
    (λ to. then-decides _ amount amount-decides
    (λ wanted. then-decides _ (mark Comma) (mark-decides Comma)
    (λ u. then-decides _ name name-decides
    (λ cost. then-decides _ (mark Close) (mark-decides Close) (λ v. give-decides _)))))

require-decides : Decides require
unfolding require
require-decides = then-decides _ target target-decides
    (λ to. then-decides _ name name-decides
    (λ resource. then-decides _ (mark Close) (mark-decides Close)
    (λ u. then-decides _ (mark AtLeast) (mark-decides AtLeast)
    (λ v. then-decides _ sum sum-decides
    (λ least. then-decides _ (word (codes "code")) (word-decides (codes "code"))
    (λ w. then-decides _ quoted quoted-decides (λ text. give-decides _)))))))

control-decides : Decides control
unfolding control
control-decides = then-decides _ name name-decides
    (λ register. then-decides _ name name-decides (λ resource. give-decides _))

next_code-more : ReadsOneMore next_code
unfolding next_code
next_code-more = after_comma-more code code-decides

extra_codes-decides : Decides extra_codes
unfolding extra_codes
extra_codes-decides = look-decides (λ tokens. not (is_mark_next Close tokens)) codes_if
    (λ others tokens same. ap not (mark-first Close others tokens same)) (elim [
      | false ↦ give-decides []
      | true ↦ list_reader-decides code next_code code-decides next_code-more
    ])

account_side-decides : Decides account_side
unfolding account_side
account_side-decides = then-decides _ code code-decides
    (λ account. then-decides _ (mark Open) (mark-decides Open)
    (λ u. then-decides _ extra_codes extra_codes-decides
    (λ extras. then-decides _ (mark Close) (mark-decides Close) (λ v. give-decides _))))

side-decides : Decides side
unfolding side
side-decides = then-decides _ (takes (is_word_next (codes "none")))
    (takes_word-decides (codes "none"))
    (elim [ true ↦ give-decides None | false ↦ account_side-decides ])

sides-decides : Decides sides
unfolding sides
sides-decides = then-decides _ (word (codes "debit")) (word-decides (codes "debit"))
    (λ u. then-decides _ side side-decides
    (λ debit. then-decides _ (mark Comma) (mark-decides Comma)
    (λ v. then-decides _ (word (codes "credit")) (word-decides (codes "credit"))
    (λ w. then-decides _ side side-decides (λ credit. give-decides _)))))

entry-decides : Decides entry
unfolding entry
entry-decides = then-decides _ name name-decides
    (λ ledger. then-decides _ (mark Open) (mark-decides Open)
    (λ u. then-decides _ sides sides-decides
    (λ both. then-decides _ (mark Semicolon) (mark-decides Semicolon)
    (λ v. then-decides _ sum sum-decides
    (λ amount. then-decides _ (mark Close) (mark-decides Close) (λ w. give-decides _))))))

act_of-decides : (opening : Opening) → Decides (act_of opening)
unfolding act_of
act_of-decides (Makes verb) = make-decides verb
act_of-decides (WritesOff fifo) = write_off-decides fifo
act_of-decides Requires = require-decides
act_of-decides Controls = control-decides
act_of-decides Enters = entry-decides

verb-first : OnFirst front_opening
verb-first = on-first front_opening (λ token a b. refl)

verb-decides : Decides verb
unfolding verb
verb-decides = take_front-decides front_opening verb-first refl

act-decides : Decides act
unfolding act
act-decides = then-decides _ verb verb-decides act_of-decides

-- ---- statements

abbrev plain_statement : ℕ → Option Scope → PlainAct → Option PlainCond → PlainStatement
plain_statement place scope act when = record {
  place = place;
  scope = scope;
  act = act;
  when =
      when;
}

scope-decides : Decides scope
unfolding scope
scope-decides = then-decides _ (takes (is_word_next (codes "once")))
    (takes_word-decides (codes "once")) (elim [
      | true ↦ give-decides _
      | false ↦ then-decides _ (takes (is_word_next (codes "each")))
          (takes_word-decides (codes "each"))
          (elim [
            | true ↦ then-decides _ (word (codes "line")) (word-decides (codes "line"))
                (λ u. give-decides _)
            | false ↦ give-decides None
          ])
    ])

behind_act-decides : (place : ℕ) (s : Option Scope) (a : PlainAct)
    → Decides (when >>= λ w. mark Semicolon >>= λ u. give (plain_statement place s a w))
behind_act-decides place s a = then-decides _ when when-decides
    (λ w. then-decides _ (mark Semicolon) (mark-decides Semicolon) (λ u. give-decides _))

statement-decides : (place : ℕ) → Decides (statement place)
unfolding statement
statement-decides place = then-decides _ scope scope-decides
    (λ s. then-decides _ act act-decides (λ a. behind_act-decides place s a))

-- a verb takes a token
verb-used : (tokens : List Lexeme) (r : Opening × List Lexeme) → verb tokens ≡ Ok r
    → length r.1 < length tokens
unfolding verb
verb-used [] r e = absurd (cc)
verb-used (token ∷ tokens) r e = by_opening (front_opening (token ∷ tokens)) refl
  where
    by_opening : (found : Option Opening) → front_opening (token ∷ tokens) ≡ found
        → length r.1 < length (token ∷ tokens)
    by_opening None is = absurd (unlike (sym (ap (λ f. take_front f (token ∷ tokens)) is) ∙ e))
      where
        unlike : ◌≡◌ {A = Read Opening} (Err (Stuck (Some token.place))) (Ok r) → ⊥
        unlike f = cc
    by_opening (Some opening) is =
        let left : tokens ≡ r.1 = ap (λ p. p.1) (same_Ok (opening, tokens) r
        (sym (ap (λ f. take_front f (token ∷ tokens)) is) ∙ e)) in
        let long : length tokens ≡ length r.1 = ap length left in
        omega (arith, long)

any : {X : Type 0} → X → Bool
any x = true

verb-uses : Uses (any {X = Opening}) verb
verb-uses = record { each = λ tokens r e is. verb-used tokens r e }

act-uses : Uses (any {X = PlainAct}) act
unfolding act any
act-uses = then-uses _ any any verb verb-decides verb-uses act_of-decides (λ opening e. absurd (cc))

statement-uses : (place : ℕ) → Uses (any {X = PlainStatement}) (statement place)
unfolding statement any
statement-uses place = then-uses _ any (λ s. false) scope scope-decides
    (record { each = λ tokens r e is. absurd (cc) })
    (λ s. then-decides _ act act-decides (λ a. behind_act-decides place s a))
    (λ s none. then-uses _ any any act act-decides act-uses (λ a. behind_act-decides place s a)
    (λ a e. absurd (cc)))

some_statement-decides : (place : ℕ) → Decides (statement place >>= λ s. give (Some s))
some_statement-decides place =
    then-decides (λ s. give (Some s)) (statement place) (statement-decides place)
    (λ s. give-decides (Some s))

some_statement-uses : (place : ℕ) → Uses is_some (statement place >>= λ s. give (Some s))
unfolding any
some_statement-uses place = then-uses (λ s. give (Some s)) is_some any (statement place)
    (statement-decides place)
    (statement-uses place) (λ s. give-decides (Some s)) (λ s e. absurd (cc))

next_statement-decides : Decides next_statement
unfolding next_statement
next_statement-decides = look-decides (λ tokens. option_map (λ (l : Lexeme). l.place)
    (first tokens)) statement_if
    (on-first (λ tokens. option_map (λ (l : Lexeme). l.place) (first tokens)) (λ token a b. refl))
    (elim [ None ↦ give-decides None | Some place ↦ some_statement-decides place ])

next_statement-used : (tokens : List Lexeme) (r : Option PlainStatement × List Lexeme)
    → next_statement tokens ≡ Ok r → is_some r.0 ≡ true → length r.1 < length tokens
unfolding next_statement
next_statement-used [] r e is = absurd (unlike (ap (λ p. is_some p.0) (same_Ok (None, []) r e)
    ∙ is))
  where
    unlike : false ≡ true → ⊥
    unlike f = cc
next_statement-used (token ∷ tokens) r e is =
    (some_statement-uses token.place).each (token ∷ tokens) r e is

next_statement-none : next_statement [] ≡ Ok (None, [])
unfolding next_statement
next_statement-none = refl

pub next_statement-more : ReadsOneMore next_statement
next_statement-more = record {
  decides = next_statement-decides;
  uses = record { each = next_statement-used };
  none = next_statement-none;
}

pub statements-decides : Decides statements
unfolding statements
statements-decides = list_on-decides [] next_statement next_statement-more

some_at : (read : Read PlainStatement) (rest : List Lexeme)
    → then_read (λ s. give (Some s)) read ≡ Ok (None, rest) → ⊥
some_at (Ok r) rest e = unlike (ap (λ p. is_some p.0) (same_Ok (Some r.0, r.1) (None, rest) e))
  where
    unlike : true ≡ false → ⊥
    unlike f = cc
some_at (Err fault) rest e = cc

-- where a token stands a statement begins
never_none : (token : Lexeme) (tokens rest : List Lexeme)
    → next_statement (token ∷ tokens) ≡ Ok (None, rest) → ⊥
unfolding next_statement
never_none token tokens rest e = some_at (statement token.place (token ∷ tokens)) rest e

in_front : {X : Type 0} (all : Read (List X)) (r : List X × List Lexeme)
    → put_in_front [] all ≡ Ok r → all ≡ Ok r
in_front (Ok s) r e = e
in_front (Err fault) r e = e

-- of what is accepted no token is left over
pub statements-whole : (tokens : List Lexeme) (r : List PlainStatement × List Lexeme)
    → statements tokens ≡ Ok r → r.1 ≡ []
unfolding statements list_on
statements-whole tokens r e = all_more-whole next_statement next_statement-more never_none
    (length tokens) tokens (omega arith) r (in_front (all_more next_statement tokens) r e)
