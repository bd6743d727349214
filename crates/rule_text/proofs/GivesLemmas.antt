-- What holds of the values of readers over tokens that are well spelt: one lemma for each way in
-- which
-- readers are put together.
use Rattle.std.proofs.Common.{◌≡◌, ℕ, zero, suc, Bool, true, false, ◌&&◌, List, [], ◌∷◌, length}
use Rattle.std.proofs.Common.{drop, Option, Some, None, Ok, Err, IfOk, refl, if◌then◌else◌}
use Rattle.std.specs.List.{list_all}
use Rattle.std.proofs.lemmas.Bool.{and_from, and_parts}
use Rattle.reg_base.specs.Codes.{is_code}
use Rattle.rule_text.specs.Fronts.{is_mark_next, is_word_next, token_word, token_number}
use Rattle.rule_text.specs.Readers.{take_front, Read, Reader, then_read, ◌>>=◌, give, stuck, must}
use Rattle.rule_text.specs.Readers.{found_or, pick, takes, mark, word, name, code_if, quoted}
use Rattle.rule_text.specs.Readers.{more_of, many, put_in_front, list_on, list_reader}
use Rattle.rule_text.specs.declared.mark.Mark.{Mark}
use Rattle.rule_text.specs.declared.token.Lexeme.{Lexeme}
use Rattle.rule_text.specs.declared.token.Token.{Token}
use Rattle.rule_text.specs.declared.token.Token.TheVariants.{Word, Number, Quoted, Sign, Broken}
use Rattle.rule_text.proofs.ReadTests.{spelling_read}
use Rattle.rule_text.proofs.SpeltTokens.{token_read, are_read, found_cases}

-- what is read passes the test, and the tokens behind it are well spelt
abbrev pub Passes : {X : Type 0} → (X → Bool) → Read X → Type 0
Passes test read = IfOk read (λ r. (test r.0 ≡ true) × (are_read r.1 ≡ true))

-- from tokens that are well spelt the reader gives what passes the test
pub record Gives {X : Type 0} (test : X → Bool) (reader : Reader X) : Type 0 where
  pub each : (tokens : List Lexeme) → are_read tokens ≡ true → Passes test (reader tokens)

-- nothing is asked
abbrev pub any : {X : Type 0} → X → Bool
any x = true

-- what was found passes
abbrev pub if_some : {X : Type 0} → (X → Bool) → Option X → Bool
if_some test None = true
if_some test (Some x) = test x

pub drop-read : (tokens : List Lexeme) → are_read tokens ≡ true → are_read (drop 1 tokens) ≡ true
drop-read [] h = refl
drop-read (token ∷ tokens) h = (and_parts _ _ h).1

then_read-passes : {X Y : Type 0} (next : X → Reader Y) (asked : Y → Bool) (read : Read X) (test : X
    → Bool)
    → Passes test read → ((x : X) → test x ≡ true → Gives asked (next x))
    → Passes asked (then_read next read)
then_read-passes next asked (Ok r) test h later = (later r.0 h.0).each r.1 h.1
then_read-passes next asked (Err fault) test h later = tt

-- a reader, and what comes next for each value that passes
pub then-gives : {X Y : Type 0} (next : X → Reader Y) (asked : Y → Bool) (reader : Reader X)
    (test : X → Bool)
    → Gives test reader → ((x : X) → test x ≡ true → Gives asked (next x))
    → Gives asked (reader >>= next)
then-gives next asked reader test first later =
    record {
      each = λ tokens read. then_read-passes next asked (reader tokens) test
          (first.each tokens read) later;
    }

pub give-gives : {X : Type 0} (test : X → Bool) (x : X) → test x ≡ true → Gives test (give x)
give-gives test x h = record { each = λ tokens read. (h, read) }

pub stuck-gives : {X : Type 0} (test : X → Bool) → Gives test (stuck {X = X})
stuck-gives test = record { each = λ tokens read. tt }

pub found_or-gives : {X : Type 0} (test : X → Bool) (found : Option X) → if_some test found ≡ true
    → Gives test (found_or found)
found_or-gives test (Some x) h = give-gives test x h
found_or-gives test None h = stuck-gives test

takes-passes : (found : Bool) (tokens : List Lexeme) → are_read tokens ≡ true
    → Passes any (if found then Ok (true, drop 1 tokens) else Ok (false, tokens))
takes-passes true tokens read = (refl, drop-read tokens read)
takes-passes false tokens read = (refl, read)

pub takes-gives : (test : List Lexeme → Bool) → Gives any (takes test)
takes-gives test = record { each = λ tokens read. takes-passes (test tokens) tokens read }

pick-passes : {X : Type 0} (gives : Token → Option X) (test : X → Bool)
    → ((token : Token) → token_read token ≡ true → if_some test (gives token) ≡ true)
    → (tokens : List Lexeme) → are_read tokens ≡ true → Passes (if_some test) (pick gives tokens)
pick-passes gives test each [] read = (refl, refl)
pick-passes gives test each (token ∷ tokens) read =
    let is : token_read token.token ≡ true = (and_parts _ _ read).0 in
    found_cases (gives token.token)
    (λ e. rw e (refl, read))
    (λ x e. rw e (rw e at (each token.token is), drop-read (token ∷ tokens) read))

pub pick-gives : {X : Type 0} (gives : Token → Option X) (test : X → Bool)
    → ((token : Token) → token_read token ≡ true → if_some test (gives token) ≡ true)
    → Gives (if_some test) (pick gives)
pick-gives gives test each = record { each = pick-passes gives test each }

must-gives : (found : Bool) → Gives any (must found)
must-gives true = give-gives any tt refl
must-gives false = stuck-gives any

-- whether the first token passes is asked, and what comes next in both cases
pub takes-then : {Y : Type 0} (next : Bool → Reader Y) (asked : Y → Bool) (test : List Lexeme
    → Bool)
    → Gives asked (next true) → Gives asked (next false) → Gives asked (takes test >>= next)
takes-then next asked test holds fails = then-gives next asked (takes test) any (takes-gives test)
    (elim [ true ↦ λ h. holds | false ↦ λ h. fails ])

pub mark-gives : (sign : Mark) → Gives any (mark sign)
unfolding mark
mark-gives sign = then-gives _ _ (takes (is_mark_next sign)) any (takes-gives _)
    (λ found h. must-gives found)

pub word-gives : (text : List ℕ) → Gives any (word text)
unfolding word
word-gives text = then-gives _ _ (takes (is_word_next text)) any (takes-gives _)
    (λ found h. must-gives found)

token_word-read : (token : Token) → token_read token ≡ true
    → if_some spelling_read (token_word token) ≡ true
token_word-read (Word spelling) h = h
token_word-read (Number literal) h = refl
token_word-read (Quoted code) h = refl
token_word-read (Sign sign) h = refl
token_word-read (Broken at) h = refl

pub name-gives : Gives spelling_read name
unfolding name
name-gives = then-gives _ _ (pick token_word) (if_some spelling_read)
    (pick-gives token_word spelling_read token_word-read)
    (λ found h. found_or-gives spelling_read found h)

any-some : {X : Type 0} (found : Option X) → if_some any found ≡ true
any-some None = refl
any-some (Some x) = refl

pub number-gives : Gives (if_some any) (pick token_number)
number-gives = pick-gives token_number any (λ token h. any-some (token_number token))

coded-passes : (place len : ℕ) (token : Token) (tokens : List Lexeme)
    → are_read (record { place = place; len = len; token = token } ∷ tokens) ≡ true
    → Passes (if_some is_code) (code_if (record { place = place; len = len; token = token }
    ∷ tokens))
unfolding code_if
coded-passes place len (Quoted code) tokens read = and_parts _ _ read
coded-passes place len (Word spelling) tokens read = (refl, read)
coded-passes place len (Number literal) tokens read = (refl, read)
coded-passes place len (Sign sign) tokens read = (refl, read)
coded-passes place len (Broken at) tokens read = tt

code_if-passes : (tokens : List Lexeme) → are_read tokens ≡ true
    → Passes (if_some is_code) (code_if tokens)
unfolding code_if
code_if-passes [] read = (refl, refl)
code_if-passes (token ∷ tokens) read = coded-passes token.place token.len token.token tokens read

pub code_if-gives : Gives (if_some is_code) code_if
code_if-gives = record { each = code_if-passes }

pub quoted-gives : Gives is_code quoted
unfolding quoted
quoted-gives = then-gives _ _ code_if (if_some is_code) code_if-gives
    (λ found h. found_or-gives is_code found h)

more_of-gives : {X : Type 0} (test : X → Bool) (others : Reader (List X))
    → Gives (list_all test) others
    → (next : Option X) → if_some test next ≡ true → Gives (list_all test) (more_of others next)
more_of-gives test others all None h = give-gives (list_all test) [] refl
more_of-gives test others all (Some x) h =
    then-gives _ _ others (list_all test) all (λ xs hs. give-gives (list_all test) (x ∷ xs)
    (and_from _ _ h hs))

pub many-gives : {X : Type 0} (test : X → Bool) (next : Reader (Option X))
    → Gives (if_some test) next
    → (most : ℕ) → Gives (list_all test) (many next most)
unfolding many
many-gives test next each zero = give-gives (list_all test) [] refl
many-gives test next each (suc most) = then-gives _ _ next (if_some test) each
    (more_of-gives test (many next most) (many-gives test next each most))

pub none_on-passes : {X : Type 0} (test : X → Bool) (all : Read (List X))
    → Passes (list_all test) all → Passes (list_all test) (put_in_front [] all)
none_on-passes test (Ok r) h = h
none_on-passes test (Err fault) h = tt

-- the first, where it is there, and each of the others
abbrev pub first_and_others : {X : Type 0} → (X → Bool) → (X → Bool) → List X → Bool
first_and_others head test [] = false
first_and_others head test (x ∷ xs) = head x && list_all test xs

one_on-passes : {X : Type 0} (head test : X → Bool) (x : X) (all : Read (List X)) → head x ≡ true
    → Passes (list_all test) all → Passes (first_and_others head test) (put_in_front (x ∷ []) all)
one_on-passes head test x (Ok r) first h = (and_from _ _ first h.0, h.1)
one_on-passes head test x (Err fault) first h = tt

-- one element, and then all that follow
pub list_reader-gives : {X : Type 0} (head test : X → Bool) (read : Reader X)
    (next : Reader (Option X))
    → Gives head read → Gives (if_some test) next
    → Gives (first_and_others head test) (list_reader read next)
unfolding list_reader list_on
list_reader-gives head test read next one each = then-gives _ _ read head one
    (λ x h. record {
      each = λ tokens are. one_on-passes head test x (many next (length tokens) tokens) h
          ((many-gives test next each (length tokens)).each tokens are);
    })

-- these are none, and then all that follow
pub list_on-gives : {X : Type 0} (test : X → Bool) (next : Reader (Option X))
    → Gives (if_some test) next → Gives (list_all test) (list_on [] next)
unfolding list_on
list_on-gives test next each = record {
  each = λ tokens are.
      none_on-passes test (many next (length tokens) tokens)
      ((many-gives test next each (length tokens)).each tokens are);
}

-- what follows where a test failed, and where it held
pub by_test : {G : Type 0} (test : Bool) → (test ≡ true → G) → (test ≡ false → G) → G
by_test true holds fails = holds refl
by_test false holds fails = fails refl

passes-follows : {X : Type 0} (test asked : X → Bool) → ((x : X) → test x ≡ true → asked x ≡ true)
    → (read : Read X) → Passes test read → Passes asked read
passes-follows test asked so (Ok r) h = (so r.0 h.0, h.1)
passes-follows test asked so (Err fault) h = tt

-- what passes one test passes another
pub follows-gives : {X : Type 0} (test asked : X → Bool)
    → ((x : X) → test x ≡ true → asked x ≡ true)
    → (reader : Reader X) → Gives test reader → Gives asked reader
follows-gives test asked so reader gives =
    record {
      each = λ tokens are. passes-follows test asked so (reader tokens)
          (gives.each tokens are);
    }

-- the first token, where it gives something
pub take_front-gives : {X : Type 0} (found : Option X) → Gives any (take_front found)
take_front-gives (Some x) = record { each = λ tokens are. (refl, drop-read tokens are) }
take_front-gives None = record { each = λ tokens are. tt }
