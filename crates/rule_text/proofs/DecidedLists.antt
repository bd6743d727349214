-- Lists of elements: each takes a token, so that a list ends where no more follow.
use Rattle.std.proofs.Common.{◌≡◌, if◌then◌else◌, ℕ, zero, suc, ◌+◌, ◌<◌, ◌≤◌, arith, Bool, true}
use Rattle.std.proofs.Common.{false, List, [], ◌∷◌, ◌++◌, length, Option, Some, None, is_some}
use Rattle.std.proofs.Common.{Result, Ok, Err, refl, ap, sym, ◌∙◌, subst, length-append}
use Rattle.rule_text.specs.Readers.{Read, Reader, then_read, ◌>>=◌, give, takes, more_of, many}
use Rattle.rule_text.specs.Readers.{put_in_front, list_on, list_reader}
use Rattle.rule_text.specs.declared.fault.ReadFault.{ReadFault}
use Rattle.rule_text.specs.declared.token.Lexeme.{Lexeme}
use Rattle.rule_text.proofs.Decided.{GivesFrom, IsDecided, Decides, then-decided, then-decided-at}
use Rattle.rule_text.proofs.Decided.{then-decides, give-decides}

abbrev value_or : {X : Type 0} → X → Result X ReadFault → X
value_or other (Ok x) = x
value_or other (Err fault) = other

pub same_Ok : {X : Type 0} (x y : X) → ◌≡◌ {A = Result X ReadFault} (Ok x) (Ok y) → x ≡ y
same_Ok x y e = ap (value_or x) e

-- a value that passes takes a token
pub record Uses {X : Type 0} (test : X → Bool) (read : Reader X) : Type 0 where
  pub each : (tokens : List Lexeme) (r : X × List Lexeme) → read tokens ≡ Ok r
      → test r.0 ≡ true → length r.1 < length tokens

-- no reader leaves more tokens than there were
pub no-longer : {X : Type 0} (read : Reader X) → Decides read → (tokens : List Lexeme)
    (r : X × List Lexeme) → read tokens ≡ Ok r → length r.1 ≤ length tokens
no-longer read d tokens r e =
    let from : GivesFrom read tokens r.0 r.1 = subst (IsDecided read tokens) e (d.each tokens) in
    let long : length tokens ≡ length from.front + length r.1 =
    ap length from.is ∙ length-append from.front r.1 in
    omega (arith, long)

pub by_test : {G : Type 0} (test : Bool) → (test ≡ true → G) → (test ≡ false → G) → G
by_test true holds fails = holds refl
by_test false holds fails = fails refl

-- one reader and then another, where the first or else the second takes a token
pub then-uses : {X Y : Type 0} (next : X → Reader Y) (test : Y → Bool) (takes_one : X → Bool)
    (read : Reader X) → Decides read → Uses takes_one read → ((x : X) → Decides (next x))
    → ((x : X) → takes_one x ≡ false → Uses test (next x)) → Uses test (read >>= next)
then-uses next test takes_one read d used later others = record {
  each = λ tokens r e holds. by_first tokens r holds (read tokens) refl e;
}
  where
    by_first : (tokens : List Lexeme) (r : _ × List Lexeme) → test r.0 ≡ true → (q : Read _)
        → read tokens ≡ q → then_read next q ≡ Ok r → length r.1 < length tokens
    by_first tokens r holds (Err fault) is e = absurd (cc)
    by_first tokens r holds (Ok s) is e = by_test (takes_one s.0)
        (λ one.
        let first : length s.1 < length tokens = used.each tokens s is one in
        let second : length r.1 ≤ length s.1 = no-longer (next s.0) (later s.0) s.1 r e in
        omega (arith, first, second))
        (λ none.
        let first : length s.1 ≤ length tokens = no-longer read d tokens s is in
        let second : length r.1 < length s.1 = (others s.0 none).each s.1 r e holds in
        omega (arith, first, second))

takes-shorter : (found : Bool) (token : Lexeme) (tokens : List Lexeme) (r : Bool × List Lexeme)
    → ◌≡◌ {A = Read Bool} (if found then Ok (true, tokens) else Ok (false, token ∷ tokens)) (Ok r)
    → r.0 ≡ true
    → length r.1 < length (token ∷ tokens)
takes-shorter true token tokens r e is =
    let left : tokens ≡ r.1 = ap (λ p. p.1) (same_Ok (true, tokens) r e) in
    let long : length tokens ≡ length r.1 = ap length left in
    omega (arith, long)
takes-shorter false token tokens r e is =
    absurd (unlike (ap (λ p. p.0) (same_Ok (false, token ∷ tokens) r e) ∙ is))
  where
    unlike : false ≡ true → ⊥
    unlike f = cc

takes-used : (test : List Lexeme → Bool) → test [] ≡ false → (tokens : List Lexeme)
    (r : Bool × List Lexeme) → takes test tokens ≡ Ok r → r.0 ≡ true → length r.1 < length tokens
takes-used test none [] r e is =
    absurd (unlike (ap (λ p. p.0) (same_Ok (false, []) r (rw none at e)) ∙ is))
  where
    unlike : false ≡ true → ⊥
    unlike f = cc
takes-used test none (token ∷ tokens) r e is =
    takes-shorter (test (token ∷ tokens)) token tokens r e is

-- a token that passes is taken
pub takes-uses : (test : List Lexeme → Bool) → test [] ≡ false → Uses (λ found. found) (takes test)
takes-uses test none = record { each = takes-used test none }

-- a reader of one more element, which there is none of at the end of the text
pub record ReadsOneMore {X : Type 0} (next : Reader (Option X)) : Type 0 where
  pub decides : Decides next
  pub uses : Uses is_some next
  pub none : next [] ≡ Ok (None, [])

-- the count that bounds a list does not matter once there are no more tokens than it
many-enough : {X : Type 0} (next : Reader (Option X)) → ReadsOneMore next → (n m : ℕ)
    (tokens : List Lexeme) → length tokens ≤ n → length tokens ≤ m
    → many next n tokens ≡ many next m tokens
unfolding many
many-enough next one zero zero tokens a b = refl
many-enough next one zero (suc m) [] a b = rw one.none refl
many-enough next one zero (suc m) (token ∷ tokens) a b = absurd (omega (arith, a))
many-enough next one (suc n) zero [] a b = rw one.none refl
many-enough next one (suc n) zero (token ∷ tokens) a b = absurd (omega (arith, b))
many-enough next one (suc n) (suc m) tokens a b =
    by_next (next tokens) refl (many-enough next one n m)
  where
    by_next : (q : Read (Option _)) → next tokens ≡ q
        → ((rest : List Lexeme) → length rest ≤ n → length rest ≤ m
        → many next n rest ≡ many next m rest)
        → then_read (more_of (many next n)) q ≡ then_read (more_of (many next m)) q
    by_next (Err fault) is again = refl
    by_next (Ok (None, rest)) is again = refl
    by_next (Ok (Some x, rest)) is again =
        let less : length rest < length tokens = one.uses.each tokens (Some x, rest) is refl in
        ap (then_read (λ xs. give (x ∷ xs)))
        (again rest (omega (arith, less, a)) (omega (arith, less, b)))

-- all that follow
abbrev pub all_more : {X : Type 0} → Reader (Option X) → Reader (List X)
all_more next = λ tokens. many next (length tokens) tokens

-- all that follow are one more and all that follow then
pub all_more-step : {X : Type 0} (next : Reader (Option X)) → ReadsOneMore next
    → (tokens : List Lexeme)
    → all_more next tokens ≡ then_read (more_of (all_more next)) (next tokens)
unfolding many
all_more-step next one [] = rw one.none refl
all_more-step next one (token ∷ tokens) = by_next (next (token ∷ tokens)) refl
  where
    by_next : (q : Read (Option _)) → next (token ∷ tokens) ≡ q
        → then_read (more_of (many next (length tokens))) q
        ≡ then_read (more_of (all_more next)) q
    by_next (Err fault) is = refl
    by_next (Ok (None, rest)) is = refl
    by_next (Ok (Some x, rest)) is =
        let less : length rest < length (token ∷ tokens) =
        one.uses.each (token ∷ tokens) (Some x, rest) is refl in
        ap (then_read (λ xs. give (x ∷ xs)))
        (many-enough next one (length tokens) (length rest) rest (omega (arith, less))
        (omega arith))

more-decided : {X : Type 0} (next : Reader (Option X)) → ReadsOneMore next → (k : ℕ)
    (tokens : List Lexeme) → length tokens ≤ suc k
    → ((rest : List Lexeme) → length rest ≤ k → IsDecided (all_more next) rest (all_more next rest))
    → (found : Option X) (rest : List Lexeme) → next tokens ≡ Ok (found, rest)
    → IsDecided (more_of (all_more next) found) rest (more_of (all_more next) found rest)
more-decided next one k tokens few again None rest e = (give-decides []).each rest
more-decided next one k tokens few again (Some x) rest e =
    let less : length rest < length tokens = one.uses.each tokens (Some x, rest) e refl in
    then-decided (all_more next) (λ xs. give (x ∷ xs)) rest (all_more next rest) refl
    (again rest (omega (arith, less, few))) (λ s is. (give-decides (x ∷ s.0)).each s.1)

-- one more step
all_more-later : {X : Type 0} (next : Reader (Option X)) → ReadsOneMore next → (k : ℕ)
    (tokens : List Lexeme) → length tokens ≤ suc k
    → ((rest : List Lexeme) → length rest ≤ k → IsDecided (all_more next) rest (all_more next rest))
    → IsDecided (all_more next) tokens (all_more next tokens)
all_more-later {X} next one k tokens few again =
    subst (λ (read : Reader (List X)). IsDecided read tokens (read tokens))
    (λ i ts. sym (all_more-step next one ts) i)
    (then-decided-at next (more_of (all_more next)) tokens one.decides
    (λ s e. more-decided next one k tokens few again s.0 s.1 e))

all_more-none : {X : Type 0} (next : Reader (Option X)) → ReadsOneMore next
    → (tokens : List Lexeme) → length tokens ≤ zero
    → IsDecided (all_more next) tokens (all_more next tokens)
unfolding many
all_more-none next one [] few = record {
  front = [];
  is = refl;
  same = elim [ [] ↦ λ same. refl | token ∷ tokens ↦ λ same. absurd (cc) ];
}
all_more-none next one (token ∷ tokens) few = absurd (omega (arith, few))

all_more-decided : {X : Type 0} (next : Reader (Option X)) → ReadsOneMore next → (k : ℕ)
    (tokens : List Lexeme) → length tokens ≤ k
    → IsDecided (all_more next) tokens (all_more next tokens)
all_more-decided next one zero tokens few = all_more-none next one tokens few
all_more-decided next one (suc k) tokens few =
    all_more-later next one k tokens few (all_more-decided next one k)

pub all_more-decides : {X : Type 0} (next : Reader (Option X)) → ReadsOneMore next
    → Decides (all_more next)
all_more-decides next one =
    record { each = λ tokens. all_more-decided next one (length tokens) tokens (omega arith) }

front-same : {X : Type 0} (front : List X) (all : Read (List X))
    → then_read (λ xs. give (front ++ xs)) all ≡ put_in_front front all
front-same front (Ok r) = refl
front-same front (Err fault) = refl

-- these, and then all that follow
pub list_on-decides : {X : Type 0} (front : List X) (next : Reader (Option X)) → ReadsOneMore next
    → Decides (list_on front next)
unfolding list_on
list_on-decides front next one = subst Decides (λ i ts. front-same front (all_more next ts) i)
    (then-decides (λ xs. give (front ++ xs)) (all_more next) (all_more-decides next one)
    (λ xs. give-decides (front ++ xs)))

-- one element, and then all that follow
pub list_reader-decides : {X : Type 0} (read : Reader X) (next : Reader (Option X)) → Decides read
    → ReadsOneMore next → Decides (list_reader read next)
unfolding list_reader
list_reader-decides read next d one =
    then-decides _ read d (λ x. list_on-decides (x ∷ []) next one)

-- where each token begins an element, all tokens are read
pub all_more-whole : {X : Type 0} (next : Reader (Option X)) → ReadsOneMore next
    → ((token : Lexeme) (tokens rest : List Lexeme) → next (token ∷ tokens) ≡ Ok (None, rest) → ⊥)
    → (k : ℕ) (tokens : List Lexeme) → length tokens ≤ k → (r : List X × List Lexeme)
    → all_more next tokens ≡ Ok r → r.1 ≡ []
unfolding many
all_more-whole next one never k [] few r e = sym (ap (λ p. p.1) (same_Ok ([], []) r e))
all_more-whole next one never zero (token ∷ tokens) few r e = absurd (omega (arith, few))
all_more-whole next one never (suc k) (token ∷ tokens) few r e =
    by_next (next (token ∷ tokens)) refl (sym (all_more-step next one (token ∷ tokens)) ∙ e)
    (all_more-whole next one never k)
  where
    by_rest : (x : _) (rest : List Lexeme) (q : Read (List _)) → all_more next rest ≡ q
        → then_read (λ xs. give (x ∷ xs)) q ≡ Ok r
        → ((s : List _ × List Lexeme) → all_more next rest ≡ Ok s → s.1 ≡ []) → r.1 ≡ []
    by_rest x rest (Err fault) is e again = absurd (cc)
    by_rest x rest (Ok s) is e again =
        sym (ap (λ p. p.1) (same_Ok (x ∷ s.0, s.1) r e)) ∙ again s is

    by_next : (q : Read (Option _)) → next (token ∷ tokens) ≡ q
        → then_read (more_of (all_more next)) q ≡ Ok r
        → ((ts : List Lexeme) → length ts ≤ k → (s : List _ × List Lexeme)
        → all_more next ts ≡ Ok s → s.1 ≡ []) → r.1 ≡ []
    by_next (Err fault) is e again = absurd (cc)
    by_next (Ok (None, rest)) is e again = absurd (never token tokens rest is)
    by_next (Ok (Some x, rest)) is e again =
        let less : length rest < length (token ∷ tokens) =
        one.uses.each (token ∷ tokens) (Some x, rest) is refl in
        by_rest x rest (all_more next rest) refl e (again rest (omega (arith, less, few)))
