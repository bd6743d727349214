-- The token in front, and one more element of a list.
use Rattle.std.proofs.Common.{◌≡◌, ℕ, zero, suc, ◌+◌, ◌-◌, ◌<◌, arith, List, [], ◌∷◌, ◌++◌, drop}
use Rattle.std.proofs.Common.{slice_get, Option, Some, None, Ok, Err, refl, ap, append_assoc}
use Rattle.std.proofs.Common.{append-nil, sym, drop-drop}
use Rattle.rule_text.specs.Readers.{Read, Reader, then_read, give, put_in_front, more_of, many}
use Rattle.rule_text.specs.Fronts.{first}
use Rattle.rule_text.specs.declared.token.Lexeme.{Lexeme}

-- the element at a place is the first behind those before it
pub first-drop : (tokens : List Lexeme) (i : ℕ) → first (drop i tokens) ≡ slice_get tokens i
first-drop [] zero = refl
first-drop [] (suc i) = refl
first-drop (token ∷ tokens) zero = refl
first-drop (token ∷ tokens) (suc i) = first-drop tokens i

-- behind the first of those that are left stand the next ones
pub drop-next : (tokens : List Lexeme) (i : ℕ) → drop (i + 1) tokens ≡ drop 1 (drop i tokens)
drop-next tokens i = sym (drop-drop 1 i tokens)

-- where none may follow any more, those in front are all
pub many-none : {X : Type 0} (next : Reader (Option X)) (most : ℕ) (front : List X)
    (tokens : List Lexeme)
    → most ≡ 0 → put_in_front front (many next most tokens) ≡ Ok (front, tokens)
unfolding many
many-none next most front tokens none = rw none (ap (λ xs. Ok (xs, tokens)) (append-nil front))

-- what one more element leaves: itself behind those in front, or those in front alone
abbrev pub one_more : {X : Type 0} → Reader (List X) → List X → Read (Option X) → Read (List X)
one_more others front (Ok (Some x, tokens)) = put_in_front (front ++ x ∷ []) (others tokens)
one_more others front (Ok (None, tokens)) = Ok (front, tokens)
one_more others front (Err fault) = Err fault

more_read : {X : Type 0} (front : List X) (x : X) (others : Read (List X))
    → put_in_front front (then_read (λ xs. give (x ∷ xs)) others) ≡ put_in_front (front ++ x ∷ [])
    others
more_read front x (Ok r) = ap (λ xs. Ok (xs, r.1)) (sym (append_assoc front (x ∷ []) r.0))
more_read front x (Err fault) = refl

read_more : {X : Type 0} (others : Reader (List X)) (front : List X) (next : Read (Option X))
    → put_in_front front (then_read (more_of others) next) ≡ one_more others front next
read_more others front (Ok (Some x, tokens)) = more_read front x (others tokens)
read_more others front (Ok (None, tokens)) = ap (λ xs. Ok (xs, tokens)) (append-nil front)
read_more others front (Err fault) = refl

-- one more element goes from those that may follow to those in front
pub many-more : {X : Type 0} (next : Reader (Option X)) (most : ℕ) (front : List X)
    (tokens : List Lexeme)
    → put_in_front front (many next (suc most) tokens) ≡ one_more (many next most) front
    (next tokens)
unfolding many
many-more next most front tokens = read_more (many next most) front (next tokens)

-- the same where more than none may follow
pub many-again : {X : Type 0} (next : Reader (Option X)) (most : ℕ) (front : List X)
    (tokens : List Lexeme)
    → 0 < most → put_in_front front (many next most tokens) ≡ one_more (many next (most - 1)) front
    (next tokens)
many-again next zero front tokens some = absurd (omega arith)
many-again next (suc most) front tokens some =
    let less : suc most - 1 ≡ most = omega arith in
    rw less (many-more next most front tokens)

pub ruleset fronts = (first-drop, drop-next)

pub ruleset steps = (many-none, many-again)
