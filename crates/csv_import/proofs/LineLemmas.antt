-- The pieces of a line, and how long they are.
use Rattle.std.proofs.Common.{◌≡◌, ℕ, ◌+◌, ◌<◌, ◌≤◌, true, List, [], ◌∷◌, ◌++◌, length, take}
use Rattle.std.proofs.Common.{get_or, ap, arith, length-append}
use Rattle.std.specs.List.{flat_map}
use Rattle.std.proofs.lemmas.Bool.{and_parts, leb-true}
use Rattle.std.proofs.lemmas.List.Folds.{length-flat_map-take}
use Rattle.reg_base.specs.Codes.{is_code}

-- a piece fits behind those before it
pub piece_fits : {X : Type 0} (f : X → List ℕ) (xs : List X) (i : ℕ) (d : X) (text : List ℕ)
    → i < length xs → text ≡ f (get_or xs i d)
    → length (flat_map f (take i xs)) + length text ≤ length (flat_map f xs)
piece_fits f xs i d text below is =
    omega (arith, length-flat_map-take f xs i d below, ap length is)

-- a code has at most 32 bytes
length-code : (text : List ℕ) → is_code text ≡ true → length text ≤ 32
unfolding is_code
length-code text code = leb-true _ _ (and_parts _ _ (and_parts _ _ code).1).0

-- the line of a group fits
pub line_fits : (key text word digits : List ℕ) → text ≡ key → is_code key ≡ true
    → length word ≤ 9 → length digits ≤ 20
    → length (text ++ (word ++ (digits ++ 10 ∷ []))) ≤ 62
line_fits key text word digits same code short few = omega (
  arith,
  length-code key code,
  ap length same,
  short,
  few,
  length-append text (word ++ (digits ++ 10 ∷ [])),
  length-append word (digits ++ 10 ∷ []),
  length-append digits (10 ∷ []),
)
