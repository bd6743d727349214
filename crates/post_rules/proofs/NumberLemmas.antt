-- The numbers for resources in order, one resource more.
use Rattle.std.proofs.Common.{◌≡◌, ℕ, suc, ◌+◌, ◌-◌, ◌<◌, ◌≤◌, ℤ, List, [], ◌∷◌, ◌++◌}
use Rattle.std.proofs.Common.{Result, Ok, Err, refl, ap, ◌∙◌, sym, arith, append_assoc, append-nil}
use Rattle.std.specs.List.{range_with_len}
use Rattle.reg_base.specs.Results.{◌>>=◌}
use Rattle.reg_base.specs.declared.fault.PostFault.{PostFault}
use Rattle.cfg_model.proofs.ForAbove.{result_front}
use Rattle.rule_lang.specs.declared.statement.Sum.{Sum}
use Rattle.post_model.specs.Scenes.{Scene}
use Rattle.post_model.specs.Makes.{number_for, numbers_for}

-- from a place on there is this place, and then the others
range-first : (i n : ℕ) → i < n
    → range_with_len i (n - i) ≡ i ∷ range_with_len (i + 1) (n - (i + 1))
range-first i n below =
    let on : n - i ≡ suc (n - (i + 1)) = omega (arith, below) in
    ap (range_with_len i) on

range-none : (i n : ℕ) → n ≤ i → range_with_len i (n - i) ≡ []
range-none i n past = let none : n - i ≡ 0 = omega (arith, past) in ap (range_with_len i) none

one_in_front : (front : List ℤ) (x : ℤ) (rest : Result (List ℤ) PostFault)
    → result_front front (rest >>= λ xs. Ok (x ∷ xs)) ≡ result_front (front ++ x ∷ []) rest
one_in_front front x (Ok xs) = ap Ok (sym (append_assoc front (x ∷ []) xs))
one_in_front front x (Err fault) = refl

module _ (scene : Scene) (sums : List (ℕ × Sum)) where
  numbers-first : (front : List ℤ) (r : ℕ) (rs : List ℕ) (number : ℤ)
      → number_for scene sums r ≡ Ok number
      → result_front front (numbers_for scene sums (r ∷ rs))
      ≡ result_front (front ++ number ∷ []) (numbers_for scene sums rs)
  unfolding numbers_for
  numbers-first front r rs number is = rw is (one_in_front front number (numbers_for scene sums rs))

  fault-first : (front : List ℤ) (r : ℕ) (rs : List ℕ) (fault : PostFault)
      → number_for scene sums r ≡ Err fault
      → result_front front (numbers_for scene sums (r ∷ rs)) ≡ Err fault
  unfolding numbers_for
  fault-first front r rs fault is = rw is refl

-- in front of all there is nothing
pub numbers-start : (scene : Scene) (sums : List (ℕ × Sum)) (n : ℕ)
    → result_front [] (numbers_for scene sums (range_with_len 0 (n - 0)))
    ≡ numbers_for scene sums (range_with_len 0 n)
numbers-start scene sums n =
    let on : n - 0 ≡ n = omega arith in
    ap (λ m. result_front [] (numbers_for scene sums (range_with_len 0 m))) on
    ∙ at (numbers_for scene sums (range_with_len 0 n))
  where
    at : (r : Result (List ℤ) PostFault) → result_front [] r ≡ r
    at (Ok xs) = refl
    at (Err fault) = refl

-- a number more
pub numbers-more : (scene : Scene) (sums : List (ℕ × Sum)) (front : List ℤ) (i n : ℕ) (number : ℤ)
    → i < n → number_for scene sums i ≡ Ok number
    → result_front front (numbers_for scene sums (range_with_len i (n - i)))
    ≡ result_front (front ++ number ∷ [])
    (numbers_for scene sums (range_with_len (i + 1) (n - (i + 1))))
numbers-more scene sums front i n number below is =
    ap (λ rs. result_front front (numbers_for scene sums rs)) (range-first i n below)
    ∙ numbers-first scene sums front i (range_with_len (i + 1) (n - (i + 1))) number is

-- the fault of a number is that of all
pub numbers-fault : (scene : Scene) (sums : List (ℕ × Sum)) (front : List ℤ) (i n : ℕ)
    (fault : PostFault) → i < n → number_for scene sums i ≡ Err fault
    → result_front front (numbers_for scene sums (range_with_len i (n - i))) ≡ Err fault
numbers-fault scene sums front i n fault below is =
    ap (λ rs. result_front front (numbers_for scene sums rs)) (range-first i n below)
    ∙ fault-first scene sums front i (range_with_len (i + 1) (n - (i + 1))) fault is

-- behind the last resource there are the numbers so far
pub numbers-done : (scene : Scene) (sums : List (ℕ × Sum)) (front : List ℤ) (i n : ℕ) → n ≤ i
    → result_front front (numbers_for scene sums (range_with_len i (n - i))) ≡ Ok front
unfolding numbers_for
numbers-done scene sums front i n past =
    ap (λ rs. result_front front (numbers_for scene sums rs)) (range-none i n past)
    ∙ ap Ok (append-nil front)

pub ruleset numbers = (numbers-start, numbers-more, numbers-fault, numbers-done)
