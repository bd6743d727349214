-- Sums over lists, and the distinct elements of a list in order.
use Rattle.std.specs.Prelude.{ℤ, pos, ◌+ℤ◌, List, [], ◌∷◌, Bool, not}
use Rattle.std.specs.List.{list_any}
use Rattle.std.specs.Ordering.{int_eq}
use Rattle.std.specs.declared.cmp.Ordering.{Ordering}
use Rattle.reg_base.specs.Records.{put_once}

-- the sum of what each element adds
abbrev pub sum_over : {X : Type 0} → (X → ℤ) → List X → ℤ
sum_over amount [] = pos 0
sum_over amount (x ∷ xs) = amount x +ℤ sum_over amount xs

-- the distinct elements, in order
abbrev pub in_order_once : {X : Type 0} → (X → X → Ordering) → List X → List X
in_order_once cmp [] = []
in_order_once cmp (x ∷ xs) = put_once cmp x (in_order_once cmp xs)

-- each number plus the one at the same place
abbrev pub plus_each : List ℤ → List ℤ → List ℤ
plus_each [] ys = []
plus_each (x ∷ xs) [] = []
plus_each (x ∷ xs) (y ∷ ys) = (x +ℤ y) ∷ plus_each xs ys

-- whether some number is not zero
abbrev pub has_number : List ℤ → Bool
has_number numbers = list_any (λ n. not (int_eq n (pos 0))) numbers
