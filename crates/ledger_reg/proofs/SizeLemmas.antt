-- Sums of amounts fit as long as there are not too many.
use Rattle.std.proofs.Common.{◌≡◌, ℕ, ◌+◌, ◌*◌, ◌^◌, ◌≤◌, ℤ, pos, negsuc, ◌+ℤ◌, ◌-ℤ◌, SFits, sym}
use Rattle.std.proofs.Common.{subst, arith}
use Rattle.std.proofs.Common.{Result, Ok, Err, IfOk, neg_ℤ, ◌≤ℤ◌, to_z, of_z, ap, ◌∙◌}
use Rattle.std.proofs.lemmas.Int.{to_z-of_z}
use Rattle.std.specs.Int.{w64, w128}
use Rattle.std.proofs.lemmas.Int.{ints}
use Rattle.ledger_reg.specs.Sizes.{size_of}

-- an amount is no larger than the largest
pub amount-size : (a : ℤ) → SFits w64 a → size_of a ≤ 2 ^ 63
amount-size (pos n) h = omega (arith, ints, h)
amount-size (negsuc n) h = omega (arith, ints, h)

-- a number lies between those of its size
within-size : (n : ℤ) → (n ≤ℤ pos (size_of n)) × (neg_ℤ (pos (size_of n)) ≤ℤ n)
within-size (pos n) = (omega (arith, ints), omega (arith, ints))
within-size (negsuc n) = (omega (arith, ints), omega (arith, ints))

size-within : (n : ℤ) (m : ℕ) → n ≤ℤ pos m → neg_ℤ (pos m) ≤ℤ n → size_of n ≤ m
size-within (pos n) m h g = omega (arith, ints)
size-within (negsuc n) m h g = omega (arith, ints)

-- a sum of two numbers is no larger than both
pub size-plus : (a b : ℤ) → size_of (a +ℤ b) ≤ size_of a + size_of b
size-plus a b =
    let (a-high, a-low) = within-size a in
    let (b-high, b-low) = within-size b in
    size-within (a +ℤ b) (size_of a + size_of b) (omega (arith, ints)) (omega (arith, ints))

-- so is a difference
pub size-minus : (a b : ℤ) → size_of (a -ℤ b) ≤ size_of a + size_of b
size-minus a b =
    let (a-high, a-low) = within-size a in
    let (b-high, b-low) = within-size b in
    size-within (a -ℤ b) (size_of a + size_of b) (omega (arith, ints)) (omega (arith, ints))

-- a number that is small enough fits
pub size-fits : (n : ℤ) → size_of n ≤ 2 ^ 126 → SFits w128 n
size-fits (pos n) h = omega (arith, ints, h)
size-fits (negsuc n) h = omega (arith, ints, h)

-- an amount of 64 bits and a sum of 128, as the code adds them
module _ (a f s at : ℤ) (is : f ≡ to_z w64 (of_z w64 a)) (same : s ≡ at) (fits : SFits w64 a)
    (small : size_of at ≤ 2 ^ 64 * 2 ^ 47) where
  added : to_z w128 (of_z w128 f) +ℤ to_z w128 (of_z w128 s) ≡ a +ℤ at
  added =
      let f-is : f ≡ a = is ∙ to_z-of_z w64 a fits in
      let fit-a : SFits w128 a = size-fits a (omega (arith, amount-size a fits)) in
      let fit-at : SFits w128 at = size-fits at (omega (arith, small)) in
      (λ i. to_z w128 (of_z w128 (f-is i)) +ℤ to_z w128 (of_z w128 (same i)))
      ∙ (λ i. to_z-of_z w128 a fit-a i +ℤ to_z-of_z w128 at fit-at i)

  sum-fits : SFits w128 (a +ℤ at)
  sum-fits =
      size-fits (a +ℤ at) (omega (arith, size-plus a at, amount-size a fits, small))

  pub raised-fits : SFits w128 (to_z w128 (of_z w128 f) +ℤ to_z w128 (of_z w128 s))
  raised-fits = subst (SFits w128) (sym added) sum-fits

  pub raised-value : to_z w128 (of_z w128
      (to_z w128 (of_z w128 f) +ℤ to_z w128 (of_z w128 s))) ≡ a +ℤ at
  raised-value = ap (λ n. to_z w128 (of_z w128 n)) added ∙ to_z-of_z w128 (a +ℤ at) sum-fits

-- two sums of 128 bits, as the code adds them
module _ (a s at : ℤ) (same : s ≡ at) (few : size_of a ≤ 2 ^ 64 * 2 ^ 60)
    (small : size_of at ≤ 2 ^ 64 * 2 ^ 60) where
  sums-added : to_z w128 (of_z w128 a) +ℤ to_z w128 (of_z w128 s) ≡ a +ℤ at
  sums-added =
      let fit-a : SFits w128 a = size-fits a (omega (arith, few)) in
      let fit-at : SFits w128 at = size-fits at (omega (arith, small)) in
      (λ i. to_z w128 (of_z w128 a) +ℤ to_z w128 (of_z w128 (same i)))
      ∙ (λ i. to_z-of_z w128 a fit-a i +ℤ to_z-of_z w128 at fit-at i)

  sums-fit : SFits w128 (a +ℤ at)
  sums-fit = size-fits (a +ℤ at) (omega (arith, size-plus a at, few, small))

  pub sums-fits : SFits w128 (to_z w128 (of_z w128 a) +ℤ to_z w128 (of_z w128 s))
  sums-fits = subst (SFits w128) (sym sums-added) sums-fit

  pub sums-value : to_z w128 (of_z w128
      (to_z w128 (of_z w128 a) +ℤ to_z w128 (of_z w128 s))) ≡ a +ℤ at
  sums-value =
      ap (λ n. to_z w128 (of_z w128 n)) sums-added ∙ to_z-of_z w128 (a +ℤ at) sums-fit

-- the difference of two numbers of 128 bits, as the code takes them
module _ (a b : ℤ) (few : size_of a ≤ 2 ^ 64 * 2 ^ 61) (small : size_of b ≤ 2 ^ 64 * 2 ^ 61) where
  taken : to_z w128 (of_z w128 a) -ℤ to_z w128 (of_z w128 b) ≡ a -ℤ b
  taken =
      let fit-a : SFits w128 a = size-fits a (omega (arith, few)) in
      let fit-b : SFits w128 b = size-fits b (omega (arith, small)) in
      λ i. to_z-of_z w128 a fit-a i -ℤ to_z-of_z w128 b fit-b i

  difference-fit : SFits w128 (a -ℤ b)
  difference-fit = size-fits (a -ℤ b) (omega (arith, size-minus a b, few, small))

  pub difference-fits : SFits w128 (to_z w128 (of_z w128 a) -ℤ to_z w128 (of_z w128 b))
  difference-fits = subst (SFits w128) (sym taken) difference-fit

  pub difference-value : to_z w128 (of_z w128
      (to_z w128 (of_z w128 a) -ℤ to_z w128 (of_z w128 b))) ≡ a -ℤ b
  difference-value =
      ap (λ n. to_z w128 (of_z w128 n)) taken ∙ to_z-of_z w128 (a -ℤ b) difference-fit

-- a net with what moved, as the code takes it
module _ (n d c : ℤ) (small : size_of n + (size_of d + size_of c) ≤ 2 ^ 64 * 2 ^ 62) where
  sum-taken : to_z w128 (of_z w128 n) +ℤ to_z w128 (of_z w128 d) ≡ n +ℤ d
  sum-taken =
      let fit-n : SFits w128 n = size-fits n (omega (arith, small)) in
      let fit-d : SFits w128 d = size-fits d (omega (arith, small)) in
      λ i. to_z-of_z w128 n fit-n i +ℤ to_z-of_z w128 d fit-d i

  sum-fit : SFits w128 (n +ℤ d)
  sum-fit = size-fits (n +ℤ d) (omega (arith, size-plus n d, small))

  pub net-fits : SFits w128 (to_z w128 (of_z w128 n) +ℤ to_z w128 (of_z w128 d))
  net-fits = subst (SFits w128) (sym sum-taken) sum-fit

  plain-sum : to_z w128 (of_z w128 (to_z w128 (of_z w128 n) +ℤ to_z w128 (of_z w128 d)))
      ≡ n +ℤ d
  plain-sum = ap (λ m. to_z w128 (of_z w128 m)) sum-taken ∙ to_z-of_z w128 (n +ℤ d) sum-fit

  net-taken : to_z w128 (of_z w128 (to_z w128 (of_z w128 n) +ℤ to_z w128 (of_z w128 d)))
      -ℤ to_z w128 (of_z w128 c) ≡ n +ℤ d -ℤ c
  net-taken =
      let fit-c : SFits w128 c = size-fits c (omega (arith, small)) in
      λ i. plain-sum i -ℤ to_z-of_z w128 c fit-c i

  net-fit : SFits w128 (n +ℤ d -ℤ c)
  net-fit = size-fits (n +ℤ d -ℤ c) (omega (arith, size-minus (n +ℤ d) c, size-plus n d, small))

  pub nets-fit : SFits w128 (to_z w128 (of_z w128
      (to_z w128 (of_z w128 n) +ℤ to_z w128 (of_z w128 d))) -ℤ to_z w128 (of_z w128 c))
  nets-fit = subst (SFits w128) (sym net-taken) net-fit

  pub net-value : to_z w128 (of_z w128 (to_z w128 (of_z w128
      (to_z w128 (of_z w128 n) +ℤ to_z w128 (of_z w128 d))) -ℤ to_z w128 (of_z w128 c)))
      ≡ n +ℤ d -ℤ c
  net-value = ap (λ m. to_z w128 (of_z w128 m)) net-taken ∙ to_z-of_z w128 (n +ℤ d -ℤ c) net-fit

  pub net-size : size_of (n +ℤ d -ℤ c) ≤ size_of n + (size_of d + size_of c)
  net-size = omega (arith, size-minus (n +ℤ d) c, size-plus n d)

-- what holds of a value where another thing does
pub IfOk-map : {X F : Type 0} (P Q : X → Type 0) → ((x : X) → P x → Q x) → (r : Result X F)
    → IfOk r P → IfOk r Q
IfOk-map P Q each (Ok x) h = each x h
IfOk-map P Q each (Err e) h = tt
