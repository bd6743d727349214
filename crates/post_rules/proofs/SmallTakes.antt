-- What is taken from holdings is no larger than they are.
use Rattle.std.proofs.Common.{◌≡◌, ℕ, zero, suc, ◌+◌, ◌*◌, ◌/◌, ◌<◌, ◌≤◌, ℤ, pos, negsuc}
use Rattle.std.proofs.Common.{◌-ℤ◌, ◌≤ℤ◌}
use Rattle.std.proofs.Common.{unsigned_abs, List, [], ◌∷◌, length, refl, sym, subst, int_lt, Bool}
use Rattle.std.proofs.Common.{true, false, arith}
use Rattle.std.specs.Prelude.{if◌then◌else◌, All}
use Rattle.std.specs.Int.{int_min}
use Rattle.std.specs.Ordering.{int_eq}
use Rattle.std.proofs.lemmas.Int.{ints, clamps}
use Rattle.std.proofs.lemmas.List.Elements.{All-nil, All-cons, All-head, All-tail}
use Rattle.std.proofs.lemmas.Nat.{mul-le, div_below}
use Rattle.reg_base.specs.Shares.{nearest, signed_as, share}
use Rattle.post_model.specs.declared.holding.Holding.{Holding}
use Rattle.post_model.specs.WriteOffs.{in_stock, taken_from, with_taken, taken}
use Rattle.post_rules.specs.Bounds.{largest_sum, IsSmallHolding, AreSmallHoldings}

signed_as-abs : (a : ℤ) (n : ℕ) → unsigned_abs (signed_as a n) ≡ n
signed_as-abs (pos a) n = refl
signed_as-abs (negsuc a) zero = refl
signed_as-abs (negsuc a) (suc n) = refl

nearest-within : (a t h : ℕ) → 0 < h → t ≤ h → nearest (a * t) h ≤ a
nearest-within a t h above within =
    let part : a * t ≤ a * h = mul-le a t a h (omega arith) within in
    let below : (2 * (a * t) + h) / (2 * h) < a + 1 =
    div_below (2 * (a * t) + h) (2 * h) (a + 1) (omega (arith, above))
    (omega (arith, part, above)) in
    omega (arith, below)

-- a share is no larger than the amount
share-within : (amount take have : ℤ) → 0 < unsigned_abs have
    → unsigned_abs take ≤ unsigned_abs have
    → unsigned_abs (share amount take have) ≤ unsigned_abs amount
unfolding share
share-within amount take have above within =
    let part : ℕ = nearest (unsigned_abs amount * unsigned_abs take) (unsigned_abs have) in
    subst (λ n. n ≤ unsigned_abs amount) (sym (signed_as-abs amount part))
    (nearest-within (unsigned_abs amount) (unsigned_abs take) (unsigned_abs have) above within)

-- what is taken from a holding is no larger
small-taken_from : (quantity : ℤ) (h : Holding) → int_lt (pos 0) quantity ≡ true
    → quantity ≤ℤ h.quantity → IsSmallHolding h → IsSmallHolding (taken_from quantity h)
small-taken_from quantity h above within small = record {
  quantity_within = omega (arith, ints, within, above, small.quantity_within);
  amount_within = at (int_eq quantity h.quantity);
}
  where
    at : (b : Bool) → unsigned_abs (if b then h.amount else share h.amount quantity h.quantity)
        ≤ largest_sum
    at true = small.amount_within
    at false = omega (
      arith,
      share-within h.amount quantity h.quantity
          (omega (arith, ints, within, above)) (omega (arith, ints, within, above)),
      small.amount_within,
    )

small-with_taken : (quantity : ℤ) (h : Holding) (more : List Holding)
    → (int_lt (pos 0) quantity ≡ true → IsSmallHolding (taken_from quantity h))
    → All IsSmallHolding more → All IsSmallHolding (with_taken quantity h more)
small-with_taken quantity h more first rest = at (int_lt (pos 0) quantity) refl
  where
    at : (b : Bool) → int_lt (pos 0) quantity ≡ b
        → All IsSmallHolding (if b then taken_from quantity h ∷ more else more)
    at true p = All-cons IsSmallHolding _ _ (first p) rest
    at false p = rest

length-with_taken : (quantity : ℤ) (h : Holding) (more : List Holding)
    → length (with_taken quantity h more) ≤ suc (length more)
length-with_taken quantity h more = at (int_lt (pos 0) quantity)
  where
    at : (b : Bool) → length (if b then taken_from quantity h ∷ more else more)
        ≤ suc (length more)
    at true = omega arith
    at false = omega arith

small-taken : (wanted : ℤ) (hs : List Holding) → pos 0 ≤ℤ wanted → All IsSmallHolding hs
    → All IsSmallHolding (taken wanted hs)
unfolding taken
small-taken wanted [] above small = All-nil IsSmallHolding
small-taken wanted (h ∷ hs) above small =
    let part : ℤ = int_min wanted (in_stock h) in
    small-with_taken part h (taken (wanted -ℤ part) hs)
    (λ p. small-taken_from part h p (omega (arith, ints, clamps, p, above))
    (All-head IsSmallHolding h hs small))
    (small-taken (wanted -ℤ part) hs (omega (arith, ints, clamps, above))
    (All-tail IsSmallHolding h hs small))

length-taken : (wanted : ℤ) (hs : List Holding) → length (taken wanted hs) ≤ length hs
unfolding taken
length-taken wanted [] = omega arith
length-taken wanted (h ∷ hs) =
    let part : ℤ = int_min wanted (in_stock h) in
    omega (
      arith,
      length-with_taken part h (taken (wanted -ℤ part) hs),
      length-taken (wanted -ℤ part) hs,
    )

-- what is taken is no more and no larger
pub AreSmall-taken : (wanted : ℤ) (hs : List Holding) → pos 0 ≤ℤ wanted → AreSmallHoldings hs
    → AreSmallHoldings (taken wanted hs)
AreSmall-taken wanted hs above small = record {
  few = omega (arith, length-taken wanted hs, small.few);
  small = small-taken wanted hs above small.small;
}
