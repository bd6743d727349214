-- Nets over sums fit, as the code adds them up.
use Rattle.std.proofs.Common.{◌≡◌, ℕ, ◌+◌, ◌*◌, ◌^◌, ◌<◌, ◌≤◌, ℤ, pos, negsuc, neg_ℤ, ◌+ℤ◌, ◌-ℤ◌}
use Rattle.std.proofs.Common.{Bool, true, false, cond, List, [], ◌∷◌, ◌++◌, map, refl, ap, ◌∙◌}
use Rattle.std.proofs.Common.{sym, subst, arith, take, get_or, SFits, to_z, of_z, zero, suc, length}
use Rattle.std.specs.List.{All, filter, flat_map}
use Rattle.std.specs.Int.{w128}
use Rattle.std.proofs.lemmas.Int.{ints, to_z-of_z}
use Rattle.std.proofs.lemmas.List.{take_more, take_all}
use Rattle.reg_base.specs.declared.records.Document.{Document}
use Rattle.reg_base.specs.BookedEntries.{BookedEntry, entered_by}
use Rattle.reg_base.proofs.ForTables.{sum_over-append}
use Rattle.cfg_model.specs.declared.ledger.Chart.{Chart}
use Rattle.cfg_model.specs.AccountTables.{is_at_or_below}
use Rattle.ledger_reg.specs.declared.sides.AccountSum.{AccountSum}
use Rattle.ledger_reg.specs.declared.sides.SideKey.{SideKey}
use Rattle.ledger_reg.specs.declared.sides.Amounts.{Amounts}
use Rattle.ledger_reg.specs.Sizes.{size_of, total_size}
use Rattle.ledger_reg.specs.Walks.{HasShortLedgers}
use Rattle.ledger_reg.specs.Sides.{sides_in, account_sum, is_moved, amounts_size}
use Rattle.ledger_reg.specs.Balances.{net_of, net_below, counted, sum_size, sums_size}
use Rattle.ledger_reg.proofs.SizeLemmas.{size-plus, size-fits}
use Rattle.ledger_reg.proofs.WalkLemmas.{documents-few}

-- ---- a number of 128 bits added to another, as the code adds them

size-minus : (a b : ℤ) → size_of (a -ℤ b) ≤ size_of a + size_of b
size-minus a b = omega (arith, size-plus a (neg_ℤ b), size-neg b)
  where
    size-neg : (n : ℤ) → size_of (neg_ℤ n) ≡ size_of n
    size-neg (pos zero) = refl
    size-neg (pos (suc n)) = omega arith
    size-neg (negsuc n) = omega arith

module _ (a b : ℤ) (small : size_of a + size_of b ≤ 2 ^ 126) where
  fit-b : SFits w128 b
  fit-b = size-fits b (omega (arith, small))

  sum-fits : SFits w128 (a +ℤ b)
  sum-fits = size-fits (a +ℤ b) (omega (arith, size-plus a b, small))

  pub plus-fits : SFits w128 (a +ℤ to_z w128 (of_z w128 b))
  plus-fits = subst (SFits w128) (sym (λ i. a +ℤ to_z-of_z w128 b fit-b i)) sum-fits

  pub plus-value : to_z w128 (of_z w128 (a +ℤ to_z w128 (of_z w128 b))) ≡ a +ℤ b
  plus-value =
      ap (λ n. to_z w128 (of_z w128 n)) (λ i. a +ℤ to_z-of_z w128 b fit-b i)
      ∙ to_z-of_z w128 (a +ℤ b) sum-fits

-- ---- nets of sums

pub net_of-size : (s : AccountSum) → size_of (net_of s) ≤ sum_size s
net_of-size s = size-minus s.debit s.credit

pub counted-size : (b : Bool) (s : AccountSum) → size_of (counted b s) ≤ sum_size s
counted-size true s = net_of-size s
counted-size false s = omega arith

-- a net is no larger than all sums together
pub net_below-size : (chart : Chart) (top : List ℕ) (ss : List AccountSum)
    → size_of (net_below chart top ss) ≤ sums_size ss
net_below-size chart top [] = omega arith
net_below-size chart top (s ∷ ss) = omega (
  arith,
  size-plus (counted (is_at_or_below chart top s.account) s) (net_below chart top ss),
  counted-size (is_at_or_below chart top s.account) s,
  net_below-size chart top ss,
)

sums_size-append : (xs ys : List AccountSum) → sums_size (xs ++ ys) ≡ sums_size xs + sums_size ys
sums_size-append [] ys = omega arith
sums_size-append (x ∷ xs) ys = omega (arith, sums_size-append xs ys)

sums_size-take : (n : ℕ) (ss : List AccountSum) → sums_size (take n ss) ≤ sums_size ss
sums_size-take zero ss = omega arith
sums_size-take (suc n) [] = omega arith
sums_size-take (suc n) (s ∷ ss) = omega (arith, sums_size-take n ss)

module _ (ss : List AccountSum) (i : ℕ) (s : AccountSum) (below : i < length ss)
    (is : s ≡ get_or ss i s) where
  more : take (i + 1) ss ≡ take i ss ++ s ∷ []
  more = take_more ss i s below ∙ ap (λ x. take i ss ++ x ∷ []) (sym is)

  -- the sums so far and those of one account more are among all
  pub sums-more : sums_size (take i ss) + sum_size s ≤ sums_size ss
  sums-more = omega (
    arith,
    sums_size-append (take i ss) (s ∷ []),
    ap sums_size more,
    sums_size-take (i + 1) ss,
  )

  last-plus : (a b : ℤ) → a +ℤ (b +ℤ pos 0) ≡ a +ℤ b
  last-plus a b = omega (arith, ints)

  pub net-more : (chart : Chart) (top : List ℕ)
      → net_below chart top (take (i + 1) ss)
      ≡ net_below chart top (take i ss) +ℤ counted (is_at_or_below chart top s.account) s
  net-more chart top =
      ap (net_below chart top) more
      ∙ sum_over-append (λ x. counted (is_at_or_below chart top x.account) x) (take i ss) (s ∷ [])
      ∙ last-plus (net_below chart top (take i ss)) (counted (is_at_or_below chart top s.account) s)

-- the code's two numbers, as they are read
pub net-small : (ss : List AccountSum) (i : ℕ) (s : AccountSum) (chart : Chart) (top : List ℕ)
    (b : Bool) (net part : ℤ) → i < length ss → s ≡ get_or ss i s
    → sums_size ss ≤ 2 ^ 64 * 2 ^ 46 → net ≡ net_below chart top (take i ss) → part ≡ counted b s
    → size_of net + size_of part ≤ 2 ^ 126
net-small ss i s chart top b net part below is small net-is part-is = omega (
  arith,
  small,
  sums-more ss i s below is,
  ap size_of net-is,
  ap size_of part-is,
  net_below-size chart top (take i ss),
  counted-size b s,
)

-- ---- how large the sums of a cut are

-- sums that are not both 0 are no larger than those of the map
pub moved-size : (es : List (SideKey × Amounts))
    → sums_size (filter is_moved (map account_sum (sides_in es))) ≤ total_size amounts_size es
moved-size [] = omega arith
moved-size (e ∷ es) = at (is_moved (first e)) (moved-size es)
  where
    first : SideKey × Amounts → AccountSum
    first e = record {
      account = e.0.account;
      extras = e.0.extras.items;
      debit = e.1.debit;
      credit = e.1.credit;
    }

    others : List AccountSum
    others = filter is_moved (map account_sum (sides_in es))

    at : (b : Bool) → sums_size others ≤ total_size amounts_size es
        → sums_size (cond b (first e ∷ others) others)
        ≤ amounts_size e.1 + total_size amounts_size es
    at true ih = omega (arith, ih)
    at false ih = omega (arith, ih)

-- documents have few entries
pub entries-few : (p : BookedEntry → Bool) (ledger : ℕ) (ds : List Document)
    → All HasShortLedgers ds → length ds < 2 ^ 32
    → length (filter p (flat_map (entered_by ledger) ds)) ≤ 2 ^ 45
entries-few p ledger ds short few =
    subst (λ xs. length (filter p (flat_map (entered_by ledger) xs)) ≤ 2 ^ 45)
    (take_all (length ds) ds (omega arith)) (documents-few p ledger ds (length ds) short few)
