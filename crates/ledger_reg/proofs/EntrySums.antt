-- Sums over the sides of entries, and over the places that they have.
use Rattle.std.proofs.Common.{◌≡◌, ℕ, ℤ, pos, ◌+ℤ◌, ◌-ℤ◌, Bool, true, false, not, ◌&&◌, ◌||◌}
use Rattle.std.proofs.Common.{cond, Option, Some, None, List, [], ◌∷◌, ◌++◌, map, refl, ap, ◌∙◌}
use Rattle.std.proofs.Common.{sym, arith}
use Rattle.std.specs.List.{flat_map}
use Rattle.std.specs.Cmp.Lexicographic.{slice_cmp}
use Rattle.std.specs.Ordering.{nat_cmp, ordering_then, is_eq, int_eq}
use Rattle.std.specs.declared.cmp.Ordering.{Ordering}
use Rattle.std.specs.declared.cmp.Ordering.TheVariants.{Less, Equal, Greater}
use Rattle.std.proofs.lemmas.Int.{ints}
use Rattle.std.proofs.lemmas.Bool.Decides.{Decides-int_eq}
use Rattle.std.proofs.lemmas.Map.Text.{is_eq-slice_cmp}
use Rattle.reg_base.specs.declared.records.Side.{Side}
use Rattle.reg_base.specs.BookedEntries.{BookedEntry}
use Rattle.reg_base.specs.Sums.{sum_over, in_order_once}
use Rattle.reg_base.proofs.ForTables.{sum_over-append, sum_over-map, sum_over-filter}
use Rattle.reg_base.proofs.ForTables.{sum_over-same, sum_over-zero, sum_over-partition}
use Rattle.cfg_model.specs.declared.ledger.Chart.{Chart}
use Rattle.cfg_model.specs.AccountTables.{AccountKey, counts_at, side_amount, net_at, debit_at}
use Rattle.cfg_model.specs.AccountTables.{credit_at, is_at_or_below}
use Rattle.ledger_reg.specs.declared.sides.AccountSum.{AccountSum}
use Rattle.ledger_reg.specs.Sides.{SidePlace, SideAmounts, amounts_of, sides_of, place_cmp}
use Rattle.ledger_reg.specs.Sides.{place_sums, side_sums, account_sum, account_sums, is_moved}
use Rattle.ledger_reg.specs.Balances.{net_of, net_below, counted}
use Rattle.ledger_reg.proofs.SideLemmas.{place_cmp_total, place_cmp_exact}

-- ---- sums of lists

minus-crossed : (a b c d : ℤ) → (a -ℤ b) +ℤ (c -ℤ d) ≡ (a +ℤ c) -ℤ (b +ℤ d)
minus-crossed a b c d = omega (arith, ints)

pub sum_over-minus : {X : Type 0} (f g : X → ℤ) (xs : List X)
    → sum_over (λ x. f x -ℤ g x) xs ≡ sum_over f xs -ℤ sum_over g xs
sum_over-minus f g [] = refl
sum_over-minus f g (x ∷ xs) =
    ap (λ t. (f x -ℤ g x) +ℤ t) (sum_over-minus f g xs)
    ∙ minus-crossed (f x) (g x) (sum_over f xs) (sum_over g xs)

pub sum_over-flat_map : {X Y : Type 0} (f : Y → ℤ) (g : X → List Y) (xs : List X)
    → sum_over f (flat_map g xs) ≡ sum_over (λ x. sum_over f (g x)) xs
sum_over-flat_map f g [] = refl
sum_over-flat_map f g (x ∷ xs) =
    sum_over-append f (g x) (flat_map g xs)
    ∙ ap (λ t. sum_over f (g x) +ℤ t) (sum_over-flat_map f g xs)

pub none : (b : Bool) → cond b (pos 0) (pos 0) ≡ pos 0
none true = refl
none false = refl

-- ---- what the sides of entries add at places that pass a test

module _ (test : SidePlace → Bool) where
  abbrev pub debit_where : SideAmounts → ℤ
  debit_where s = cond (test s.place) s.debit (pos 0)

  abbrev pub credit_where : SideAmounts → ℤ
  credit_where s = cond (test s.place) s.credit (pos 0)

  -- the amount of a side, where it is there and its place passes
  abbrev pub passed : Option Side → ℤ → ℤ
  passed None amount = pos 0
  passed (Some side) amount =
      cond (test (record { account = side.account; extras = side.extras })) amount (pos 0)

  first_alone : (x y : ℤ) → y ≡ pos 0 → x +ℤ (y +ℤ pos 0) ≡ x
  first_alone x y h = omega (arith, ints, h)

  second_alone : (x y : ℤ) → x ≡ pos 0 → x +ℤ (y +ℤ pos 0) ≡ y
  second_alone x y h = omega (arith, ints, h)

  alone : (x : ℤ) → x +ℤ pos 0 ≡ x
  alone x = omega (arith, ints)

  abbrev pub side_passes : Side → Bool
  side_passes side = test (record { account = side.account; extras = side.extras })

  debits-sides : (d c : Option Side) (n : ℤ)
      → sum_over debit_where (amounts_of d n (pos 0) ++ amounts_of c (pos 0) n) ≡ passed d n
  debits-sides None None n = refl
  debits-sides None (Some c) n = alone (cond (side_passes c) (pos 0) (pos 0)) ∙ none (side_passes c)
  debits-sides (Some d) None n = alone (cond (side_passes d) n (pos 0))
  debits-sides (Some d) (Some c) n =
      first_alone (cond (side_passes d) n (pos 0)) (cond (side_passes c) (pos 0) (pos 0))
      (none (side_passes c))

  credits-sides : (d c : Option Side) (n : ℤ)
      → sum_over credit_where (amounts_of d n (pos 0) ++ amounts_of c (pos 0) n) ≡ passed c n
  credits-sides None None n = refl
  credits-sides None (Some c) n = alone (cond (side_passes c) n (pos 0))
  credits-sides (Some d) None n =
      alone (cond (side_passes d) (pos 0) (pos 0)) ∙ none (side_passes d)
  credits-sides (Some d) (Some c) n =
      second_alone (cond (side_passes d) (pos 0) (pos 0)) (cond (side_passes c) n (pos 0))
      (none (side_passes d))

  -- where a key counts exactly the places that pass, its net is debits minus credits
  module _ (chart : Chart) (key : AccountKey)
      (same : (side : Side) → side_passes side ≡ counts_at chart key side) where
    passed-at : (o : Option Side) (n : ℤ) → passed o n ≡ side_amount chart key o n
    passed-at None n = refl
    passed-at (Some side) n = ap (λ b. cond b n (pos 0)) (same side)

    pub debits-at : (es : List BookedEntry)
        → sum_over debit_where (flat_map sides_of es) ≡ sum_over (debit_at chart key) es
    debits-at es =
        sum_over-flat_map debit_where sides_of es
        ∙ sum_over-same (λ b. sum_over debit_where (sides_of b)) (debit_at chart key)
        (λ b. debits-sides b.entry.debit b.entry.credit b.entry.amount
        ∙ passed-at b.entry.debit b.entry.amount) es

    pub credits-at : (es : List BookedEntry)
        → sum_over credit_where (flat_map sides_of es) ≡ sum_over (credit_at chart key) es
    credits-at es =
        sum_over-flat_map credit_where sides_of es
        ∙ sum_over-same (λ b. sum_over credit_where (sides_of b)) (credit_at chart key)
        (λ b. credits-sides b.entry.debit b.entry.credit b.entry.amount
        ∙ passed-at b.entry.credit b.entry.amount) es

    pub net-sides : (es : List BookedEntry)
        → sum_over debit_where (flat_map sides_of es)
        -ℤ sum_over credit_where (flat_map sides_of es)
        ≡ net_at chart key es
    net-sides es = λ i. debits-at es i -ℤ credits-at es i

-- ---- the net at a place

is_eq-then : (a b : Ordering) → is_eq (ordering_then a b) ≡ (is_eq a && is_eq b)
is_eq-then Less b = refl
is_eq-then Equal b = refl
is_eq-then Greater b = refl

-- an account with its extras
abbrev pub key_at : SidePlace → AccountKey
key_at place = record { account = place.account; extras = Some place.extras }

module _ (chart : Chart) (place : SidePlace) where
  abbrev pub at_place : SidePlace → Bool
  at_place q = is_eq (place_cmp q place)

  at_place-counts : (side : Side)
      → at_place (record { account = side.account; extras = side.extras })
      ≡ counts_at chart (key_at place) side
  at_place-counts side =
      is_eq-then (slice_cmp nat_cmp side.account place.account)
      (slice_cmp (slice_cmp nat_cmp) side.extras place.extras)
      ∙ ap (λ b. b && is_eq (slice_cmp (slice_cmp nat_cmp) side.extras place.extras))
      (is_eq-slice_cmp side.account place.account)

  -- the sums at a place make the net of its key
  pub net-place : (es : List BookedEntry)
      → net_of (account_sum (place, place_sums (flat_map sides_of es) place))
      ≡ net_at chart (key_at place) es
  net-place es = net-sides at_place chart (key_at place) at_place-counts es

-- ---- the net of an account and those below it

module _ (test : SidePlace → Bool) (sides : List SideAmounts) where
  abbrev places : List SidePlace
  places = in_order_once place_cmp (map (λ (s : SideAmounts). s.place) sides)

  inside_sum : (number : SideAmounts → ℤ) (p : SidePlace) (b : Bool)
      → cond b (sum_over (λ s. cond (is_eq (place_cmp s.place p)) (number s) (pos 0)) sides) (pos 0)
      ≡ sum_over (λ s. cond (is_eq (place_cmp s.place p)) (cond b (number s) (pos 0)) (pos 0)) sides
  inside_sum number p true = refl
  inside_sum number p false =
      sym (sum_over-same (λ s. cond (is_eq (place_cmp s.place p)) (pos 0) (pos 0)) (λ s. pos 0)
      (λ s. none (is_eq (place_cmp s.place p))) sides ∙ sum_over-zero sides)

  -- the sums at the places that pass are the sum over the sides whose places pass
  pub sum-places : (number : SideAmounts → ℤ)
      → sum_over (λ p. cond (test p)
      (sum_over (λ s. cond (is_eq (place_cmp s.place p)) (number s) (pos 0)) sides) (pos 0)) places
      ≡ sum_over (λ s. cond (test s.place) (number s) (pos 0)) sides
  sum-places number =
      sum_over-same _ _ (λ p. inside_sum number p (test p)) places
      ∙ sum_over-partition place_cmp_total place_cmp_exact (λ (s : SideAmounts). s.place)
      (λ s p. cond (test p) (number s) (pos 0)) sides

-- a number that is not told from zero is zero
pub is_zero : (n : ℤ) → not (int_eq n (pos 0)) ≡ false → n ≡ pos 0
is_zero n h = at (int_eq n (pos 0)) refl
  where
    at : (b : Bool) → int_eq n (pos 0) ≡ b → n ≡ pos 0
    at true e = (Decides-int_eq n (pos 0)).0 e
    at false e = (Decides-int_eq n (pos 0)).0 (e ∙ sym (sym (ap not e) ∙ h))

both-false : (p q : Bool) → (p || q) ≡ false → (p ≡ false) × (q ≡ false)
both-false true q h = absurd (cc)
both-false false q h = (refl, h)

zero-minus : (a b : ℤ) → a ≡ pos 0 → b ≡ pos 0 → a -ℤ b ≡ pos 0
zero-minus a b h k = omega (arith, ints, h, k)

-- sums that are both 0 have no net
pub unmoved-net : (s : AccountSum) → is_moved s ≡ false → net_of s ≡ pos 0
unmoved-net s h =
    let parts = both-false (not (int_eq s.debit (pos 0))) (not (int_eq s.credit (pos 0))) h in
    zero-minus s.debit s.credit (is_zero s.debit parts.0) (is_zero s.credit parts.1)

pub counted-zero : (b : Bool) (s : AccountSum) → net_of s ≡ pos 0 → counted b s ≡ pos 0
counted-zero true s h = h
counted-zero false s h = refl

cond-minus : (b : Bool) (x y : ℤ) → cond b (x -ℤ y) (pos 0) ≡ cond b x (pos 0) -ℤ cond b y (pos 0)
cond-minus true x y = refl
cond-minus false x y = refl

module _ (chart : Chart) (top : List ℕ) where
  abbrev pub stands_below : SidePlace → Bool
  stands_below p = is_at_or_below chart top p.account

  abbrev pub top_key : AccountKey
  top_key = record { account = top; extras = None }

  -- the net over the sums by account is that over the entries
  pub net_below-entries : (es : List BookedEntry)
      → net_below chart top (account_sums es) ≡ net_at chart top_key es
  net_below-entries es =
      let sides : List SideAmounts = flat_map sides_of es in
      let counts : AccountSum → ℤ = λ s. counted (is_at_or_below chart top s.account) s in
      sum_over-filter counts is_moved
      (λ s h. counted-zero (is_at_or_below chart top s.account) s (unmoved-net s h))
      (map account_sum (side_sums sides))
      ∙ sum_over-map counts account_sum (side_sums sides)
      ∙ sum_over-map (λ e. counts (account_sum e)) (λ (p : SidePlace). (p, place_sums sides p))
      (places stands_below sides)
      ∙ sum_over-same _ _
      (λ p. cond-minus (stands_below p) (place_sums sides p).debit (place_sums sides p).credit)
      (places stands_below sides)
      ∙ sum_over-minus (λ p. cond (stands_below p) (place_sums sides p).debit (pos 0))
      (λ p. cond (stands_below p) (place_sums sides p).credit (pos 0)) (places stands_below sides)
      ∙ (λ i. sum-places stands_below sides (λ s. s.debit) i
      -ℤ sum-places stands_below sides (λ s. s.credit) i)
      ∙ net-sides stands_below chart top_key (λ side. refl) es
