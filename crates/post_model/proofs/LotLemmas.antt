-- The holdings of what is left are of different lots, so that no lot goes below zero.
use Rattle.std.proofs.Common.{◌≡◌, ℕ, suc, ◌≤◌, ℤ, pos, ◌+ℤ◌, ◌≤ℤ◌, Bool, true, false, cond, Option}
use Rattle.std.proofs.Common.{Some, None, List, [], ◌∷◌, map, filter, length, IfOk, refl, ap}
use Rattle.std.proofs.Common.{◌∙◌, sym, subst, unwrap_or, arith}
use Rattle.std.specs.Prelude.{slice_get}
use Rattle.std.specs.List.{All, AllByRecursion, cons_option}
use Rattle.std.specs.List.Sorted.{IsStrictlySortedBy}
use Rattle.std.specs.Ordering.{is_eq, ordering_then, ordering_reverse}
use Rattle.std.specs.declared.cmp.Ordering.{Ordering}
use Rattle.std.specs.declared.cmp.Ordering.TheVariants.{Less, Equal, Greater}
use Rattle.std.proofs.lemmas.Cmp.{tied_itself}
use Rattle.std.proofs.lemmas.Option.{slice_get_within, unwrap_or-slice_get}
use Rattle.std.proofs.lemmas.Int.{ints}
use Rattle.std.proofs.lemmas.List.Elements.{All-from_recursion, All-weaker}
use Rattle.std.proofs.lemmas.Result.{IfOk-weaker}
use Rattle.reg_base.specs.Balances.{group_of, groups_of, row_of, is_shown, sum_rows}
use Rattle.reg_base.specs.Records.{Booked, value_cmp, values_cmp}
use Rattle.reg_base.specs.declared.records.SumRow.{SumRow}
use Rattle.reg_base.specs.declared.value.Value.{Value}
use Rattle.cfg_model.specs.declared.config.Config.{Config}
use Rattle.cfg_model.specs.declared.register.Register.{Register}
use Rattle.cfg_model.specs.declared.register.Dimension.{Dimension}
use Rattle.cfg_model.specs.Limits.{IsRegisterWithinLimits, IsWithinLimits}
use Rattle.post_model.specs.Lefts.{dimensions_of}
use Rattle.post_model.specs.Scenes.{Scene}
use Rattle.post_model.specs.WriteOffs.{holding_of, in_stock, all_in_stock, write_off}
use Rattle.post_model.specs.Yields.{depth_of, lot_places, told_apart, holdings_of}
use Rattle.post_model.specs.Laws.{quantity_of, same_lot, of_lot, AreTakenFrom, LeavesNoneBelowZero}
use Rattle.post_model.specs.declared.holding.Holding.{Holding}
use Rattle.reg_base.proofs.ForAbove.{values_cmp_total, groups_of-rising, groups_of-all}
use Rattle.post_model.proofs.TakeLemmas.{write_off-takes}

-- ---- lots and groups

-- one value at the most
abbrev IsShort : List Value → Type 0
IsShort [] = Unit {0}
IsShort (value ∷ []) = Unit {0}
IsShort (value ∷ other ∷ more) = ⊥

-- two groups of one value at the most are of the same lot where they are the same
same_lot-groups : (g k : List Value) → IsShort g → IsShort k
    → same_lot (slice_get g 0) (slice_get k 0) ≡ is_eq (values_cmp g k)
same_lot-groups [] [] g_short k_short = refl
same_lot-groups [] (w ∷ ws) g_short k_short = refl
same_lot-groups (v ∷ vs) [] g_short k_short = refl
same_lot-groups (v ∷ []) (w ∷ []) g_short k_short = alone (value_cmp v w)
  where
    alone : (r : Ordering) → is_eq r ≡ is_eq (ordering_then r Equal)
    alone Less = refl
    alone Equal = refl
    alone Greater = refl
same_lot-groups (v ∷ []) (w ∷ x ∷ ws) g_short k_short = absurd k_short
same_lot-groups (v ∷ u ∷ vs) (w ∷ ws) g_short k_short = absurd g_short

-- a group by one dimension at the most
group_of-short : (dimensions : List ℕ) → length dimensions ≤ 1 → (b : Booked)
    → IsShort (group_of (Some dimensions) b)
group_of-short [] few b = tt
group_of-short (d ∷ []) few b = at (slice_get b.rec.values d)
  where
    at : (value : Option Value) → IsShort (cons_option value [])
    at None = tt
    at (Some value) = tt
group_of-short (d ∷ e ∷ ds) few b = absurd (omega arith)

-- ---- holdings that are apart

-- two are of different lots, whichever is asked first
abbrev Differ : Holding → Holding → Type 0
Differ h k = (same_lot h.lot k.lot ≡ false) × (same_lot k.lot h.lot ≡ false)

-- each is of its own lot, and of no other's
abbrev AreApart : List Holding → Type 0
AreApart [] = Unit {0}
AreApart (h ∷ hs) = (same_lot h.lot h.lot ≡ true) × AllByRecursion (Differ h) hs × AreApart hs

all-both : {X : Type 0} (P Q S : X → Type 0) → ((x : X) → P x → Q x → S x) → (xs : List X)
    → AllByRecursion P xs → AllByRecursion Q xs → AllByRecursion S xs
all-both P Q S so [] ps qs = tt
all-both P Q S so (x ∷ xs) ps qs = (so x ps.0 qs.0, all-both P Q S so xs ps.1 qs.1)

-- of the lot of one there is none among the others
of_lot-none : (h : Holding) (hs : List Holding) → AllByRecursion (Differ h) hs
    → of_lot h.lot hs ≡ []
of_lot-none h [] differ = refl
of_lot-none h (k ∷ ks) differ =
    ap (λ same. cond same (k ∷ of_lot h.lot ks) (of_lot h.lot ks)) differ.0.0
    ∙ of_lot-none h ks differ.1

-- each is the only one of its lot
of_lot-alone : (hs : List Holding) → AreApart hs
    → AllByRecursion (λ h. of_lot h.lot hs ≡ h ∷ []) hs
of_lot-alone [] apart = tt
of_lot-alone (h ∷ hs) apart = (
  ap (λ same. cond same (h ∷ of_lot h.lot hs) (of_lot h.lot hs)) apart.0
      ∙ ap (λ others. h ∷ others) (of_lot-none h hs apart.1),
  all-both (Differ h) (λ k. of_lot k.lot hs ≡ k ∷ []) (λ k. of_lot k.lot (h ∷ hs) ≡ k ∷ [])
      (λ k differ alone.
      ap (λ same. cond same (h ∷ of_lot k.lot hs) (of_lot k.lot hs)) differ.1 ∙ alone) hs apart.1
      (of_lot-alone hs apart.2),
)

-- ---- the holdings of rows

module _ (quantity amount : ℕ) (row : List Value → SumRow)
    (grouped : (g : List Value) → (row g).group ≡ g) where
  abbrev holding : List Value → Holding
  holding g = holding_of quantity amount (row g)

  -- the holdings of the groups that are shown
  abbrev holdings : List (List Value) → List Holding
  holdings gs = map (holding_of quantity amount) (filter is_shown (map row gs))

  same_lot-holding : (g k : List Value) → IsShort g → IsShort k
      → same_lot (holding g).lot (holding k).lot ≡ is_eq (values_cmp g k)
  same_lot-holding g k g_short k_short =
      (λ i. same_lot (slice_get (grouped g i) 0) (slice_get (grouped k i) 0))
      ∙ same_lot-groups g k g_short k_short

  holdings-all : (P : Holding → Type 0) (gs : List (List Value))
      → AllByRecursion (λ g. P (holding g)) gs → AllByRecursion P (holdings gs)
  holdings-all P [] all = tt
  holdings-all P (g ∷ gs) all = at (is_shown (row g)) (holdings-all P gs all.1)
    where
      at : (shown : Bool) → AllByRecursion P (holdings gs)
          → AllByRecursion P (map (holding_of quantity amount)
          (cond shown (row g ∷ filter is_shown (map row gs)) (filter is_shown (map row gs))))
      at true others = (all.0, others)
      at false others = others

  differ-below : (g k : List Value) → IsShort g → IsShort k → values_cmp g k ≡ Less
      → Differ (holding g) (holding k)
  differ-below g k g_short k_short below = (
    same_lot-holding g k g_short k_short ∙ ap is_eq below,
    same_lot-holding k g k_short g_short
        ∙ ap is_eq (values_cmp_total.antisymm k g ∙ ap ordering_reverse below),
  )

  holdings-apart : (gs : List (List Value)) → IsStrictlySortedBy values_cmp gs
      → AllByRecursion IsShort gs → AreApart (holdings gs)
  unfolding IsStrictlySortedBy
  holdings-apart [] rising short = tt
  holdings-apart (g ∷ gs) rising short =
      at (is_shown (row g)) (holdings-apart gs rising.1 short.1)
    where
      at : (shown : Bool) → AreApart (holdings gs)
          → AreApart (map (holding_of quantity amount)
          (cond shown (row g ∷ filter is_shown (map row gs)) (filter is_shown (map row gs))))
      at true others = (
        same_lot-holding g g short.0 short.0 ∙ ap is_eq (tied_itself values_cmp_total g),
        holdings-all (Differ (holding g)) gs
            (all-both (λ k. values_cmp g k ≡ Less) IsShort (λ k. Differ (holding g) (holding k))
            (λ k below k_short. differ-below g k short.0 k_short below) gs rising.0 short.1),
        others,
      )
      at false others = others

module _ (config : Config) (fifo : Bool) (register quantity amount : ℕ) (left : List Booked)
    (few : length (told_apart config register fifo) ≤ 1) where
  abbrev places : Option (List ℕ)
  places = Some (told_apart config register fifo)

  abbrev all_holdings : List Holding
  all_holdings = holdings_of config fifo register quantity amount left

  -- each holding of what is left is the only one of its lot
  pub holdings_of-alone : All (λ h. of_lot h.lot all_holdings ≡ h ∷ []) all_holdings
  unfolding sum_rows
  holdings_of-alone =
      All-from_recursion (λ h. of_lot h.lot all_holdings ≡ h ∷ []) all_holdings
      (of_lot-alone all_holdings
      (holdings-apart quantity amount (row_of (depth_of config register) places left)
      (λ g. refl) (groups_of places left) (groups_of-rising places left)
      (groups_of-all places IsShort (group_of-short (told_apart config register fifo) few) left)))

  pub write_off-leaves : (scene : Scene) (wanted : ℤ)
      → IfOk (write_off scene wanted all_holdings) (LeavesNoneBelowZero all_holdings)
  unfolding all_in_stock
  write_off-leaves scene wanted =
      IfOk-weaker (write_off scene wanted all_holdings) (AreTakenFrom all_holdings wanted)
      (LeavesNoneBelowZero all_holdings) (λ takes are.
      All-weaker (λ h. of_lot h.lot all_holdings ≡ h ∷ [])
      (λ h. quantity_of (of_lot h.lot takes) ≤ℤ in_stock h)
      (λ h alone. alone_is _ (in_stock h) (subst
      (λ hs. quantity_of (of_lot h.lot takes) ≤ℤ all_in_stock hs) alone (are.lots h.lot)))
      all_holdings holdings_of-alone) (write_off-takes scene wanted all_holdings)
    where
      alone_is : (a b : ℤ) → a ≤ℤ (b +ℤ pos 0) → a ≤ℤ b
      alone_is a b h = omega (arith, ints)

-- ---- a register has one lot at the most

lot_places-length : (place : ℕ) (ds : List Dimension)
    → length (lot_places place ds) ≡ length (filter (λ d. d.lot) ds)
unfolding lot_places
lot_places-length place [] = refl
lot_places-length place (d ∷ ds) = at (lot_places-length (suc place) ds) d.lot
  where
    at : length (lot_places (suc place) ds) ≡ length (filter (λ e. e.lot) ds) → (b : Bool)
        → length (lot_places place (record d { lot = b } ∷ ds))
        ≡ length (filter (λ e. e.lot) (record d { lot = b } ∷ ds))
    at others true = ap suc others
    at others false = others

-- under a configuration within its limits what is left is told apart by one dimension at the most
told_apart-few : (config : Config) (register : ℕ) (fifo : Bool) → IsWithinLimits config
    → length (told_apart config register fifo) ≤ 1
unfolding lot_places
told_apart-few config register false limits = omega arith
told_apart-few config register true limits =
    at (slice_get config.registers register) refl
  where
    at : (found : Option Register) → slice_get config.registers register ≡ found
        → length (lot_places 0 (dimensions_of found)) ≤ 1
    at None is = omega arith
    at (Some r) is =
        let within : IsRegisterWithinLimits r = subst IsRegisterWithinLimits
        (sym (unwrap_or-slice_get config.registers register r) ∙ ap (λ o. unwrap_or o r) is)
        (limits.each_register register r (slice_get_within config.registers register r is)) in
        omega (arith, lot_places-length 0 r.dimensions, within.one_lot)

pub write_off-leaves_none : (config : Config) (fifo : Bool) (register quantity amount : ℕ)
    (left : List Booked) → IsWithinLimits config → (scene : Scene) (wanted : ℤ)
    → IfOk (write_off scene wanted (holdings_of config fifo register quantity amount left))
    (LeavesNoneBelowZero (holdings_of config fifo register quantity amount left))
write_off-leaves_none config fifo register quantity amount left limits =
    write_off-leaves config fifo register quantity amount left
    (told_apart-few config register fifo limits)
