-- Rows in order, each opening with what those before it leave, open with sums over lower rows.
use Rattle.std.proofs.Common.{◌≡◌, ℕ, ◌+◌, ◌<◌, ℤ, pos, ◌+ℤ◌, Bool, true, false, ◌&&◌}
use Rattle.std.proofs.Common.{cond, List, [], ◌∷◌, map, refl, ap, ◌∙◌, sym, arith}
use Rattle.std.proofs.Common.{take, drop}
use Rattle.std.specs.List.{range_with_len, AllByRecursion}
use Rattle.std.specs.List.Sorted.{IsStrictlySortedBy}
use Rattle.std.specs.Ordering.{is_eq, is_lt, is_le, ordering_then, ordering_reverse}
use Rattle.std.specs.declared.cmp.Ordering.{Ordering}
use Rattle.std.specs.declared.cmp.Ordering.TheVariants.{Less, Equal, Greater}
use Rattle.std.proofs.lemmas.Cmp.{tied_itself}
use Rattle.std.proofs.lemmas.Int.{ints}
use Rattle.std.proofs.lemmas.List.FromFn.{length-map-range_with_len}
use Rattle.reg_base.specs.declared.value.Value.{Value}
use Rattle.reg_base.specs.declared.tables.Row.{Row}
use Rattle.reg_base.specs.Records.{values_cmp}
use Rattle.reg_base.specs.Sums.{sum_over}
use Rattle.reg_base.specs.Turnovers.{RowKey, unit_cmp, key_cmp}
use Rattle.reg_base.proofs.ForAbove.{values_cmp_total, values_cmp_exact}
use Rattle.reg_base.proofs.ForTables.{key_cmp_total}
use Rattle.table_sums.specs.Additions.{number_at, row_with}
use Rattle.table_sums.proofs.ForAbove.{range-get, range-same}
use Rattle.virt_tables.specs.Both.{sums_of, turned, opening_after, opened, zeros, rows_after}
use Rattle.virt_tables.proofs.ListLemmas.{take-front, drop-front, range-split}

-- ---- numbers that are made column by column

-- so many numbers
abbrev pub made : ℕ → (ℕ → ℤ) → List ℤ
made n f = map f (range_with_len 0 n)

pub made-same : (n : ℕ) (f g : ℕ → ℤ) → ((j : ℕ) → j < n → f j ≡ g j) → made n f ≡ made n g
made-same n f g e = range-same f g n 0 n (omega arith) e

pub sums_of-made : (n : ℕ) (f g : ℕ → ℤ)
    → sums_of (made n f) (made n g) ≡ made n (λ j. g j +ℤ f j)
sums_of-made n f g =
    ap (λ m. map (λ j. number_at (made n g) j +ℤ number_at (made n f) j) (range_with_len 0 m))
    (length-map-range_with_len f 0 n)
    ∙ range-same (λ j. number_at (made n g) j +ℤ number_at (made n f) j) (λ j. g j +ℤ f j) n 0 n
    (omega arith) (λ j l i. at g j l i +ℤ at f j l i)
  where
    at : (h : ℕ → ℤ) (j : ℕ) → j < n → number_at (made n h) j ≡ h j
    at h j l = range-get h j 0 n l ∙ ap h (omega arith)

take-made : (n m : ℕ) (f : ℕ → ℤ) → take n (made (n + m) f) ≡ made n f
take-made n m f =
    ap (take n) (range-split f 0 n m)
    ∙ take-front n (made n f) (made m (λ j. f (n + j))) (length-map-range_with_len f 0 n)

drop-made : (n m : ℕ) (f : ℕ → ℤ) → drop n (made (n + m) f) ≡ made m (λ j. f (n + j))
drop-made n m f =
    ap (drop n) (range-split f 0 n m)
    ∙ drop-front n (made n f) (made m (λ j. f (n + j))) (length-map-range_with_len f 0 n)

-- the four parts of numbers that are made
module _ (n : ℕ) (f : ℕ → ℤ) where
  abbrev parts : List ℤ
  parts = made (n + (n + (n + (n + 0)))) f

  pub made-first : take n parts ≡ made n f
  made-first = take-made n (n + (n + (n + 0))) f

  behind-first : drop n parts ≡ made (n + (n + (n + 0))) (λ j. f (n + j))
  behind-first = drop-made n (n + (n + (n + 0))) f

  pub made-second : take n (drop n parts) ≡ made n (λ j. f (n + j))
  made-second = ap (take n) behind-first ∙ take-made n (n + (n + 0)) (λ j. f (n + j))

  behind-second : drop n (drop n parts) ≡ made (n + (n + 0)) (λ j. f (n + (n + j)))
  behind-second = ap (drop n) behind-first ∙ drop-made n (n + (n + 0)) (λ j. f (n + j))

  pub made-third : take n (drop n (drop n parts)) ≡ made n (λ j. f (n + (n + j)))
  made-third = ap (take n) behind-second ∙ take-made n (n + 0) (λ j. f (n + (n + j)))

  pub made-last : drop n (drop n (drop n parts)) ≡ made n (λ j. f (n + (n + (n + j))))
  made-last =
      ap (drop n) behind-second ∙ drop-made n (n + 0) (λ j. f (n + (n + j)))
      ∙ ap (λ m. made m (λ j. f (n + (n + (n + j))))) (omega arith)

-- ---- lower rows

-- whether a key is of the group of another one, and not above it
abbrev pub is_upto : RowKey → RowKey → Bool
is_upto k x = is_eq (values_cmp x.group k.group) && is_le (key_cmp x k)

-- whether a key is of the group of another one, and below it
abbrev pub is_under : RowKey → RowKey → Bool
is_under k x = is_eq (values_cmp x.group k.group) && is_lt (key_cmp x k)

turned-back : (x y : RowKey) → key_cmp x y ≡ Less → key_cmp y x ≡ Greater
turned-back x y h = key_cmp_total.antisymm y x ∙ ap ordering_reverse h

not-both : (p : Bool) → p && false ≡ false
not-both true = refl
not-both false = refl

sum-no : (x : ℤ) → x ≡ pos 0 → pos 0 +ℤ x ≡ pos 0
sum-no x h = omega (arith, ints, h)

-- keys behind a key add nothing to what is up to it, or under it
none-upto : (f : RowKey → ℤ) (k : RowKey) (ks : List RowKey)
    → AllByRecursion (λ y. key_cmp k y ≡ Less) ks
    → sum_over (λ x. cond (is_upto k x) (f x) (pos 0)) ks ≡ pos 0
none-upto f k [] all = refl
none-upto f k (y ∷ ys) all =
    ap (λ b. cond b (f y) (pos 0) +ℤ sum_over (λ x. cond (is_upto k x) (f x) (pos 0)) ys)
    (ap (λ r. is_eq (values_cmp y.group k.group) && is_le r) (turned-back k y all.0)
    ∙ not-both (is_eq (values_cmp y.group k.group)))
    ∙ sum-no (sum_over (λ x. cond (is_upto k x) (f x) (pos 0)) ys) (none-upto f k ys all.1)

none-under : (f : RowKey → ℤ) (k : RowKey) (ks : List RowKey)
    → AllByRecursion (λ y. key_cmp k y ≡ Less) ks
    → sum_over (λ x. cond (is_under k x) (f x) (pos 0)) ks ≡ pos 0
none-under f k [] all = refl
none-under f k (y ∷ ys) all =
    ap (λ b. cond b (f y) (pos 0) +ℤ sum_over (λ x. cond (is_under k x) (f x) (pos 0)) ys)
    (ap (λ r. is_eq (values_cmp y.group k.group) && is_lt r) (turned-back k y all.0)
    ∙ not-both (is_eq (values_cmp y.group k.group)))
    ∙ sum-no (sum_over (λ x. cond (is_under k x) (f x) (pos 0)) ys) (none-under f k ys all.1)

-- groups of the keys behind a key are not below its group
pub groups-behind : (k : RowKey) (ks : List RowKey) → AllByRecursion (λ y. key_cmp k y ≡ Less) ks
    → AllByRecursion (λ y. is_lt (values_cmp y.group k.group) ≡ false) ks
groups-behind k [] all = tt
groups-behind k (y ∷ ys) all = (
  ap is_lt (values_cmp_total.antisymm y.group k.group)
      ∙ at (values_cmp k.group y.group) (unit_cmp k.unit y.unit) all.0,
  groups-behind k ys all.1,
)
  where
    at : (r s : Ordering) → ordering_then r s ≡ Less → is_lt (ordering_reverse r) ≡ false
    at Less s h = refl
    at Equal s h = refl
    at Greater s h = absurd (cc)

-- a group behind one that is not below a third is not that one
group-other : (g a b : List Value) → is_lt (values_cmp a g) ≡ false → values_cmp a b ≡ Less
    → values_cmp b g ≡ Greater
group-other g a b h e = at (values_cmp a g) refl h
  where
    back : values_cmp b a ≡ Greater
    back = values_cmp_total.antisymm b a ∙ ap ordering_reverse e

    at : (r : Ordering) → values_cmp a g ≡ r → is_lt r ≡ false → values_cmp b g ≡ Greater
    at Less p l = absurd (cc)
    at Equal p l = ap (values_cmp b) (sym (values_cmp_exact a g p)) ∙ back
    at Greater p l =
        values_cmp_total.antisymm b g
        ∙ ap ordering_reverse (values_cmp_total.trans g a b
        (values_cmp_total.antisymm g a ∙ ap ordering_reverse p) e)

-- the steps, over numbers
head-sum : (a b t u l : ℤ) → u ≡ pos 0 → l ≡ pos 0
    → a +ℤ b ≡ a +ℤ ((b +ℤ u) +ℤ (pos 0 +ℤ l))
head-sum a b t u l h g = omega (arith, ints, h, g)

same-sum : (x y b t u l : ℤ) → x ≡ y
    → (t +ℤ (x +ℤ b)) +ℤ (u +ℤ l) ≡ y +ℤ ((b +ℤ u) +ℤ (t +ℤ l))
same-sum x y b t u l h = omega (arith, ints, h)

other-sum : (y u l : ℤ) → y ≡ pos 0
    → pos 0 +ℤ (u +ℤ l) ≡ y +ℤ ((pos 0 +ℤ u) +ℤ (pos 0 +ℤ l))
other-sum y u l h = omega (arith, ints, h)

plus-swap : (x y : ℤ) → x +ℤ y ≡ y +ℤ x
plus-swap x y = omega (arith, ints)

zero-plus : (x : ℤ) → x ≡ pos 0 +ℤ x
zero-plus x = omega (arith, ints)

pub map-all : {X Y : Type 0} (f g : X → Y) (xs : List X) → AllByRecursion (λ x. f x ≡ g x) xs
    → map f xs ≡ map g xs
map-all f g [] all = refl
map-all f g (x ∷ xs) all = λ i. all.0 i ∷ map-all f g xs all.1 i

-- what a balance of a group carries to a key: nothing, where the key is of another group
abbrev carried : List Value → (ℕ → ℤ) → RowKey → ℕ → ℤ
carried g c k j = cond (is_eq (values_cmp k.group g)) (c j) (pos 0)

module _ (n : ℕ) (sums : RowKey → List ℤ) (first turn : RowKey → ℕ → ℤ)
    (front : (k : RowKey) → take n (sums k) ≡ made n (first k))
    (back : (k : RowKey) → drop n (drop n (drop n (sums k))) ≡ made n (turn k)) where
  -- the balances and turnovers of lower rows of the group
  abbrev pub opens_at : List RowKey → RowKey → ℕ → ℤ
  opens_at ks k j = sum_over (λ x. cond (is_upto k x) (first x j) (pos 0)) ks
      +ℤ sum_over (λ x. cond (is_under k x) (turn x j) (pos 0)) ks

  -- the row of a key with an opening
  abbrev pub row_at : (ℕ → ℤ) → RowKey → Row
  row_at f k = opened n (made n f) (row_with sums k)

  opening-is : (g : List Value) (c : ℕ → ℤ) (k : RowKey)
      → opening_after n g (made n c) (row_with sums k)
      ≡ made n (λ j. carried g c k j +ℤ first k j)
  opening-is g c k = at (is_eq (values_cmp k.group g))
    where
      at : (e : Bool) → cond e (sums_of (made n c) (take n (sums k))) (take n (sums k))
          ≡ made n (λ j. cond e (c j) (pos 0) +ℤ first k j)
      at true =
          ap (sums_of (made n c)) (front k) ∙ sums_of-made n c (first k)
          ∙ made-same n (λ j. first k j +ℤ c j) (λ j. c j +ℤ first k j)
          (λ j l. plus-swap (first k j) (c j))
      at false =
          front k ∙ made-same n (first k) (λ j. pos 0 +ℤ first k j) (λ j l. zero-plus (first k j))

  closing-is : (f : ℕ → ℤ) (k : RowKey)
      → sums_of (made n f) (turned n (row_with sums k)) ≡ made n (λ j. turn k j +ℤ f j)
  closing-is f k = ap (sums_of (made n f)) (back k) ∙ sums_of-made n f (turn k)

  -- the first of the keys opens with what is carried to it, and its own balance
  opens-first : (a : ℤ) (k : RowKey) (ks : List RowKey) (j : ℕ)
      → AllByRecursion (λ y. key_cmp k y ≡ Less) ks
      → a +ℤ first k j ≡ a +ℤ opens_at (k ∷ ks) k j
  opens-first a k ks j all =
      head-sum a (first k j) (turn k j) (sum_over (λ x. cond (is_upto k x) (first x j) (pos 0)) ks)
      (sum_over (λ x. cond (is_under k x) (turn x j) (pos 0)) ks)
      (none-upto (λ x. first x j) k ks all) (none-under (λ x. turn x j) k ks all)
      ∙ (λ i. a +ℤ ((cond (is_eq (own i) && is_le (itself i)) (first k j) (pos 0)
      +ℤ sum_over (λ x. cond (is_upto k x) (first x j) (pos 0)) ks)
      +ℤ (cond (is_eq (own i) && is_lt (itself i)) (turn k j) (pos 0)
      +ℤ sum_over (λ x. cond (is_under k x) (turn x j) (pos 0)) ks)))
    where
      own : Equal ≡ values_cmp k.group k.group
      own = sym (tied_itself values_cmp_total k.group)

      itself : Equal ≡ key_cmp k k
      itself = sym (tied_itself key_cmp_total k)

  -- a key behind the first one opens with what that one leaves
  opens-next : (g : List Value) (c : ℕ → ℤ) (k y : RowKey) (ks : List RowKey) (j : ℕ)
      → is_lt (values_cmp k.group g) ≡ false → key_cmp k y ≡ Less
      → carried k.group (λ j. turn k j +ℤ (carried g c k j +ℤ first k j)) y j +ℤ opens_at ks y j
      ≡ carried g c y j +ℤ opens_at (k ∷ ks) y j
  opens-next g c k y ks j above less =
      at (values_cmp k.group y.group) refl (values_cmp_total.antisymm y.group k.group)
    where
      lower : ℤ
      lower = sum_over (λ x. cond (is_upto y x) (first x j) (pos 0)) ks

      under : ℤ
      under = sum_over (λ x. cond (is_under y x) (turn x j) (pos 0)) ks

      at : (r : Ordering) → values_cmp k.group y.group ≡ r
          → values_cmp y.group k.group ≡ ordering_reverse (values_cmp k.group y.group)
          → cond (is_eq (values_cmp y.group k.group))
          (turn k j +ℤ (carried g c k j +ℤ first k j)) (pos 0) +ℤ (lower +ℤ under)
          ≡ carried g c y j
          +ℤ ((cond (is_eq (values_cmp k.group y.group) && is_le (key_cmp k y)) (first k j) (pos 0)
          +ℤ lower)
          +ℤ (cond (is_eq (values_cmp k.group y.group) && is_lt (key_cmp k y)) (turn k j) (pos 0)
          +ℤ under))
      at Less e v =
          (λ i. cond (is_eq ((v ∙ ap ordering_reverse e) i))
          (turn k j +ℤ (carried g c k j +ℤ first k j)) (pos 0) +ℤ (lower +ℤ under))
          ∙ other-sum (carried g c y j) lower under
          (ap (λ r. cond (is_eq r) (c j) (pos 0)) (group-other g k.group y.group above e))
          ∙ (λ i. carried g c y j
          +ℤ ((cond (is_eq (sym e i) && is_le (key_cmp k y)) (first k j) (pos 0) +ℤ lower)
          +ℤ (cond (is_eq (sym e i) && is_lt (key_cmp k y)) (turn k j) (pos 0) +ℤ under)))
      at Equal e v =
          (λ i. cond (is_eq ((v ∙ ap ordering_reverse e) i))
          (turn k j +ℤ (carried g c k j +ℤ first k j)) (pos 0) +ℤ (lower +ℤ under))
          ∙ same-sum (carried g c k j) (carried g c y j) (first k j) (turn k j) lower under
          (ap (λ h. cond (is_eq (values_cmp h g)) (c j) (pos 0))
          (values_cmp_exact k.group y.group e))
          ∙ (λ i. carried g c y j
          +ℤ ((cond (is_eq (sym e i) && is_le (sym less i)) (first k j) (pos 0) +ℤ lower)
          +ℤ (cond (is_eq (sym e i) && is_lt (sym less i)) (turn k j) (pos 0) +ℤ under)))
      at Greater e v =
          absurd (let clash : Greater ≡ Less =
          sym (ap (λ r. ordering_then r (unit_cmp k.unit y.unit)) e) ∙ less in cc)

  opens-rest : (g : List Value) (c : ℕ → ℤ) (k : RowKey) (ks ys : List RowKey)
      → is_lt (values_cmp k.group g) ≡ false → AllByRecursion (λ y. key_cmp k y ≡ Less) ys
      → AllByRecursion (λ y.
      row_at (λ j. carried k.group (λ j. turn k j +ℤ (carried g c k j +ℤ first k j)) y j
      +ℤ opens_at ks y j) y
      ≡ row_at (λ j. carried g c y j +ℤ opens_at (k ∷ ks) y j) y) ys
  opens-rest g c k ks [] above all = tt
  opens-rest g c k ks (y ∷ ys) above all = (
    (λ i. row_at (λ j. opens-next g c k y ks j above all.0 i) y),
    opens-rest g c k ks ys above all.1,
  )

  -- rows of rising keys, none of which is of a lower group than the one whose balance is carried
  rows-run : (g : List Value) (c : ℕ → ℤ) (ks : List RowKey) → IsStrictlySortedBy key_cmp ks
      → AllByRecursion (λ k. is_lt (values_cmp k.group g) ≡ false) ks
      → rows_after n g (made n c) (map (row_with sums) ks)
      ≡ map (λ k. row_at (λ j. carried g c k j +ℤ opens_at ks k j) k) ks
  unfolding IsStrictlySortedBy
  rows-run g c [] rising above = refl
  rows-run g c (k ∷ ks) rising above =
      let own = λ (j : ℕ). carried g c k j +ℤ first k j in
      (λ i. opened n (opening-is g c k i) (row_with sums k)
      ∷ rows_after n k.group (sums_of (opening-is g c k i) (turned n (row_with sums k)))
      (map (row_with sums) ks))
      ∙ ap (λ t. row_at own k ∷ rows_after n k.group t (map (row_with sums) ks))
      (closing-is own k)
      ∙ ap (λ t. row_at own k ∷ t)
      (rows-run k.group (λ j. turn k j +ℤ own j) ks rising.1 (groups-behind k ks rising.0)
      ∙ map-all _ _ ks (opens-rest g c k ks ks above.0 rising.0))
      ∙ (λ i. row_at (λ j. opens-first (carried g c k j) k ks j rising.0 i) k
      ∷ map (λ y. row_at (λ j. carried g c y j +ℤ opens_at (k ∷ ks) y j) y) ks)

  no-lower : (ks : List RowKey) → AllByRecursion (λ k. is_lt (values_cmp k.group []) ≡ false) ks
  no-lower [] = tt
  no-lower (k ∷ ks) = (at k.group, no-lower ks)
    where
      at : (g : List Value) → is_lt (values_cmp g []) ≡ false
      at [] = refl
      at (v ∷ vs) = refl

  -- rows of rising keys, where nothing is carried to the first of them
  pub rows_after-keys : (ks : List RowKey) → IsStrictlySortedBy key_cmp ks
      → rows_after n [] (zeros n) (map (row_with sums) ks)
      ≡ map (λ k. row_at (opens_at ks k) k) ks
  rows_after-keys ks rising =
      rows-run [] (λ j. pos 0) ks rising (no-lower ks)
      ∙ (λ i. map (λ k. row_at (λ j. nothing (is_eq (values_cmp k.group []))
      (opens_at ks k j) i) k) ks)
    where
      nothing : (e : Bool) (x : ℤ) → cond e (pos 0) (pos 0) +ℤ x ≡ x
      nothing true x = omega (arith, ints)
      nothing false x = omega (arith, ints)
