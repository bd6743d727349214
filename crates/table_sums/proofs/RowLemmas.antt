-- Rows by key, put and looked for.
use Rattle.std.proofs.Common.{◌≡◌, ℤ, Bool, true, false, ◌||◌, cond, Option, None}
use Rattle.std.proofs.Common.{Some, List, [], ◌∷◌, map, refl, ap, ◌∙◌, sym}
use Rattle.std.specs.Map.{lookup, set_value}
use Rattle.std.specs.List.{list_any, AllByRecursion}
use Rattle.std.specs.List.Sorted.{IsStrictlySortedBy}
use Rattle.std.specs.Ordering.{match_ordering, is_eq, ordering_reverse}
use Rattle.std.specs.BTreeMap.{insert_entry}
use Rattle.std.specs.declared.cmp.Ordering.{Ordering}
use Rattle.std.specs.declared.cmp.Ordering.TheVariants.{Less, Equal, Greater}
use Rattle.std.specs.declared.vec.Vec.{Vec}
use Rattle.reg_base.specs.declared.value.Value.{Value}
use Rattle.reg_base.specs.declared.tables.Unit.{Unit}
use Rattle.reg_base.specs.Records.{put_once}
use Rattle.reg_base.specs.Turnovers.{RowKey, key_cmp}
use Rattle.reg_base.proofs.ForTables.{key_cmp_total, key_cmp_exact}
use Rattle.table_sums.specs.declared.sums.UnitSums.{UnitSums}
use Rattle.table_sums.specs.Additions.{row_with}
use Rattle.table_sums.specs.Rows.{key_seen, rows_of}

-- the key of a row
abbrev pub row_key : UnitSums → RowKey
row_key r = record { group = r.group; unit = r.unit }

-- the row of a key and its sums
abbrev pub row : RowKey → List ℤ → UnitSums
row k v = record { group = k.group; unit = k.unit; sums = v }

-- a row put into its place among rows: an equal key takes its sums
abbrev pub with_row : RowKey → List ℤ → List UnitSums → List UnitSums
with_row k v [] = row k v ∷ []
with_row k v (r ∷ rs) = match_ordering (key_cmp k (row_key r)) (row k v ∷ r ∷ rs)
    (row (row_key r) v ∷ rs) (r ∷ with_row k v rs)

-- the sums of the first row of a key, changed
abbrev pub set_row : RowKey → List ℤ → List UnitSums → List UnitSums
set_row k v [] = []
set_row k v (r ∷ rs) =
    cond (is_eq (key_cmp k (row_key r))) (row (row_key r) v ∷ rs) (r ∷ set_row k v rs)

-- the sums of the first row of a key
abbrev pub found_at : RowKey → List UnitSums → Option (List ℤ)
found_at k [] = None
found_at k (r ∷ rs) = cond (is_eq (key_cmp k (row_key r))) (Some r.sums) (found_at k rs)

-- the sums that a look-up found
abbrev pub sums_seen : {B : Type 0} → Option (Vec ℤ B) → Option (List ℤ)
sums_seen None = None
sums_seen (Some v) = Some v.items

-- ---- a map's entries, seen as rows

module _ {A B : Type 0} (k : Vec Value A × Unit) where
  -- an entry put into its place
  pub rows_of-insert_entry : (cmp : Vec Value A × Unit → Vec Value A × Unit → Ordering)
      → ((x y : Vec Value A × Unit) → cmp x y ≡ key_cmp (key_seen x) (key_seen y))
      → (es : List ((Vec Value A × Unit) × Vec ℤ B)) (v : Vec ℤ B)
      → rows_of (insert_entry cmp es k v) ≡ with_row (key_seen k) v.items (rows_of es)
  rows_of-insert_entry cmp same [] v = refl
  rows_of-insert_entry cmp same (e ∷ es) v =
      ap (λ r. rows_of (match_ordering r ((k, v) ∷ e ∷ es) ((e.0, v) ∷ es)
      (e ∷ insert_entry cmp es k v))) (same k e.0)
      ∙ at (rows_of-insert_entry cmp same es v) (key_cmp (key_seen k) (key_seen e.0))
    where
      at : rows_of (insert_entry cmp es k v) ≡ with_row (key_seen k) v.items (rows_of es)
          → (r : Ordering)
          → rows_of (match_ordering r ((k, v) ∷ e ∷ es) ((e.0, v) ∷ es)
          (e ∷ insert_entry cmp es k v))
          ≡ match_ordering r (row (key_seen k) v.items ∷ rows_of (e ∷ es))
          (row (key_seen e.0) v.items ∷ rows_of es)
          (row (key_seen e.0) e.1.items ∷ with_row (key_seen k) v.items (rows_of es))
      at ih Less = refl
      at ih Equal = refl
      at ih Greater = ap (λ t. row (key_seen e.0) e.1.items ∷ t) ih

module _ {A B : Type 0} (k : RowKey) (test : Vec Value A × Unit → Bool)
    (same : (x : Vec Value A × Unit) → test x ≡ is_eq (key_cmp k (key_seen x))) where
  pub sums_seen-lookup : (es : List ((Vec Value A × Unit) × Vec ℤ B))
      → sums_seen (lookup test es) ≡ found_at k (rows_of es)
  sums_seen-lookup [] = refl
  sums_seen-lookup (e ∷ es) =
      ap (λ b. sums_seen (cond b (Some e.1) (lookup test es))) (same e.0)
      ∙ at (sums_seen-lookup es) (is_eq (key_cmp k (key_seen e.0)))
    where
      at : sums_seen (lookup test es) ≡ found_at k (rows_of es) → (b : Bool)
          → sums_seen (cond b (Some e.1) (lookup test es))
          ≡ cond b (Some e.1.items) (found_at k (rows_of es))
      at ih true = refl
      at ih false = ih

  -- a value changed
  pub rows_of-set_value : (es : List ((Vec Value A × Unit) × Vec ℤ B)) (w : Vec ℤ B)
      → rows_of (set_value test es w) ≡ set_row k w.items (rows_of es)
  rows_of-set_value [] w = refl
  rows_of-set_value (e ∷ es) w =
      ap (λ b. rows_of (cond b ((e.0, w) ∷ es) (e ∷ set_value test es w))) (same e.0)
      ∙ at (rows_of-set_value es w) (is_eq (key_cmp k (key_seen e.0)))
    where
      at : rows_of (set_value test es w) ≡ set_row k w.items (rows_of es) → (b : Bool)
          → rows_of (cond b ((e.0, w) ∷ es) (e ∷ set_value test es w))
          ≡ cond b (row (key_seen e.0) w.items ∷ rows_of es)
          (row (key_seen e.0) e.1.items ∷ set_row k w.items (rows_of es))
      at ih true = refl
      at ih false = ap (λ t. row (key_seen e.0) e.1.items ∷ t) ih

-- ---- keys in order, and whether one is among them

-- keys in order, each once
abbrev pub IsRising : List RowKey → Type 0
IsRising keys = IsStrictlySortedBy key_cmp keys

-- whether a key is among others
abbrev pub is_among : RowKey → List RowKey → Bool
is_among k keys = list_any (λ g. is_eq (key_cmp k g)) keys

all-below : (k x : RowKey) (ys : List RowKey) → key_cmp k x ≡ Less
    → AllByRecursion (λ y. key_cmp x y ≡ Less) ys → AllByRecursion (λ y. key_cmp k y ≡ Less) ys
all-below k x [] h all = tt
all-below k x (y ∷ ys) h all = (key_cmp_total.trans k x y h all.0, all-below k x ys h all.1)

all-same : (k x : RowKey) (ys : List RowKey) → key_cmp k x ≡ Equal
    → AllByRecursion (λ y. key_cmp x y ≡ Less) ys → AllByRecursion (λ y. key_cmp k y ≡ Less) ys
all-same k x [] h all = tt
all-same k x (y ∷ ys) h all = (key_cmp_total.congr k x y h ∙ all.0, all-same k x ys h all.1)

or-same : (p q : Bool) → p || q ≡ p || (p || q)
or-same true q = refl
or-same false q = refl

or-swap : (p q r : Bool) → p || (q || r) ≡ q || (p || r)
or-swap true true r = refl
or-swap true false r = refl
or-swap false q r = refl

pub or-false : (p q : Bool) → p || q ≡ false → (p ≡ false) × (q ≡ false)
or-false true q h = absurd (cc)
or-false false q h = (refl, h)

pub eq-flip : (a b : RowKey) → is_eq (key_cmp a b) ≡ is_eq (key_cmp b a)
eq-flip a b = ap is_eq (key_cmp_total.antisymm a b) ∙ turned (key_cmp b a)
  where
    turned : (r : Ordering) → is_eq (ordering_reverse r) ≡ is_eq r
    turned Less = refl
    turned Equal = refl
    turned Greater = refl

pub among-put_once : (k x : RowKey) (ys : List RowKey)
    → is_among k (put_once key_cmp x ys) ≡ is_eq (key_cmp k x) || is_among k ys
among-put_once k x [] = refl
among-put_once k x (y ∷ ys) = at (among-put_once k x ys) (key_cmp x y) refl
  where
    at : is_among k (put_once key_cmp x ys) ≡ is_eq (key_cmp k x) || is_among k ys
        → (r : Ordering) → key_cmp x y ≡ r
        → is_among k (match_ordering r (x ∷ y ∷ ys) (y ∷ ys) (y ∷ put_once key_cmp x ys))
        ≡ is_eq (key_cmp k x) || (is_eq (key_cmp k y) || is_among k ys)
    at ih Less p = refl
    at ih Equal p = or-same (is_eq (key_cmp k y)) (is_among k ys)
        ∙ ap (λ z. is_eq (key_cmp k z) || (is_eq (key_cmp k y) || is_among k ys))
        (sym (key_cmp_exact x y p))
    at ih Greater p = ap (λ t. is_eq (key_cmp k y) || t) ih
        ∙ or-swap (is_eq (key_cmp k y)) (is_eq (key_cmp k x)) (is_among k ys)

-- ---- rows of keys

module _ (f : RowKey → List ℤ) (k : RowKey) where
  found-above : (ks : List RowKey) → AllByRecursion (λ y. key_cmp k y ≡ Less) ks
      → found_at k (map (row_with f) ks) ≡ None
  found-above [] all = refl
  found-above (x ∷ xs) all =
      ap (λ r. cond (is_eq r) (Some (f x)) (found_at k (map (row_with f) xs))) all.0
      ∙ found-above xs all.1

  -- the sums that are found are those of the key
  pub found-is : (v : List ℤ) (ks : List RowKey) → found_at k (map (row_with f) ks) ≡ Some v
      → v ≡ f k
  found-is v [] h = absurd (cc)
  found-is v (x ∷ xs) h = at (found-is v xs) (key_cmp k x) refl h
    where
      at : (found_at k (map (row_with f) xs) ≡ Some v → v ≡ f k) → (r : Ordering)
          → key_cmp k x ≡ r
          → cond (is_eq r) (Some (f x)) (found_at k (map (row_with f) xs)) ≡ Some v → v ≡ f k
      at ih Less p e = ih e
      at ih Equal p e = (let same : f x ≡ v = cc in sym same) ∙ ap f (sym (key_cmp_exact k x p))
      at ih Greater p e = ih e

  -- a key whose sums are not found is not among the keys
  pub found-none : (ks : List RowKey) → found_at k (map (row_with f) ks) ≡ None
      → is_among k ks ≡ false
  found-none [] h = refl
  found-none (x ∷ xs) h = at (found-none xs) (is_eq (key_cmp k x)) h
    where
      at : (found_at k (map (row_with f) xs) ≡ None → is_among k xs ≡ false) → (b : Bool)
          → cond b (Some (f x)) (found_at k (map (row_with f) xs)) ≡ None
          → b || is_among k xs ≡ false
      at ih true e = absurd (cc)
      at ih false e = ih e

-- a row put among rows, where the sums of all other keys are as before
module _ (f h : RowKey → List ℤ) (k : RowKey)
    (others : (g : RowKey) → is_eq (key_cmp k g) ≡ false → f g ≡ h g) where
  rows-above : (ks : List RowKey) → AllByRecursion (λ y. key_cmp k y ≡ Less) ks
      → map (row_with f) ks ≡ map (row_with h) ks
  rows-above [] all = refl
  rows-above (x ∷ xs) all =
      λ i. row x (others x (ap is_eq all.0) i) ∷ rows-above xs all.1 i

  -- the rows behind an equal key, and its own
  rows-equal : (x : RowKey) (xs : List RowKey) → key_cmp k x ≡ Equal
      → AllByRecursion (λ y. key_cmp x y ≡ Less) xs
      → row x (h k) ∷ map (row_with f) xs ≡ row x (h x) ∷ map (row_with h) xs
  rows-equal x xs p all =
      λ i. row x (h (key_cmp_exact k x p i)) ∷ rows-above xs (all-same k x xs p all) i

  pub with_row-keys : (ks : List RowKey) → IsRising ks
      → with_row k (h k) (map (row_with f) ks) ≡ map (row_with h) (put_once key_cmp k ks)
  unfolding IsStrictlySortedBy
  with_row-keys [] rise = refl
  with_row-keys (x ∷ xs) rise = at (with_row-keys xs rise.1) (key_cmp k x) refl
    where
      at : with_row k (h k) (map (row_with f) xs) ≡ map (row_with h) (put_once key_cmp k xs)
          → (r : Ordering) → key_cmp k x ≡ r
          → match_ordering r (row k (h k) ∷ map (row_with f) (x ∷ xs))
          (row x (h k) ∷ map (row_with f) xs)
          (row x (f x) ∷ with_row k (h k) (map (row_with f) xs))
          ≡ map (row_with h) (match_ordering r (k ∷ x ∷ xs) (x ∷ xs) (x ∷ put_once key_cmp k xs))
      at ih Less p =
          ap (λ t. row k (h k) ∷ t) (rows-above (x ∷ xs) (p, all-below k x xs p rise.0))
      at ih Equal p = rows-equal x xs p rise.0
      at ih Greater p = λ i. row x (others x (ap is_eq p) i) ∷ ih i

  -- a row that stands is changed where it would be put
  pub set_row-keys : (v : List ℤ) (ks : List RowKey) → IsRising ks
      → found_at k (map (row_with f) ks) ≡ Some v
      → set_row k (h k) (map (row_with f) ks) ≡ map (row_with h) (put_once key_cmp k ks)
  unfolding IsStrictlySortedBy
  set_row-keys v [] rise e = absurd (cc)
  set_row-keys v (x ∷ xs) rise e = at (set_row-keys v xs rise.1) (key_cmp k x) refl e
    where
      at : (found_at k (map (row_with f) xs) ≡ Some v
          → set_row k (h k) (map (row_with f) xs) ≡ map (row_with h) (put_once key_cmp k xs))
          → (r : Ordering) → key_cmp k x ≡ r
          → cond (is_eq r) (Some (f x)) (found_at k (map (row_with f) xs)) ≡ Some v
          → cond (is_eq r) (row x (h k) ∷ map (row_with f) xs)
          (row x (f x) ∷ set_row k (h k) (map (row_with f) xs))
          ≡ map (row_with h) (match_ordering r (k ∷ x ∷ xs) (x ∷ xs) (x ∷ put_once key_cmp k xs))
      at ih Less p e =
          let none = found-above f k xs (all-below k x xs p rise.0) in
          absurd (let clash : None ≡ Some v = sym none ∙ e in cc)
      at ih Equal p e = rows-equal x xs p rise.0
      at ih Greater p e = λ i. row x (others x (ap is_eq p) i) ∷ ih e i
