-- Numbers added to rows.
use Rattle.std.proofs.Common.{◌≡◌, ℕ, zero, suc, ◌+◌, ◌<◌, ◌≤◌, ℤ, pos, ◌+ℤ◌, Bool}
use Rattle.std.proofs.Common.{false, cond, None, Some, List, [], ◌∷◌, ◌++◌, map, length, refl, ap}
use Rattle.std.proofs.Common.{◌∙◌, sym, subst, arith, append_assoc, length-append}
use Rattle.std.specs.Map.{lookup, set_value}
use Rattle.std.specs.List.{range_with_len}
use Rattle.std.specs.List.Sorted.{IsStrictlySortedBy}
use Rattle.std.specs.Ordering.{is_eq}
use Rattle.std.specs.declared.vec.Vec.{Vec}
use Rattle.std.proofs.lemmas.Int.{ints}
use Rattle.std.proofs.lemmas.Cmp.{tied_itself}
use Rattle.std.proofs.lemmas.List.{append-nil, length-map}
use Rattle.std.proofs.lemmas.List.FromFn.{length-range_with_len}
use Rattle.reg_base.specs.declared.value.Value.{Value}
use Rattle.reg_base.specs.declared.tables.Unit.{Unit}
use Rattle.reg_base.specs.Records.{put_once}
use Rattle.reg_base.specs.Sums.{sum_over}
use Rattle.reg_base.specs.Turnovers.{RowKey, key_cmp}
use Rattle.reg_base.proofs.ForAbove.{put_once-rising}
use Rattle.reg_base.proofs.ForTables.{put_once-put_once, key_cmp_total, key_cmp_exact}
use Rattle.table_sums.specs.declared.sums.UnitSums.{UnitSums}
use Rattle.table_sums.specs.Additions.{Addition, number_at, added_at, sums_at, row_with}
use Rattle.table_sums.specs.Additions.{keys_in, rows_over, IsInReach, AreInReach, Adds}
use Rattle.table_sums.specs.Rows.{key_seen, rows_of}
use Rattle.table_sums.proofs.RowLemmas.{with_row, set_row, found_at, sums_seen}
use Rattle.table_sums.proofs.RowLemmas.{sums_seen-lookup, rows_of-set_value, IsRising, is_among}
use Rattle.table_sums.proofs.RowLemmas.{or-false, eq-flip, among-put_once, found-is, found-none}
use Rattle.table_sums.proofs.RowLemmas.{with_row-keys, set_row-keys}
use Rattle.table_sums.proofs.ReachLemmas.{reach-more, reach-with_row, reach-set_row}

-- ---- numbers by column

pub range-get : (f : ℕ → ℤ) (j a n : ℕ) → j < n
    → number_at (map f (range_with_len a n)) j ≡ f (a + j)
range-get f j a zero h = absurd (omega arith)
range-get f zero a (suc n) h = ap f (omega arith)
range-get f (suc j) a (suc n) h = range-get f j (a + 1) n (omega arith) ∙ ap f (omega arith)

pub range-same : (f g : ℕ → ℤ) (m a n : ℕ) → a + n ≤ m → ((j : ℕ) → j < m → f j ≡ g j)
    → map f (range_with_len a n) ≡ map g (range_with_len a n)
range-same f g m a zero h e = refl
range-same f g m a (suc n) h e =
    λ i. e a (omega arith) i ∷ range-same f g m (a + 1) n (omega arith) e i

-- numbers are those of their columns
numbers-range : (f : ℕ → ℤ) (a : ℕ) (xs : List ℤ) → ((j : ℕ) → f (a + j) ≡ number_at xs j)
    → map f (range_with_len a (length xs)) ≡ xs
numbers-range f a [] h = refl
numbers-range f a (x ∷ xs) h =
    let first : f a ≡ x = ap f (omega arith) ∙ h 0 in
    let others : (j : ℕ) → f ((a + 1) + j) ≡ number_at xs j = λ j. ap f (omega arith) ∙ h (suc j) in
    λ i. first i ∷ numbers-range f (a + 1) xs others i

-- ---- additions

pub keys_in-rising : (bs : List Addition) → IsRising (keys_in bs)
unfolding IsStrictlySortedBy
keys_in-rising [] = tt
keys_in-rising (b ∷ bs) =
    put_once-rising key_cmp_total key_cmp_exact b.key (keys_in bs) (keys_in-rising bs)

-- nothing is added to a key that is not among the keys
absent : (k : RowKey) (j : ℕ) (bs : List Addition) → is_among k (keys_in bs) ≡ false
    → sum_over (added_at k j) bs ≡ pos 0
absent k j [] h = refl
absent k j (b ∷ bs) h =
    let parts = or-false (is_eq (key_cmp k b.key)) (is_among k (keys_in bs))
    (sym (among-put_once k b.key (keys_in bs)) ∙ h) in
    let other : is_eq (key_cmp b.key k) ≡ false = eq-flip b.key k ∙ parts.0 in
    λ i. cond (other i) (number_at b.numbers j) (pos 0) +ℤ absent k j bs parts.1 i

zero-plus : (x : ℤ) → x ≡ pos 0 +ℤ x
zero-plus x = omega (arith, ints)

plus-zero : (x y : ℤ) → y ≡ pos 0 → x +ℤ y ≡ x
plus-zero x y h = omega (arith, ints)

-- one addition more, behind the others
keys_in-push : (bs : List Addition) (a : Addition)
    → keys_in (bs ++ a ∷ []) ≡ put_once key_cmp a.key (keys_in bs)
keys_in-push [] a = refl
keys_in-push (b ∷ bs) a =
    ap (put_once key_cmp b.key) (keys_in-push bs a)
    ∙ put_once-put_once key_cmp_total key_cmp_exact b.key a.key (keys_in bs)

sum_over-push : (f : Addition → ℤ) (bs : List Addition) (a : Addition)
    → sum_over f (bs ++ a ∷ []) ≡ f a +ℤ sum_over f bs
sum_over-push f [] a = refl
sum_over-push f (b ∷ bs) a =
    ap (λ t. f b +ℤ t) (sum_over-push f bs a) ∙ swapped (f b) (f a) (sum_over f bs)
  where
    swapped : (x y z : ℤ) → x +ℤ (y +ℤ z) ≡ y +ℤ (x +ℤ z)
    swapped x y z = omega (arith, ints)

rows_over-push : (n : ℕ) (bs : List Addition) (a : Addition)
    → rows_over n (bs ++ a ∷ []) ≡ rows_over n (a ∷ bs)
rows_over-push n bs a =
    λ i. map (row_with (λ k. map (λ j. sum_over-push (added_at k j) bs a i) (range_with_len 0 n)))
    (keys_in-push bs a i)

module _ (n : ℕ) (bs : List Addition) (k : RowKey) (ns : List ℤ) where
  abbrev one : Addition
  one = record { key = k; numbers = ns }

  -- the sums of other keys stay
  others : (g : RowKey) → is_eq (key_cmp k g) ≡ false → sums_at n bs g ≡ sums_at n (one ∷ bs) g
  others g e =
      λ i. map (λ j. same j i) (range_with_len 0 n)
    where
      same : (j : ℕ) → sum_over (added_at g j) bs ≡ added_at g j one +ℤ sum_over (added_at g j) bs
      same j = zero-plus (sum_over (added_at g j) bs)
          ∙ ap (λ b. cond b (number_at ns j) (pos 0) +ℤ sum_over (added_at g j) bs) (sym e)

  -- what is added to its own key
  own : (j : ℕ) → number_at ns j ≡ added_at k j one
  own j = ap (λ r. cond (is_eq r) (number_at ns j) (pos 0)) (sym (tied_itself key_cmp_total k))

  -- sums that stand are raised
  own-raised : (v : List ℤ) → v ≡ sums_at n bs k
      → map (λ j. number_at ns j +ℤ number_at v j) (range_with_len 0 (length v))
      ≡ sums_at n (one ∷ bs) k
  own-raised v e =
      ap (λ m. map (λ j. number_at ns j +ℤ number_at v j) (range_with_len 0 m)) long
      ∙ range-same (λ j. number_at ns j +ℤ number_at v j)
      (λ j. added_at k j one +ℤ sum_over (added_at k j) bs) n 0 n (omega arith)
      (λ j l i. own j i +ℤ column j l i)
    where
      long : length v ≡ n
      long = ap length e ∙ length-map (range_with_len 0 n) (λ j. sum_over (added_at k j) bs)
          ∙ length-range_with_len 0 n

      column : (j : ℕ) → j < n → number_at v j ≡ sum_over (added_at k j) bs
      column j l = ap (λ s. number_at s j) e
          ∙ range-get (λ j. sum_over (added_at k j) bs) j 0 n l
          ∙ ap (λ m. sum_over (added_at k m) bs) (omega arith)

module _ (bs : List Addition) (k : RowKey) (ns : List ℤ) where
  -- the first numbers of a key are its sums
  own-made : is_among k (keys_in bs) ≡ false
      → ns ≡ sums_at (length ns) (record { key = k; numbers = ns } ∷ bs) k
  own-made none =
      sym (numbers-range
      (λ j. added_at k j (record { key = k; numbers = ns }) +ℤ sum_over (added_at k j) bs) 0 ns
      (λ j. ap (λ m. added_at k m (record { key = k; numbers = ns })
      +ℤ sum_over (added_at k m) bs) (omega arith)
      ∙ plus-zero (added_at k j (record { key = k; numbers = ns })) (sum_over (added_at k j) bs)
      (absent k j bs none)
      ∙ sym (own 0 bs k ns j)))

module _ (k : RowKey) (ns : List ℤ) (small : (j : ℕ) → IsInReach 1 (number_at ns j)) where
  abbrev added : List Addition
  added = record { key = k; numbers = ns } ∷ []

  -- numbers added to a row that stands
  pub Adds-found : {A B : Type 0} (test : Vec Value A × Unit → Bool)
      → ((x : Vec Value A × Unit) → test x ≡ is_eq (key_cmp k (key_seen x)))
      → (es new : List ((Vec Value A × Unit) × Vec ℤ B)) (v w : Vec ℤ B)
      → lookup test es ≡ Some v
      → w.items ≡ map (λ j. number_at ns j +ℤ number_at v.items j)
      (range_with_len 0 (length v.items))
      → new ≡ set_value test es w → Adds (length ns) added (rows_of es) (rows_of new)
  Adds-found test same es new v w e value next =
      let found : found_at k (rows_of es) ≡ Some v.items =
      sym (sums_seen-lookup k test same es) ∙ ap sums_seen e in
      let rows : rows_of new ≡ set_row k w.items (rows_of es) =
      ap rows_of next ∙ rows_of-set_value k test same es w in
      record {
        sums = λ bs old. rows ∙ sums bs old found;
        reach = λ count h. subst (AreInReach (count + 1)) (sym rows)
            (reach-set_row count k ns (rows_of es) small h (length v.items) v.items w.items found
            value);
      }
    where
      sums : (bs : List Addition) → rows_of es ≡ rows_over (length ns) bs
          → found_at k (rows_of es) ≡ Some v.items
          → set_row k w.items (rows_of es) ≡ rows_over (length ns) (bs ++ added)
      sums bs old found =
          let there : found_at k (rows_over (length ns) bs) ≡ Some v.items =
          ap (found_at k) (sym old) ∙ found in
          let is : v.items ≡ sums_at (length ns) bs k =
          found-is (sums_at (length ns) bs) k v.items (keys_in bs) there in
          (λ i. set_row k ((value ∙ own-raised (length ns) bs k ns v.items is) i) (old i))
          ∙ set_row-keys (sums_at (length ns) bs)
          (sums_at (length ns) (record { key = k; numbers = ns } ∷ bs)) k
          (others (length ns) bs k ns) v.items (keys_in bs) (keys_in-rising bs) there
          ∙ sym (rows_over-push (length ns) bs (record { key = k; numbers = ns }))

  -- numbers of a key that has no row
  pub Adds-made : (old new : List UnitSums) → found_at k old ≡ None → new ≡ with_row k ns old
      → Adds (length ns) added old new
  Adds-made old new none next = record {
    sums = sums;
    reach = λ count h. subst (AreInReach (count + 1)) (sym next)
        (reach-with_row count k ns old small h);
  }
    where
      sums : (bs : List Addition) → old ≡ rows_over (length ns) bs
          → new ≡ rows_over (length ns) (bs ++ added)
      sums bs same =
          let absent : is_among k (keys_in bs) ≡ false =
          found-none (sums_at (length ns) bs) k (keys_in bs) (ap (found_at k) (sym same) ∙ none) in
          next ∙ (λ i. with_row k (own-made bs k ns absent i) (same i))
          ∙ with_row-keys (sums_at (length ns) bs)
          (sums_at (length ns) (record { key = k; numbers = ns } ∷ bs)) k
          (others (length ns) bs k ns) (keys_in bs) (keys_in-rising bs)
          ∙ sym (rows_over-push (length ns) bs (record { key = k; numbers = ns }))

-- ---- additions one after another

module _ (columns : ℕ) where
  -- nothing added
  pub Adds-none : (rows : List UnitSums) → Adds columns [] rows rows
  Adds-none rows = record {
    sums = λ bs h. h ∙ ap (rows_over columns) (sym (append-nil bs));
    reach = λ count h. reach-more count (count + 0) (omega arith) rows h;
  }

  -- additions one list after another
  pub Adds-both : (xs ys : List Addition) (old mid new : List UnitSums)
      → Adds columns xs old mid → Adds columns ys mid new → Adds columns (xs ++ ys) old new
  Adds-both xs ys old mid new h k = record {
    sums = λ bs e. k.sums (bs ++ xs) (h.sums bs e)
        ∙ ap (rows_over columns) (append_assoc bs xs ys);
    reach = λ count rows. reach-more ((count + length xs) + length ys)
        (count + length (xs ++ ys)) (omega (arith, length-append xs ys)) new
        (k.reach (count + length xs) (h.reach count rows));
  }
