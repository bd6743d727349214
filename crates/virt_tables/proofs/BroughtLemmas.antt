-- What records bring to balances with turnovers, list by list, how much it is, and how large.
use Rattle.std.proofs.Common.{◌≡◌, ℕ, zero, suc, ◌+◌, ◌<◌, ◌≤◌, ◌*◌, ◌^◌, ℤ, pos, ◌+ℤ◌, Bool, true}
use Rattle.std.proofs.Common.{false, cond, ◌&&◌, nat_lt, nat_le, Option, List, [], ◌∷◌, ◌++◌, map}
use Rattle.std.proofs.Common.{length, refl, ap, ◌∙◌, sym, subst, arith, take, drop, get_or}
use Rattle.std.proofs.Common.{length-append}
use Rattle.std.specs.Prelude.{unsigned_abs}
use Rattle.std.specs.List.{All, flat_map, range_with_len}
use Rattle.std.specs.Ordering.{is_eq}
use Rattle.std.proofs.lemmas.Bool.Decides.{nat_tests}
use Rattle.std.proofs.lemmas.Grind.{flat_map-append}
use Rattle.std.proofs.lemmas.List.{append-nil, map-append, length-map, length-take, take_more}
use Rattle.std.proofs.lemmas.List.{flat_map_more}
use Rattle.std.proofs.lemmas.List.Elements.{filter-append, All-take}
use Rattle.std.proofs.lemmas.List.FromFn.{length-map-range_with_len}
use Rattle.reg_base.specs.declared.value.Value.{Value}
use Rattle.reg_base.specs.declared.records.Rec.{Rec}
use Rattle.reg_base.specs.declared.records.Document.{Document}
use Rattle.reg_base.specs.declared.tables.Unit.{Unit as TableUnit}
use Rattle.reg_base.specs.declared.tables.Unit.TheVariants.{Whole}
use Rattle.reg_base.specs.declared.tables.Range.{Range}
use Rattle.reg_base.specs.Records.{Booked, values_cmp, booked_by, matches, chosen_records}
use Rattle.reg_base.specs.Turnovers.{unit_of}
use Rattle.row_sums.specs.Sums.{booked}
use Rattle.table_sums.specs.declared.sums.UnitSums.{UnitSums}
use Rattle.table_sums.specs.Additions.{Addition, number_at, size_at, AreInReach}
use Rattle.table_sums.proofs.ForAbove.{abs-sum}
use Rattle.virt_tables.specs.Bounds.{HasShortRecords}
use Rattle.virt_tables.specs.declared.columns.Column.{Column}
use Rattle.virt_tables.specs.declared.moves.Moves.{Moves}
use Rattle.virt_tables.specs.Columns.{column_at, numbers_of}
use Rattle.virt_tables.specs.Both.{columns_before, columns_moved, columns_none, both_width}
use Rattle.virt_tables.specs.Both.{most_brought, brought}
use Rattle.virt_tables.specs.Both.{before_at, moved_at, ends_at, brings, both_moves, sums_of}
use Rattle.virt_tables.specs.Both.{turned, opening_after, zeros, size_after, IsCarried}
use Rattle.virt_tables.proofs.CutLemmas.{filter-short, flat-short}

-- ---- how many numbers

length-column : (c : Column) (cs : List Column) (n m : ℕ) (rec : Rec)
    → length (numbers_of cs n rec) ≡ m → length (numbers_of (c ∷ cs) n rec) ≡ n + m
length-column c cs n m rec h = omega (
  arith,
  h,
  length-append (map (λ j. column_at c j rec) (range_with_len 0 n)) (numbers_of cs n rec),
  length-map-range_with_len (λ j. column_at c j rec) 0 n,
)

-- four columns have as many numbers as the sums of balances with turnovers
pub length-four : (cs : List Column) (n : ℕ) (rec : Rec) → length cs ≡ 4
    → length (numbers_of cs n rec) ≡ both_width n
length-four [] n rec four = absurd (omega (arith, four))
length-four (a ∷ []) n rec four = absurd (omega (arith, four))
length-four (a ∷ b ∷ []) n rec four = absurd (omega (arith, four))
length-four (a ∷ b ∷ c ∷ []) n rec four = absurd (omega (arith, four))
length-four (a ∷ b ∷ c ∷ d ∷ []) n rec four =
    length-column a (b ∷ c ∷ d ∷ []) n (n + (n + (n + 0))) rec
    (length-column b (c ∷ d ∷ []) n (n + (n + 0)) rec
    (length-column c (d ∷ []) n (n + 0) rec (length-column d [] n 0 rec refl)))
length-four (a ∷ b ∷ c ∷ d ∷ e ∷ es) n rec four = absurd (omega (arith, four))

-- ---- what a record brings

length-one : (p : Bool) (a : Addition) → length (cond p (a ∷ []) []) ≤ 1
length-one true a = omega arith
length-one false a = omega arith

module _ (n : ℕ) (group : Option (List ℕ)) (range : Range) (b : Booked) where
  pub before-short : length (before_at n group range b) ≤ 1
  before-short = length-one (nat_lt b.rec.period range.from)
      (brought columns_before n group Whole b.rec)

  pub moved-short : length (moved_at n group range b) ≤ 1
  moved-short = length-one (nat_le range.from b.rec.period && nat_le b.rec.period range.to)
      (brought columns_moved n group (unit_of range.by b) b.rec)

  -- a record lies before the range or in it, and not both
  one-short : length (before_at n group range b) + length (moved_at n group range b) ≤ 1
  one-short = at (nat_lt b.rec.period range.from)
      (nat_le range.from b.rec.period && nat_le b.rec.period range.to) apart
    where
      apart : nat_lt b.rec.period range.from
          && (nat_le range.from b.rec.period && nat_le b.rec.period range.to) ≡ false
      apart = grind (arith, nat_tests)

      at : (p q : Bool) → p && q ≡ false
          → length (cond p (brought columns_before n group Whole b.rec ∷ []) [])
          + length (cond q (brought columns_moved n group (unit_of range.by b) b.rec ∷ []) []) ≤ 1
      at true true h = absurd (cc)
      at true false h = omega arith
      at false true h = omega arith
      at false false h = omega arith

  pub brings-short : (ends : List TableUnit) → length ends ≤ 2
      → length (brings n group range ends b) ≤ 3
  brings-short ends few = omega (
    arith,
    few,
    one-short,
    length-append (before_at n group range b)
        (moved_at n group range b ++ ends_at n group ends b.rec),
    length-append (moved_at n group range b) (ends_at n group ends b.rec),
    length-map ends (λ u. brought columns_none n group u b.rec),
  )

-- the ends so far, and one more
pub ends-more : (n : ℕ) (group : Option (List ℕ)) (rec : Rec) (ends : List TableUnit) (i : ℕ)
    (u : TableUnit) → i < length ends → u ≡ get_or ends i u
    → ends_at n group (take i ends) rec ++ brought columns_none n group u rec ∷ []
    ≡ ends_at n group (take (i + 1) ends) rec
ends-more n group rec ends i u l e =
    sym (map-append (λ u. brought columns_none n group u rec) (take i ends) (u ∷ []))
    ∙ ap (map (λ u. brought columns_none n group u rec))
    (ap (λ x. take i ends ++ x ∷ []) e ∙ sym (take_more ends i u l))

pub ends-short : (n : ℕ) (group : Option (List ℕ)) (rec : Rec) (ends : List TableUnit) (i : ℕ)
    → length ends ≤ 2 → length (ends_at n group (take i ends) rec) ≤ 2
ends-short n group rec ends i few = omega (
  arith,
  few,
  length-map (take i ends) (λ u. brought columns_none n group u rec),
  length-take i ends,
)

module _ (m : Moves) (ends : List TableUnit) where
  abbrev each : Booked → List Addition
  each = brings m.resources m.ask.now.group m.range.now ends

  -- what two lists bring
  pub both-append : (xs ys : List Booked)
      → both_moves m ends (xs ++ ys) ≡ both_moves m ends xs ++ both_moves m ends ys
  both-append xs ys =
      ap (flat_map each) (filter-append (λ b. matches m.ask.now.filter b.rec.values) xs ys)
      ∙ flat_map-append each (chosen_records m.ask.now.filter xs)
      (chosen_records m.ask.now.filter ys)

  -- what one record brings
  pub both-one : (b : Booked)
      → both_moves m ends (b ∷ []) ≡ cond (matches m.ask.now.filter b.rec.values) (each b) []
  both-one b = at (matches m.ask.now.filter b.rec.values)
    where
      at : (p : Bool) → flat_map each (cond p (b ∷ []) []) ≡ cond p (each b) []
      at true = append-nil (each b)
      at false = refl

  each-short : (xs : List Booked) → length ends ≤ 2 → length (flat_map each xs) ≤ 3 * length xs
  each-short [] few = omega arith
  each-short (b ∷ bs) few = omega (
    arith,
    length-append (each b) (flat_map each bs),
    brings-short m.resources m.ask.now.group m.range.now b ends few,
    each-short bs few,
  )

  pub both-short : (xs : List Booked) → length ends ≤ 2
      → length (both_moves m ends xs) ≤ 3 * length xs
  both-short xs few = omega (
    arith,
    each-short (chosen_records m.ask.now.filter xs) few,
    filter-short (λ b. matches m.ask.now.filter b.rec.values) xs,
  )

  -- the records of a set so far, and one more
  pub set-both : (number : ℕ) (set : List Rec) (i : ℕ) (r : Rec) → i < length set
      → r ≡ get_or set i r
      → both_moves m ends (map (booked number) (take i set))
      ++ both_moves m ends (booked number r ∷ [])
      ≡ both_moves m ends (map (booked number) (take (i + 1) set))
  set-both number set i r l e =
      sym (both-append (map (booked number) (take i set)) (booked number r ∷ []))
      ∙ ap (both_moves m ends) (sym (map-append (booked number) (take i set) (r ∷ [])))
      ∙ ap (λ t. both_moves m ends (map (booked number) t))
      (ap (λ x. take i set ++ x ∷ []) e ∙ sym (take_more set i r l))

  -- a set is short
  pub set-few-both : (number : ℕ) (set : List Rec) (i : ℕ) → length ends ≤ 2
      → length set ≤ 5_000
      → most_brought + length (both_moves m ends (map (booked number) (take i set)))
      ≤ most_brought + 15_000
  set-few-both number set i few short = omega (
    arith,
    both-short (map (booked number) (take i set)) few,
    length-map (take i set) (booked number),
    length-take i set,
  )

  -- the records of the documents so far, and those of one document more
  pub documents-both : (f : Document → List Booked) (ds : List Document) (i : ℕ) (d : Document)
      → (i < length ds) × (d ≡ get_or ds i d)
      → both_moves m ends (flat_map f (take i ds)) ++ both_moves m ends (f d)
      ≡ both_moves m ends (flat_map f (take (i + 1) ds))
  documents-both f ds i d h =
      sym (both-append (flat_map f (take i ds)) (f d))
      ∙ ap (both_moves m ends) (flat_map_more f [] (take i ds) d)
      ∙ ap (λ xs. both_moves m ends (flat_map f xs)) (ap (λ x. take i ds ++ x ∷ []) h.1
      ∙ sym (take_more ds i d h.0))

  -- documents have few records
  pub documents-few-both : (register : ℕ) (ds : List Document) (i : ℕ) → length ends ≤ 2
      → All HasShortRecords ds → length ds < 2 ^ 32
      → length (both_moves m ends (flat_map (booked_by register) (take i ds))) ≤ most_brought
  documents-few-both register ds i few h short = omega (
    arith,
    both-short (flat_map (booked_by register) (take i ds)) few,
    flat-short register (take i ds) (All-take HasShortRecords i ds h),
    length-take i ds,
  )

-- ---- how large a balance can be

abs-sums_of : (xs ys : List ℤ) (j : ℕ) → unsigned_abs (number_at (sums_of xs ys) j)
    ≤ unsigned_abs (number_at xs j) + unsigned_abs (number_at ys j)
abs-sums_of xs ys j = at 0 (length xs) j (omega arith)
  where
    at : (a m i : ℕ) → a + i ≡ j
        → unsigned_abs (number_at (map (λ j. number_at ys j +ℤ number_at xs j)
        (range_with_len a m)) i) ≤ unsigned_abs (number_at xs j) + unsigned_abs (number_at ys j)
    at a zero i same = omega arith
    at a (suc m) zero same =
        let is : a ≡ j = omega (arith, same) in
        subst (λ k. unsigned_abs (number_at ys a +ℤ number_at xs a)
        ≤ unsigned_abs (number_at xs k) + unsigned_abs (number_at ys k)) is
        (omega (arith, abs-sum (number_at ys a) (number_at xs a)))
    at a (suc m) (suc i) same = at (a + 1) m i (omega (arith, same))

-- an opening is no further from 0 than the balance before it and what it adds
pub abs-opening : (n : ℕ) (group : List Value) (balance : List ℤ) (s : UnitSums) (j : ℕ)
    → unsigned_abs (number_at (opening_after n group balance s) j)
    ≤ unsigned_abs (number_at balance j) + unsigned_abs (number_at (take n s.sums) j)
abs-opening n group balance s j = at (is_eq (values_cmp s.group group))
  where
    at : (p : Bool)
        → unsigned_abs (number_at (cond p (sums_of balance (take n s.sums)) (take n s.sums)) j)
        ≤ unsigned_abs (number_at balance j) + unsigned_abs (number_at (take n s.sums) j)
    at true = abs-sums_of balance (take n s.sums) j
    at false = omega arith

-- what is left to be carried, behind a row
pub carried-next : (n : ℕ) (group : List Value) (balance : List ℤ) (s : UnitSums)
    (rest : List UnitSums) → IsCarried n balance (s ∷ rest)
    → IsCarried n (sums_of (opening_after n group balance s) (turned n s)) rest
carried-next n group balance s rest h = λ j. omega (
  arith,
  h j,
  abs-sums_of (opening_after n group balance s) (turned n s) j,
  abs-opening n group balance s j,
)

-- a row alone takes no more
pub carried-one : (n : ℕ) (balance : List ℤ) (s : UnitSums) (rest : List UnitSums)
    → IsCarried n balance (s ∷ rest) → IsCarried n balance (s ∷ [])
carried-one n balance s rest h = λ j. omega (arith, h j)

abs-take : (n : ℕ) (xs : List ℤ) (j : ℕ)
    → unsigned_abs (number_at (take n xs) j) ≤ unsigned_abs (number_at xs j)
abs-take zero xs j = omega arith
abs-take (suc n) [] j = omega arith
abs-take (suc n) (x ∷ xs) zero = omega arith
abs-take (suc n) (x ∷ xs) (suc j) = abs-take n xs j

number-drop : (n : ℕ) (xs : List ℤ) (j : ℕ) → number_at (drop n xs) j ≡ number_at xs (n + j)
number-drop zero xs j = ap (number_at xs) (omega arith)
number-drop (suc n) [] j = refl
number-drop (suc n) (x ∷ xs) j =
    let next : suc (n + j) ≡ suc n + j = omega arith in
    number-drop n xs j ∙ ap (number_at (x ∷ xs)) next

number-turned : (n : ℕ) (s : UnitSums) (j : ℕ)
    → number_at (turned n s) j ≡ number_at s.sums (n + (n + (n + j)))
number-turned n s j =
    number-drop n (drop n (drop n s.sums)) j
    ∙ number-drop n (drop n s.sums) (n + j)
    ∙ number-drop n s.sums (n + (n + j))

size-columns : (n j : ℕ) (rows : List UnitSums)
    → size_after n j rows ≤ size_at j rows + size_at (n + (n + (n + j))) rows
size-columns n j [] = omega arith
size-columns n j (s ∷ rest) = omega (
  arith,
  abs-take n s.sums j,
  ap unsigned_abs (number-turned n s j),
  size-columns n j rest,
)

number-zeros : (a n j : ℕ) → number_at (map (λ j. pos 0) (range_with_len a n)) j ≡ pos 0
number-zeros a zero j = refl
number-zeros a (suc n) zero = refl
number-zeros a (suc n) (suc j) = number-zeros (a + 1) n j

-- nothing is carried to the first row
pub carried-first : (n : ℕ) (rows : List UnitSums) → AreInReach (2 ^ 46) rows
    → IsCarried n (zeros n) rows
carried-first n rows h = λ j. omega (
  arith,
  ap unsigned_abs (number-zeros 0 n j),
  size-columns n j rows,
  h j,
  h (n + (n + (n + j))),
)
