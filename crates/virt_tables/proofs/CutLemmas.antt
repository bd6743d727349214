-- The records that a balance counts, and how many records documents have.
use Rattle.std.proofs.Common.{◌≡◌, ℕ, zero, suc, ◌+◌, ◌<◌, ◌≤◌, ◌*◌, ◌^◌, Bool, true, false}
use Rattle.std.proofs.Common.{◌&&◌, cond, Option, Some, None, List, [], ◌∷◌, ◌++◌, map}
use Rattle.std.proofs.Common.{length, refl, ap, ◌∙◌, sym, arith, take, get_or, length-append}
use Rattle.std.specs.Prelude.{slice_get, unwrap_or}
use Rattle.std.specs.List.{All, filter, flat_map}
use Rattle.std.specs.Option.{option_copied}
use Rattle.std.proofs.lemmas.List.{map-append, length-map, length-take, take_more, flat_map_more}
use Rattle.std.proofs.lemmas.List.Elements.{filter-append, All-take}
use Rattle.std.proofs.lemmas.List.Sums.{length-filter, count_by-le-length}
use Rattle.reg_base.specs.declared.records.Rec.{Rec}
use Rattle.reg_base.specs.declared.records.Document.{Document}
use Rattle.reg_base.specs.declared.records.Filter.{Filter}
use Rattle.reg_base.specs.declared.cut.Cut.{Cut}
use Rattle.reg_base.specs.Cuts.{inside}
use Rattle.reg_base.specs.Records.{Booked, is_posted, booked_by, point_of, matches}
use Rattle.reg_base.specs.Records.{passes_each, chosen_records, records_within, records_of}
use Rattle.reg_base.specs.Records.{without_recorder}
use Rattle.reg_base.specs.Balances.{sum_rows, balance_of}
use Rattle.reg_base.proofs.ForAbove.{balance_of-records_of}
use Rattle.row_sums.proofs.ForAbove.{balance_of-others}
use Rattle.virt_tables.proofs.ListLemmas.{filter-filter}
use Rattle.row_sums.specs.Sums.{booked}
use Rattle.virt_tables.specs.Bounds.{HasShortRecords}
use Rattle.virt_tables.specs.declared.cuts.Query.{Query}
use Rattle.virt_tables.specs.Cuts.{is_other, counts, counted}

-- a filter that all pass
filter-true : {X : Type 0} (xs : List X) → filter (λ _. true) xs ≡ xs
filter-true [] = refl
filter-true (x ∷ xs) = ap (λ t. x ∷ t) (filter-true xs)

pub filter-short : {X : Type 0} (p : X → Bool) (xs : List X) → length (filter p xs) ≤ length xs
filter-short p xs = omega (arith, length-filter p xs, count_by-le-length p xs)

module _ (q : Query) where
  abbrev others : List Booked → List Booked
  others records = filter (λ b. is_other q.skip b.recorder) records

  -- what is counted of two lists
  pub counted-append : (xs ys : List Booked) → counted q (xs ++ ys) ≡ counted q xs ++ counted q ys
  counted-append xs ys =
      ap (λ t. records_within q.cut.now (chosen_records q.filter.now t))
      (filter-append (λ b. is_other q.skip b.recorder) xs ys)
      ∙ ap (records_within q.cut.now)
      (filter-append (λ b. matches q.filter.now b.rec.values) (others xs) (others ys))
      ∙ filter-append (λ b. inside q.cut.now (point_of b))
      (chosen_records q.filter.now (others xs)) (chosen_records q.filter.now (others ys))

  -- what is counted of one record
  pub counted-one : (b : Booked) → counted q (b ∷ []) ≡ cond (counts q b) (b ∷ []) []
  counted-one b =
      chosen (is_other q.skip b.recorder)
    where
      within : (m : Bool) → records_within q.cut.now (cond m (b ∷ []) [])
          ≡ cond (m && inside q.cut.now (point_of b)) (b ∷ []) []
      within true = refl
      within false = refl

      chosen : (s : Bool)
          → records_within q.cut.now (chosen_records q.filter.now (cond s (b ∷ []) []))
          ≡ cond (s && matches q.filter.now b.rec.values && inside q.cut.now (point_of b))
          (b ∷ []) []
      chosen true = within (matches q.filter.now b.rec.values)
      chosen false = refl

  counted-short : (xs : List Booked) → length (counted q xs) ≤ length xs
  counted-short xs = omega (
    arith,
    filter-short (λ b. inside q.cut.now (point_of b)) (chosen_records q.filter.now (others xs)),
    filter-short (λ b. matches q.filter.now b.rec.values) (others xs),
    filter-short (λ b. is_other q.skip b.recorder) xs,
  )

  module _ (number : ℕ) (set : List Rec) where
    -- the records of a set so far, and one more
    pub set-more : (i : ℕ) (r : Rec) → i < length set → r ≡ get_or set i r
        → counted q (map (booked number) (take i set)) ++ counted q (booked number r ∷ [])
        ≡ counted q (map (booked number) (take (i + 1) set))
    set-more i r l e =
        sym (counted-append (map (booked number) (take i set)) (booked number r ∷ []))
        ∙ ap (counted q) (sym (map-append (booked number) (take i set) (r ∷ [])))
        ∙ ap (λ t. counted q (map (booked number) t))
        (ap (λ x. take i set ++ x ∷ []) e ∙ sym (take_more set i r l))

    -- a set is short
    pub set-few : (i : ℕ) → length set ≤ 5_000
        → 2 ^ 45 + length (counted q (map (booked number) (take i set))) ≤ 2 ^ 46
    set-few i short = omega (
      arith,
      counted-short (map (booked number) (take i set)),
      length-map (take i set) (booked number),
      length-take i set,
    )

  -- the records of the documents so far, and those of one document more
  pub documents-more : (f : Document → List Booked) (ds : List Document) (i : ℕ) (d : Document)
      → (i < length ds) × (d ≡ get_or ds i d)
      → counted q (flat_map f (take i ds)) ++ counted q (f d)
      ≡ counted q (flat_map f (take (i + 1) ds))
  documents-more f ds i d h =
      sym (counted-append (flat_map f (take i ds)) (f d))
      ∙ ap (counted q) (flat_map_more f [] (take i ds) d)
      ∙ ap (λ xs. counted q (flat_map f xs)) (ap (λ x. take i ds ++ x ∷ []) h.1
      ∙ sym (take_more ds i d h.0))

-- where all is asked for and nothing is left out, all records inside the cut are counted
pub rows-all : (q : Query) (n : ℕ) (cut : Cut) (records : List Booked) → q.resources ≡ n
    → option_copied q.by ≡ None → q.filter.now.lists ≡ [] → q.cut.now ≡ cut → q.skip ≡ None
    → sum_rows q.resources (option_copied q.by) (counted q records)
    ≡ sum_rows n None (records_within cut records)
rows-all q n cut records count by lists within skip =
    (λ i. sum_rows (count i) (by i) (filter (λ b. inside (within i) (point_of b))
    (filter (λ b. passes_each (lists i) b.rec.values)
    (filter (λ b. is_other (skip i) b.recorder) records))))
    ∙ ap (λ t. sum_rows n None (records_within cut t))
    (filter-true (filter (λ _. true) records) ∙ filter-true records)

-- where one document is left out, the rows are those of the register's balance without it
pub rows-others : (q : Query) (n register : ℕ) (group : List ℕ) (asked : Filter) (cut : Cut)
    (skip : ℕ) (documents : List Document) → q.resources ≡ n → option_copied q.by ≡ Some group
    → q.filter.now ≡ asked → q.cut.now ≡ cut → q.skip ≡ Some skip
    → sum_rows q.resources (option_copied q.by)
    (counted q (flat_map (booked_by register) documents))
    ≡ balance_of n (without_recorder skip (records_of register documents)) asked (Some group) cut
rows-others q n register group asked cut skip documents count by chosen within other =
    (λ i. sum_rows (count i) (by i) (filter (λ b. inside (within i) (point_of b))
    (filter (λ b. matches (chosen i) b.rec.values)
    (filter (λ b. is_other (other i) b.recorder) (flat_map (booked_by register) documents)))))
    ∙ sym (balance_of-others asked (Some group) cut skip n register documents)

sets-short : (sets : List (List Rec)) (i : ℕ) → All (λ s. length s ≤ 5_000) sets
    → length (unwrap_or (slice_get sets i) []) ≤ 5_000
sets-short [] i h = omega arith
sets-short (s ∷ ss) zero h = h 0 s (omega arith)
sets-short (s ∷ ss) (suc i) h = sets-short ss i (λ k d l. h (suc k) d (omega arith))

booked-short : (register : ℕ) (d : Document) → HasShortRecords d
    → length (booked_by register d) ≤ 5_000
booked-short register d h = at (is_posted d.doc.state && d.doc.active)
  where
    at : (b : Bool) → length (cond b
        (map (booked d.doc.number) (unwrap_or (slice_get d.sets.registers register) [])) []) ≤ 5_000
    at true = omega (
      arith,
      length-map (unwrap_or (slice_get d.sets.registers register) []) (booked d.doc.number),
      sets-short d.sets.registers register h,
    )
    at false = omega arith

pub flat-short : (register : ℕ) (ds : List Document) → All HasShortRecords ds
    → length (flat_map (booked_by register) ds) ≤ 5_000 * length ds
flat-short register [] h = omega arith
flat-short register (d ∷ ds) h = omega (
  arith,
  length-append (booked_by register d) (flat_map (booked_by register) ds),
  booked-short register d (h 0 d (omega arith)),
  flat-short register ds (λ k x l. h (suc k) x (omega arith)),
)

-- documents have few records
pub documents-few : (q : Query) (register : ℕ) (ds : List Document) (i : ℕ)
    → All HasShortRecords ds → length ds < 2 ^ 32
    → length (counted q (flat_map (booked_by register) (take i ds))) ≤ 2 ^ 45
documents-few q register ds i h few = omega (
  arith,
  counted-short q (flat_map (booked_by register) (take i ds)),
  flat-short register (take i ds) (All-take HasShortRecords i ds h),
  length-take i ds,
)

-- where nothing is left out, the rows are those of the register's balance
pub rows-asked : (q : Query) (n register : ℕ) (group : Option (List ℕ)) (asked : Filter)
    (cut : Cut) (documents : List Document) → q.resources ≡ n → option_copied q.by ≡ group
    → q.filter.now ≡ asked → q.cut.now ≡ cut → q.skip ≡ None
    → sum_rows q.resources (option_copied q.by)
    (counted q (flat_map (booked_by register) documents))
    ≡ balance_of n (records_of register documents) asked group cut
rows-asked q n register group asked cut documents count by chosen within skip =
    (λ i. sum_rows (count i) (by i) (filter (λ b. inside (within i) (point_of b))
    (filter (λ b. matches (chosen i) b.rec.values)
    (filter (λ b. is_other (skip i) b.recorder) (flat_map (booked_by register) documents)))))
    ∙ ap (λ t. balance_of n t asked group cut)
    (filter-true (flat_map (booked_by register) documents))
    ∙ ap (sum_rows n group)
    (filter-filter (λ b. inside cut (point_of b)) (λ b. matches asked b.rec.values)
    (flat_map (booked_by register) documents))
    ∙ sym (balance_of-records_of n register documents asked group cut)
