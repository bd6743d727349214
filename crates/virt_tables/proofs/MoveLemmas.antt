-- What records add to the sums of a table, list by list, and how many they are.
use Rattle.std.proofs.Common.{◌≡◌, ℕ, ◌+◌, ◌<◌, ◌≤◌, ◌^◌, Bool, true, false, ◌&&◌, nat_le, cond}
use Rattle.std.proofs.Common.{List, [], ◌∷◌, ◌++◌, map, length, refl, ap, ◌∙◌}
use Rattle.std.proofs.Common.{sym, arith, take, get_or}
use Rattle.std.specs.List.{All, flat_map}
use Rattle.std.proofs.lemmas.List.{map-append, length-map, length-take, take_more, flat_map_more}
use Rattle.std.proofs.lemmas.List.Elements.{filter-append, All-take}
use Rattle.reg_base.specs.declared.records.Rec.{Rec}
use Rattle.reg_base.specs.declared.records.Document.{Document}
use Rattle.reg_base.specs.Records.{Booked, booked_by, matches, chosen_records}
use Rattle.reg_base.specs.Turnovers.{in_range}
use Rattle.row_sums.specs.Sums.{booked}
use Rattle.table_sums.specs.Additions.{Addition}
use Rattle.virt_tables.specs.Bounds.{HasShortRecords}
use Rattle.virt_tables.specs.declared.moves.Moves.{Moves}
use Rattle.virt_tables.specs.Columns.{addition_of, moved, moves_of}
use Rattle.virt_tables.proofs.CutLemmas.{filter-short, flat-short}

module _ (m : Moves) where
  -- whether a record lies in the range
  abbrev lies_in : Booked → Bool
  lies_in b = nat_le m.range.now.from b.rec.period && nat_le b.rec.period m.range.now.to

  -- whether the table counts a record
  abbrev pub is_moved : Booked → Bool
  is_moved b = matches m.ask.now.filter b.rec.values && lies_in b

  -- what a record adds
  abbrev pub adds : Booked → Addition
  adds = addition_of m.balances m.resources m.ask.now.group m.range.now.by

  -- what two lists add
  pub moves-append : (xs ys : List Booked) → moves_of m (xs ++ ys) ≡ moves_of m xs ++ moves_of m ys
  moves-append xs ys =
      ap (λ t. map adds (in_range m.range.now t))
      (filter-append (λ b. matches m.ask.now.filter b.rec.values) xs ys)
      ∙ ap (map adds) (filter-append lies_in (chosen_records m.ask.now.filter xs)
      (chosen_records m.ask.now.filter ys))
      ∙ map-append adds (moved m xs) (moved m ys)

  -- what one record adds
  pub moves-one : (b : Booked) → moves_of m (b ∷ []) ≡ cond (is_moved b) (adds b ∷ []) []
  moves-one b = chosen (matches m.ask.now.filter b.rec.values)
    where
      within : (p : Bool) → map adds (cond p (b ∷ []) []) ≡ cond p (adds b ∷ []) []
      within true = refl
      within false = refl

      chosen : (p : Bool) → map adds (in_range m.range.now (cond p (b ∷ []) []))
          ≡ cond (p && lies_in b) (adds b ∷ []) []
      chosen true = within (lies_in b)
      chosen false = refl

  pub moves-short : (xs : List Booked) → length (moves_of m xs) ≤ length xs
  moves-short xs = omega (
    arith,
    length-map (moved m xs) adds,
    filter-short lies_in (chosen_records m.ask.now.filter xs),
    filter-short (λ b. matches m.ask.now.filter b.rec.values) xs,
  )

  -- the records of a set so far, and one more
  pub set-moves : (number : ℕ) (set : List Rec) (i : ℕ) (r : Rec) → i < length set
      → r ≡ get_or set i r
      → moves_of m (map (booked number) (take i set)) ++ moves_of m (booked number r ∷ [])
      ≡ moves_of m (map (booked number) (take (i + 1) set))
  set-moves number set i r l e =
      sym (moves-append (map (booked number) (take i set)) (booked number r ∷ []))
      ∙ ap (moves_of m) (sym (map-append (booked number) (take i set) (r ∷ [])))
      ∙ ap (λ t. moves_of m (map (booked number) t))
      (ap (λ x. take i set ++ x ∷ []) e ∙ sym (take_more set i r l))

  -- a set is short
  pub set-few-moves : (number : ℕ) (set : List Rec) (i : ℕ) → length set ≤ 5_000
      → 2 ^ 45 + length (moves_of m (map (booked number) (take i set))) ≤ 2 ^ 46
  set-few-moves number set i short = omega (
    arith,
    moves-short (map (booked number) (take i set)),
    length-map (take i set) (booked number),
    length-take i set,
  )

  -- the records of the documents so far, and those of one document more
  pub documents-moves : (f : Document → List Booked) (ds : List Document) (i : ℕ) (d : Document)
      → (i < length ds) × (d ≡ get_or ds i d)
      → moves_of m (flat_map f (take i ds)) ++ moves_of m (f d)
      ≡ moves_of m (flat_map f (take (i + 1) ds))
  documents-moves f ds i d h =
      sym (moves-append (flat_map f (take i ds)) (f d))
      ∙ ap (moves_of m) (flat_map_more f [] (take i ds) d)
      ∙ ap (λ xs. moves_of m (flat_map f xs)) (ap (λ x. take i ds ++ x ∷ []) h.1
      ∙ sym (take_more ds i d h.0))

  -- documents have few records
  pub documents-few-moves : (register : ℕ) (ds : List Document) (i : ℕ)
      → All HasShortRecords ds → length ds < 2 ^ 32
      → length (moves_of m (flat_map (booked_by register) (take i ds))) ≤ 2 ^ 45
  documents-few-moves register ds i h few = omega (
    arith,
    moves-short (flat_map (booked_by register) (take i ds)),
    flat-short register (take i ds) (All-take HasShortRecords i ds h),
    length-take i ds,
  )
