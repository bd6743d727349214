-- Groups with a row more, as the code holds them and as they are defined.
use Rattle.std.proofs.Common.{◌≡◌, ℕ, Bool, true, false, cond, not, List, [], ◌∷◌, ◌++◌}
use Rattle.std.proofs.Common.{map, Option, Some, None, Result, Ok, Err, refl, ap, sym, ◌∙◌}
use Rattle.std.proofs.Common.{◌||◌}
use Rattle.std.specs.Prelude.{reverse}
use Rattle.std.specs.List.{AllByRecursion, list_any}
use Rattle.std.specs.Str.{bytes_eq}
use Rattle.std.proofs.lemmas.Grind.{reverse_onto}
use Rattle.csv.specs.Records.{fields_of}
use Rattle.reg_base.specs.Results.{unless, Gives}
use Rattle.desk_words.specs.declared.request.Post.TheVariants.{Content}
use Rattle.desk_words.specs.declared.request.Request.TheVariants.{Post}
use Rattle.csv_groups.specs.Cells.{Cells}
use Rattle.csv_groups.specs.Groups.{RowGroup, row_key, is_of_group, with_row, check_place}
use Rattle.csv_groups.specs.Groups.{check_head}
use Rattle.csv_groups.specs.Groups.{group_in}
use Rattle.csv_groups.specs.Requests.{IsBatchPost}
use Rattle.csv_groups.specs.Standing.{AreHeld, StandsFor, StandsForLast, alone, closed, has_key_in}
use Rattle.csv_groups.specs.Standing.{is_last_key, with_last}
use Rattle.csv_groups.specs.declared.columns.Columns.{Columns}
use Rattle.csv_groups.specs.declared.fault.RowFault.{RowFault}
use Rattle.csv_groups.specs.declared.fault.RowFault.TheVariants.{Refused, Memory}
use Rattle.csv_groups.specs.declared.fault.RowWhy.TheVariants.{Scattered}
use Rattle.csv_groups.specs.declared.group.Group.{Group}
use Rattle.csv_groups.specs.declared.groups.Groups.{Groups}
use Rattle.csv_groups.specs.declared.groups.Open.{Open}

-- what holds of each of some elements and of one more holds of all
all-more : {X : Type 0} (P : X → Type 0) (xs : List X) (x : X) → AllByRecursion P xs → P x
    → AllByRecursion P (xs ++ x ∷ [])
all-more P [] x all p = (p, tt)
all-more P (y ∷ ys) x all p = (all.0, all-more P ys x all.1 p)

-- the last group, as it is when all its rows have come, is the one that it stands for
closed-stands : (columns : Columns) (last : Open) (group : RowGroup)
    → StandsForLast columns last group → closed last ≡ group_in columns group
closed-stands columns last group h =
    λ i. record { key = h.key i; request = Post (Content (h.content i)) }

module _ (columns : Columns) where
  -- the groups with the last one are all of them, in the order of the file
  pub held-all : (whole : List Group) (last : Option Open) (groups : List RowGroup)
      → AreHeld columns whole last groups
      → with_last whole last ≡ reverse (map (group_in columns) groups)
  held-all whole None [] h = h
  held-all whole None (g ∷ gs) h = absurd h
  held-all whole (Some last) [] h = absurd h
  held-all whole (Some last) (g ∷ gs) h =
      ap (λ w. w ++ closed last ∷ []) h.0
      ∙ ap (λ x. reverse (map (group_in columns) gs) ++ x ∷ []) (closed-stands columns last g h.1)
      ∙ sym (reverse_onto (map (group_in columns) gs) (group_in columns g) [])

  -- and each of them posts a document
  pub held-posts : (whole : List Group) (last : Option Open) (groups : List RowGroup)
      → AreHeld columns whole last groups → AllByRecursion IsBatchPost whole
      → AllByRecursion IsBatchPost (with_last whole last)
  held-posts whole None groups h all = all
  held-posts whole (Some last) [] h all = absurd h
  held-posts whole (Some last) (g ∷ gs) h all =
      all-more IsBatchPost whole (closed last) all (last.content, refl, h.1.formed)

  -- a row of another key than the last group's begins a group
  begins : (whole : List Group) (last : Option Open) (groups : List RowGroup) (cells : Cells)
      → AreHeld columns whole last groups → is_last_key last (row_key columns cells) ≡ false
      → with_row columns cells groups ≡ alone cells ∷ groups
  begins whole None [] cells h other = refl
  begins whole None (g ∷ gs) cells h other = absurd h
  begins whole (Some last) [] cells h other = absurd h
  begins whole (Some last) (g ∷ gs) cells h other =
      let apart : is_of_group columns g cells ≡ false = rw h.1.key at other in
      rw apart refl

  -- and its key must be none of those that came
  asks-new : (whole : List Group) (last : Option Open) (groups : List RowGroup) (row : ℕ)
      (cells : Cells) → AreHeld columns whole last groups
      → is_last_key last (row_key columns cells) ≡ false
      → check_place columns groups row cells
      ≡ unless (not (list_any (λ g. is_of_group columns g cells) groups)) (Refused row Scattered)
  unfolding check_place
  asks-new whole None [] row cells h other = refl
  asks-new whole None (g ∷ gs) row cells h other = absurd h
  asks-new whole (Some last) [] row cells h other = absurd h
  asks-new whole (Some last) (g ∷ gs) row cells h other =
      let apart : is_of_group columns g cells ≡ false = rw h.1.key at other in
      rw apart refl

  -- a key that came
  pub place-scattered : (held : Groups) (groups : List RowGroup) (row : ℕ) (cells : Cells)
      → StandsFor columns held groups → is_last_key held.last (row_key columns cells) ≡ false
      → has_key_in (row_key columns cells) held.keys.keys ≡ true
      → check_place columns groups row cells ≡ Err (Refused row Scattered)
  place-scattered held groups row cells h other came =
      let there : list_any (λ g. is_of_group columns g cells) groups ≡ true =
      sym (h.keys (row_key columns cells)) ∙ came in
      asks-new held.whole held.last groups row cells h.are_held other ∙ rw there refl

  -- a key that did not come
  pub place-new : (held : Groups) (groups : List RowGroup) (row : ℕ) (cells : Cells)
      → StandsFor columns held groups → is_last_key held.last (row_key columns cells) ≡ false
      → has_key_in (row_key columns cells) held.keys.keys ≡ false
      → check_place columns groups row cells ≡ Ok tt
  place-new held groups row cells h other new =
      let absent : list_any (λ g. is_of_group columns g cells) groups ≡ false =
      sym (h.keys (row_key columns cells)) ∙ new in
      asks-new held.whole held.last groups row cells h.are_held other ∙ rw absent refl

  -- a group that was begun
  pub stands-begun : (held new : Groups) (groups : List RowGroup) (cells : Cells) (begun : Open)
      → StandsFor columns held groups → is_last_key held.last (row_key columns cells) ≡ false
      → StandsForLast columns begun (alone cells)
      → new.whole ≡ with_last held.whole held.last → new.last ≡ Some begun
      → ((q : List ℕ) → has_key_in q new.keys.keys
      ≡ cond (bytes_eq begun.key q) true (has_key_in q held.keys.keys))
      → StandsFor columns new (with_row columns cells groups)
  stands-begun held new groups cells begun h other stands whole last keys =
      rw (begins held.whole held.last groups cells h.are_held other) (record {
        are_held = rw last (whole ∙ held-all held.whole held.last groups h.are_held, stands);
        keys = λ q. keys q ∙ rw (stands.key, h.keys q) (joined q);
        formed = rw whole (held-posts held.whole held.last groups h.are_held h.formed);
      })
    where
      joined : (q : List ℕ) → cond (bytes_eq (row_key columns cells) q) true
          (list_any (λ group. bytes_eq (row_key columns group.first) q) groups)
          ≡ list_any (λ group. bytes_eq (row_key columns group.first) q) (alone cells ∷ groups)
      joined q = at (bytes_eq (row_key columns cells) q)
        where
          at : (b : Bool) → cond b true
              (list_any (λ group. bytes_eq (row_key columns group.first) q) groups)
              ≡ (b || list_any (λ group. bytes_eq (row_key columns group.first) q) groups)
          at true = refl
          at false = refl

  -- ---- a row more of the last group

  -- of a group with the row's key the first row is asked
  asks-first : (group : RowGroup) (groups : List RowGroup) (row : ℕ) (first cells : Cells)
      (result : Result (Unit {0}) RowFault) → is_of_group columns group cells ≡ true
      → first ≡ group.first → Gives Memory result (check_head columns row first cells)
      → Gives Memory result (check_place columns (group ∷ groups) row cells)
  unfolding check_place
  asks-first group groups row first cells result same is gives = rw (same, sym is) gives

  -- a row of the last group must agree with its first one
  asks-last : (whole : List Group) (last : Open) (groups : List RowGroup) (row : ℕ) (cells : Cells)
      (result : Result (Unit {0}) RowFault) → AreHeld columns whole (Some last) groups
      → bytes_eq last.key (row_key columns cells) ≡ true
      → Gives Memory result (check_head columns row (fields_of last.first) cells)
      → Gives Memory result (check_place columns groups row cells)
  asks-last whole last [] row cells result h same gives = absurd h
  asks-last whole last (g ∷ gs) row cells result h same gives =
      asks-first g gs row (fields_of last.first) cells result (rw h.1.key at same) h.1.first gives

  pub place-same : (held : Groups) (last : Open) (groups : List RowGroup) (row : ℕ) (cells : Cells)
      (result : Result (Unit {0}) RowFault)
      → StandsFor columns held groups → held.last ≡ Some last
      → is_last_key held.last (row_key columns cells) ≡ true
      → Gives Memory result (check_head columns row (fields_of last.first) cells)
      → Gives Memory result (check_place columns groups row cells)
  place-same held last groups row cells result h is same gives =
      asks-last held.whole last groups row cells result (rw is at h.are_held) (rw is at same) gives
