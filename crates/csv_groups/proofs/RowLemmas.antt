-- The rows of a file, row by row.
use Rattle.std.proofs.Common.{◌≡◌, ◌≢◌, ℕ, ◌+◌, ◌<◌, ◌≤◌, ◌^◌, Bool, true, false, cond, List, []}
use Rattle.std.proofs.Common.{◌∷◌}
use Rattle.std.proofs.Common.{drop, map, length, Result, Ok, Err, OnOk, IsErr, refl, ap, sym, ◌∙◌}
use Rattle.std.proofs.Common.{arith, ◌++◌}
use Rattle.std.specs.Prelude.{reverse}
use Rattle.std.specs.Result.{IsErrAnd}
use Rattle.std.proofs.lemmas.List.{length-reverse, length-map}
use Rattle.csv.specs.Reading.{default_config, records, strip_bom}
use Rattle.reg_base.specs.Results.{Gives}
use Rattle.cfg_model.specs.declared.config.Config.{Config}
use Rattle.csv_groups.specs.Cells.{Cells, are_utf8}
use Rattle.csv_groups.specs.Files.{read_file, groups_of_rows, groups_under, header_of, first_row}
use Rattle.csv_groups.specs.Groups.{RowGroup, check_row, check_cells, groups_behind, with_row}
use Rattle.csv_groups.specs.Groups.{group_in, is_of_group}
use Rattle.csv_groups.specs.Reading.{BytesReader, HasLeft}
use Rattle.csv_groups.specs.Standing.{ReadsRows}
use Rattle.csv_groups.specs.declared.columns.Columns.{Columns}
use Rattle.csv_groups.specs.declared.fault.RowFault.{RowFault}
use Rattle.csv_groups.specs.declared.fault.RowFault.TheVariants.{Refused, Memory}
use Rattle.csv_groups.specs.declared.fault.RowWhy.TheVariants.{Shape}
use Rattle.csv_groups.specs.declared.group.Group.{Group}
use Rattle.csv_groups.specs.declared.groups.Groups.{Groups}

-- a fault that is handed on is that of the definition
pub gives-fault : {X : Type 0} (r : Result X RowFault) (fault : RowFault)
    (definition : Result X RowFault) → IsErr r × IsErrAnd r (λ e. e ≡ fault)
    → (fault ≢ Memory → definition ≡ Err fault) → Gives Memory r definition
gives-fault (Ok x) fault definition h told = absurd h.1
gives-fault (Err e) fault definition h told = λ other.
    told (λ same. other (h.1 ∙ same)) ∙ ap Err (sym h.1)

module _ (columns : Columns) where
  -- the same of the rows
  pub rows-fault : (rows : List Cells) (r : Result Groups RowFault) (fault : RowFault)
      → IsErr r × IsErrAnd r (λ e. e ≡ fault)
      → (fault ≢ Memory → groups_behind columns [] 2 rows ≡ Err fault) → ReadsRows columns rows r
  rows-fault rows (Ok x) fault h told = absurd h.1
  rows-fault rows (Err e) fault h told = λ other.
      told (λ same. other (h.1 ∙ same)) ∙ ap Err (sym h.1)

  -- a row that is no UTF-8
  pub row-no_text : (groups : List RowGroup) (row : ℕ) (cells : Cells) → are_utf8 cells ≡ false
      → check_row columns groups row cells ≡ Err (Refused row Shape)
  unfolding check_row check_cells
  row-no_text groups row cells no_text = rw no_text refl

  -- a row that is refused
  pub rows-refused : (groups : List RowGroup) (row : ℕ) (rows : List Cells) (cells : Cells)
      (more : List Cells) (fault : RowFault) → rows ≡ cells ∷ more
      → check_row columns groups row cells ≡ Err fault
      → groups_behind columns groups row rows ≡ Err fault
  unfolding groups_behind
  rows-refused groups row rows cells more fault are refused = rw (are, refused) refl

  -- a row that is taken
  pub rows-more : (groups : List RowGroup) (row : ℕ) (rows : List Cells) (cells : Cells)
      (more : List Cells) → rows ≡ cells ∷ more → check_row columns groups row cells ≡ Ok tt
      → groups_behind columns groups row rows
      ≡ groups_behind columns (with_row columns cells groups) (row + 1) more
  unfolding groups_behind
  rows-more groups row rows cells more are taken = rw (are, taken) refl

  -- no more rows
  pub rows-end : (groups : List RowGroup) (row : ℕ) (rows : List Cells) → rows ≡ []
      → groups_behind columns groups row rows ≡ Ok groups
  unfolding groups_behind
  rows-end groups row rows none = rw none refl

  -- a row makes one group more at the most
  pub length-with_row : (cells : Cells) (groups : List RowGroup)
      → length (with_row columns cells groups) ≤ length groups + 1
  length-with_row cells [] = omega arith
  length-with_row cells (g ∷ gs) = at (is_of_group columns g cells)
    where
      at : (b : Bool)
          → length (cond b ((record g { others = g.others ++ cells ∷ [] }) ∷ gs)
          ((record { first = cells; others = [] }) ∷ g ∷ gs)) ≤ length (g ∷ gs) + 1
      at true = omega arith
      at false = omega arith

  -- fewer groups than so many, in the other order
  pub few-groups : (groups : List RowGroup) (all : List Group)
      → all ≡ reverse (map (group_in columns) groups) → length groups < 2 ^ 32
      → length all < 2 ^ 32
  few-groups groups all is few =
      let same : length all ≡ length groups = ap length is
      ∙ length-reverse (map (group_in columns) groups) ∙ length-map groups (group_in columns) in
      rw same few

-- behind the header its rows are left
pub left-behind : {X : Type 0} (r : Result X RowFault) (reader : BytesReader) (rows : List Cells)
    (cells : Cells) (more : List Cells) → rows ≡ cells ∷ more → HasLeft reader more
    → OnOk r (HasLeft reader (drop 1 rows))
left-behind (Ok x) reader rows cells more are left = rw are left
left-behind (Err e) reader rows cells more are left = tt

module _ (config : Config) (bytes : List ℕ) where
  -- a header that is refused
  pub file-header : (fault : RowFault)
      → header_of config (first_row (records default_config (strip_bom bytes))) ≡ Err fault
      → read_file config bytes ≡ Err fault
  unfolding read_file groups_of_rows
  file-header fault refused = rw refused refl

  -- rows that are refused
  pub file-rows : (columns : Columns) (fault : RowFault)
      → header_of config (first_row (records default_config (strip_bom bytes))) ≡ Ok columns
      → groups_behind columns [] 2 (drop 1 (records default_config (strip_bom bytes))) ≡ Err fault
      → read_file config bytes ≡ Err fault
  unfolding read_file groups_of_rows groups_under
  file-rows columns fault header refused = rw (header, refused) refl

  -- a file without a fault
  pub file-groups : (columns : Columns) (groups : List RowGroup)
      → header_of config (first_row (records default_config (strip_bom bytes))) ≡ Ok columns
      → groups_behind columns [] 2 (drop 1 (records default_config (strip_bom bytes))) ≡ Ok groups
      → read_file config bytes ≡ Ok (reverse (map (group_in columns) groups))
  unfolding read_file groups_of_rows groups_under
  file-groups columns groups header taken = rw (header, taken) refl
