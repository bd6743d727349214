-- Private: the groups that the code holds, and those that they stand for.
use Rattle.std.specs.Prelude.{◌≡◌, ◌≢◌, ◌<◌, ◌^◌, ℕ, Bool, false, length, List, [], ◌∷◌, ◌++◌, map}
use Rattle.std.specs.Prelude.{reverse, Option, Some, None, Result, Ok, Err}
use Rattle.std.specs.Cmp.Lexicographic.{slice_cmp}
use Rattle.std.specs.List.{AllByRecursion, list_any}
use Rattle.std.specs.Ordering.{is_eq, nat_cmp}
use Rattle.std.specs.Str.{bytes_eq}
use Rattle.csv.specs.Records.{fields_of}
use Rattle.desk_words.specs.declared.request.Post.TheVariants.{Content}
use Rattle.desk_words.specs.declared.request.Request.TheVariants.{Post}
use Rattle.csv_groups.specs.Cells.{Cells}
use Rattle.csv_groups.specs.Groups.{RowGroup, row_key, content_in, group_in, groups_behind}
use Rattle.csv_groups.specs.Requests.{IsBatchContent, IsBatchPost}
use Rattle.csv_groups.specs.declared.columns.Columns.{Columns}
use Rattle.csv_groups.specs.declared.fault.RowFault.{RowFault}
use Rattle.csv_groups.specs.declared.fault.RowFault.TheVariants.{Memory}
use Rattle.csv_groups.specs.declared.group.Group.{Group}
use Rattle.csv_groups.specs.declared.groups.Groups.{Groups}
use Rattle.csv_groups.specs.declared.groups.Open.{Open}

-- whether a key is among those of a set
abbrev pub has_key_in : List ℕ → List (List ℕ) → Bool
has_key_in key keys = list_any (λ k. is_eq (slice_cmp nat_cmp key k)) keys

-- a row alone, as a group
abbrev pub alone : Cells → RowGroup
alone cells = record { first = cells; others = [] }

-- a group with a row more
abbrev pub longer : RowGroup → Cells → RowGroup
longer group cells = record group { others = group.others ++ cells ∷ [] }

-- what is held of the last group: its key, its first row and its content
pub record StandsForLast (columns : Columns) (open_group : Open) (group : RowGroup) : Type 0 where
  pub key : open_group.key ≡ row_key columns group.first
  pub first : fields_of open_group.first ≡ group.first
  pub content : open_group.content ≡ content_in columns group
  pub formed : IsBatchContent open_group.key open_group.content

-- whole groups, and the last one, are these, of which the last comes first
abbrev pub AreHeld : Columns → List Group → Option Open → List RowGroup → Type 0
AreHeld columns whole None [] = whole ≡ []
AreHeld columns whole None (group ∷ groups) = ⊥
AreHeld columns whole (Some last) [] = ⊥
AreHeld columns whole (Some last) (group ∷ groups) =
    (whole ≡ reverse (map (group_in columns) groups)) × StandsForLast columns last group

-- what the code holds stands for groups, of which the last comes first
pub record StandsFor (columns : Columns) (held : Groups) (groups : List RowGroup) : Type 0 where
  pub are_held : AreHeld columns held.whole held.last groups
  pub keys : (key : List ℕ) → has_key_in key held.keys.keys
      ≡ list_any (λ group. bytes_eq (row_key columns group.first) key) groups
  pub formed : AllByRecursion IsBatchPost held.whole

-- whether the last group has this key
abbrev pub is_last_key : Option Open → List ℕ → Bool
is_last_key None key = false
is_last_key (Some last) key = bytes_eq last.key key

-- the last group, as it is when all its rows have come
abbrev pub closed : Open → Group
closed last = record { key = last.key; request = Post (Content last.content) }

-- groups with the last one, if there is one, behind them
abbrev pub with_last : List Group → Option Open → List Group
with_last whole None = whole
with_last whole (Some last) = whole ++ closed last ∷ []

-- the rows behind a header were read into groups, fewer than so many, or have a first fault; want
-- of memory says nothing
abbrev pub ReadsRows : Columns → List Cells → Result Groups RowFault → Type 0
ReadsRows columns rows (Ok held) =
    (groups : List RowGroup) × (groups_behind columns [] 2 rows ≡ Ok groups)
    × StandsFor columns held groups × (length groups < 2 ^ 32)
ReadsRows columns rows (Err fault) =
    fault ≢ Memory → groups_behind columns [] 2 rows ≡ Err fault
