-- The steps of the walk through a configuration file that all its groups share.
use Rattle.std.specs.Prelude.{ℕ, ◌+◌, ◌||◌, ◌&&◌, nat_le, not, Bool, List, [], ◌∷◌, ◌++◌, map}
use Rattle.std.specs.Prelude.{Option, Some, None, option_map, option_and_then, Result, Ok, String}
use Rattle.std.specs.Prelude.{if◌then◌else◌}
use Rattle.std.specs.Borrow.{Bor}
use Rattle.std.specs.BTreeMap.{BTreeMap}
use Rattle.std.specs.List.{list_any}
use Rattle.std.specs.declared.alloc.Global.{Global}
use Rattle.toml.specs.Data.{Data, Items, no_items, item, Members, no_members, member, get_member}
use Rattle.toml.specs.Data.{as_table, as_array, as_str}
use Rattle.toml.specs.View.{table_view}
use Rattle.toml.specs.declared.value.Value.{Value}
use Rattle.reg_base.specs.Codes.{is_name}
use Rattle.reg_base.specs.Results.{◌>>=◌, unless, some_or, none_or}
use Rattle.cfg_model.specs.declared.fault.CfgFault.{CfgFault}
use Rattle.cfg_model.specs.declared.fault.CfgFault.TheVariants.{Field, Twice, Unknown, Count}
use Rattle.cfg_model.specs.declared.register.Register.{Register}
use Rattle.cfg_model.specs.Words.{is_one_of, first_unknown_key, entry_path, reserved_names}

-- how many members there are
abbrev pub member_count : Members → ℕ
member_count no_members = 0
member_count (member key d ms) = member_count ms + 1

-- the keys of the members
abbrev pub member_keys : Members → List (List ℕ)
member_keys no_members = []
member_keys (member key d ms) = key ∷ member_keys ms

-- the members of a table, or none where there is no table
abbrev pub members_or_none : Option (Bor (BTreeMap (String Global) Value)) → Members
members_or_none None = no_members
members_or_none (Some t) = table_view t.now

-- a table whose keys are all known; else the least unknown one is the fault
abbrev pub known_keys : List (List ℕ) → Members → Result Members CfgFault
known_keys known keys = do
  _ ← none_or (option_map Unknown (first_unknown_key known keys))
  Ok keys

-- at most so many stand at the path
abbrev pub at_most : ℕ → List ℕ → ℕ → Result (Unit {0}) CfgFault
at_most limit path number = unless (nat_le number limit) (Count path number)

-- the entries of a group: a table of at most so many, or none where the key is absent
unfoldable pub group_entries : List ℕ → ℕ → Option Data → Result Members CfgFault
group_entries group limit None = Ok no_members
group_entries group limit (Some d) = do
  entries ← some_or (as_table d) (Field group)
  _ ← at_most limit group (member_count entries)
  Ok entries

-- each entry in turn, the first fault being the answer
unfoldable pub each_entry : {X : Type 0} → (List ℕ → Data → Result X CfgFault) → Members
    → Result (List X) CfgFault
each_entry read no_members = Ok []
each_entry read (member name d ms) = do
  x ← read name d
  xs ← each_entry read ms
  Ok (x ∷ xs)

-- the entries of a group of a file, each read in turn
unfoldable pub read_group : {X : Type 0} → List ℕ → ℕ → (List ℕ → Data → Result X CfgFault)
    → Members → Result (List X) CfgFault
read_group group limit read top = do
  entries ← group_entries group limit (get_member group top)
  each_entry read entries

-- a name that no entry may take: a reserved one, or that of one of these registers
abbrev pub is_taken : List Register → List ℕ → Bool
is_taken registers name =
    is_one_of reserved_names name || is_one_of (map (λ r. r.name) registers) name

-- the keys of an entry: its name is a name and it is a table, then the name is not taken, then
-- its keys are known
unfoldable pub entry_keys : List ℕ → List Register → List (List ℕ) → List ℕ → Data
    → Result Members CfgFault
entry_keys group registers known name d = do
  _ ← unless (is_name name) (Field (entry_path group name))
  keys ← some_or (as_table d) (Field (entry_path group name))
  _ ← unless (not (is_taken registers name)) (Twice name)
  known_keys known keys

-- what a key holds, where it is there and of the right shape
abbrev pub of_shape : {X : Type 0} → (Data → Option X) → List ℕ → Members → Option X
of_shape shape key keys = option_and_then shape (get_member key keys)

-- what a value holds, where it is of the right shape, and this where there is no value
abbrev pub shape_or : {X : Type 0} → (Data → Option X) → X → Option Data → Option X
shape_or shape absent None = Some absent
shape_or shape absent (Some d) = shape d

-- what each item is, where each is of the right shape
abbrev pub toml_each : {X : Type 0} → (Data → Option X) → Items → Option (List X)
toml_each shape no_items = Some []
toml_each shape (item d ds) =
    option_and_then (λ x. option_map (λ xs. x ∷ xs) (toml_each shape ds)) (shape d)

-- what a list holds
abbrev pub toml_list : {X : Type 0} → (Data → Option X) → Data → Option (List X)
toml_list shape d = option_and_then (toml_each shape) (as_array d)

-- what a text spells
abbrev pub toml_text : {X : Type 0} → (List ℕ → Option X) → Data → Option X
toml_text reads d = option_and_then reads (as_str d)

-- what a list of texts spells
abbrev pub toml_texts : {X : Type 0} → (List ℕ → Option X) → Data → Option (List X)
toml_texts reads d = toml_list (toml_text reads) d

-- whether an element may not stand behind these: its label is that of one of them, or both it and
-- one of them are of the sort that stands in a list once at the most
abbrev pub is_second : {X : Type 0} → (X → List ℕ) → (X → Bool) → List X → X → Bool
is_second label sole seen x =
    is_one_of (map label seen) (label x) || (sole x && list_any sole seen)

-- the first element that may not stand behind those before it
abbrev pub first_second : {X : Type 0} → (X → List ℕ) → (X → Bool) → List X → List X → Option X
first_second label sole seen [] = None
first_second label sole seen (x ∷ xs) =
    if is_second label sole seen x then Some x
    else first_second label sole (seen ++ x ∷ []) xs

-- the same list, where no element stands twice
abbrev pub distinct : {X : Type 0} → (X → List ℕ) → (X → Bool) → List X
    → Result (List X) CfgFault
distinct label sole xs = do
  _ ← none_or (option_map (λ x. Twice (label x)) (first_second label sole [] xs))
  Ok xs

-- the first name that stands for nothing is the fault
unfoldable pub all_known : (List ℕ → Bool) → List (List ℕ) → Result (Unit {0}) CfgFault
all_known is_known [] = Ok tt
all_known is_known (name ∷ names) = do
  _ ← unless (is_known name) (Unknown name)
  all_known is_known names
