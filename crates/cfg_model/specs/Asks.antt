-- What is asked of a register by the names of its dimensions: a filter, and what makes a group.
use Rattle.std.specs.Prelude.{ℕ, Bool, ◌&&◌, not, is_some, if◌then◌else◌, Option, Some, None}
use Rattle.std.specs.Prelude.{option_map, unwrap_or, List, [], ◌∷◌, ◌++◌, map, position}
use Rattle.std.specs.List.{find, filter_map}
use Rattle.std.specs.Str.{bytes_eq}
use Rattle.reg_base.specs.declared.value.Value.{Value}
use Rattle.reg_base.specs.declared.records.Filter.{Filter}
use Rattle.reg_base.specs.declared.tables.AskedList.{AskedList}
use Rattle.cfg_model.specs.declared.register.Register.{Register}
use Rattle.cfg_model.specs.declared.register.Dimension.{Dimension}
use Rattle.cfg_model.specs.Words.{is_one_of}

-- the place of the first dimension of this name, counted from 0
abbrev pub dimension_place : List ℕ → List Dimension → Option ℕ
dimension_place name dimensions = position (λ d. bytes_eq d.name name) dimensions

-- whether a name is that of a dimension, and stands for the first time
abbrev pub is_new_dimension : List Dimension → List (List ℕ) → List ℕ → Bool
is_new_dimension dimensions before name =
    is_some (dimension_place name dimensions) && not (is_one_of before name)

-- the first of the names that no dimension has, or that stands a second time
abbrev pub first_wrong : List Dimension → List (List ℕ) → List (List ℕ) → Option (List ℕ)
first_wrong dimensions before [] = None
first_wrong dimensions before (name ∷ names) =
    if is_new_dimension dimensions before name
    then first_wrong dimensions (before ++ name ∷ []) names
    else Some name

-- the first of two names, where it is there, and else the second
abbrev pub or_other : Option (List ℕ) → Option (List ℕ) → Option (List ℕ)
or_other None other = other
or_other (Some name) other = Some name

-- the first name that a table of a register can't be asked by: of its filter, then of its group
abbrev pub wrong_name : Register → List AskedList → Option (List (List ℕ)) → Option (List ℕ)
wrong_name register lists group = or_other
    (first_wrong register.dimensions [] (map (λ l. l.name) lists))
    (first_wrong register.dimensions [] (unwrap_or group []))

-- the values that are asked for under a name
abbrev pub values_under : List AskedList → List ℕ → Option (List Value)
values_under lists name = option_map (λ l. l.values) (find (λ l. bytes_eq l.name name) lists)

-- the filter that lists make, a list for each dimension that they name
abbrev pub filter_with : Register → List AskedList → Filter
filter_with register lists =
    record { lists = map (λ d. values_under lists d.name) register.dimensions }

-- the places of the dimensions that make a group
abbrev pub group_places : Register → Option (List (List ℕ)) → Option (List ℕ)
group_places register group =
    option_map (filter_map (λ name. dimension_place name register.dimensions)) group
