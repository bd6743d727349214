-- Who may ask for what.
use Rattle.std.specs.Prelude.{ℕ, Bool, ◌||◌, codes, is_some, option_map, option_and_then}
use Rattle.std.specs.Prelude.{unwrap_or, List, [], slice_get}
use Rattle.std.specs.List.{list_any}
use Rattle.std.specs.Str.{bytes_eq}
use Rattle.reg_base.specs.declared.right.Right.{Right}
use Rattle.reg_base.specs.Rights.{right_word}
use Rattle.cfg_model.specs.declared.config.Config.{Config}
use Rattle.cfg_model.specs.Places.{clerk_place}

-- whether a name is that of the clerk that is built in
abbrev pub is_batch : List ℕ → Bool
is_batch name = bytes_eq name (codes "batch")

-- whether there is such a clerk: the configuration has it, or it is built in
abbrev pub is_clerk : Config → List ℕ → Bool
is_clerk config name = is_batch name || is_some (clerk_place name config.clerks)

-- whether a right is among those that were given
abbrev pub has_word_of : Right → List Right → Bool
has_word_of right rights = list_any (λ r. bytes_eq (right_word r) (right_word right)) rights

-- the rights that the configuration gives a clerk
abbrev pub rights_of : Config → List ℕ → List Right
rights_of config name = unwrap_or (option_map (λ c. c.rights)
    (option_and_then (slice_get config.clerks) (clerk_place name config.clerks))) []

-- whether a clerk may: the clerk that is built in has every right
abbrev pub is_allowed : Config → List ℕ → Right → Bool
is_allowed config name right = is_batch name || has_word_of right (rights_of config name)
