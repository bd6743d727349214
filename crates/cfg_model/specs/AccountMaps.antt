-- Private: accounts, and their places, in maps by their codes.
use Rattle.std.specs.Prelude.{◌≡◌, ℕ, suc, List, [], ◌∷◌, map}
use Rattle.std.specs.Prelude.{Option, Some, None, option_map, if◌then◌else◌}
use Rattle.std.specs.Cmp.Lexicographic.{slice_cmp}
use Rattle.std.specs.List.{AllByRecursion}
use Rattle.std.specs.Map.{lookup}
use Rattle.std.specs.Ordering.{is_eq, nat_cmp}
use Rattle.std.specs.Str.{bytes_eq}
use Rattle.cfg_model.specs.declared.account.Account.{Account}

-- an account by a code
abbrev pub Keyed : Type 0
Keyed = List ℕ × Account

-- each key is the code of its account
abbrev pub AreKeyed : List Keyed → Type 0
AreKeyed entries = AllByRecursion (λ e. e.0 ≡ e.1.code) entries

-- the accounts of a map, in order of its keys
abbrev pub values_of : List Keyed → List Account
values_of entries = map (λ e. e.1) entries

-- a place by a code
abbrev pub Placed : Type 0
Placed = List ℕ × ℕ

-- the place that a map has under a code
abbrev pub place_at : List ℕ → List Placed → Option ℕ
place_at code entries = lookup (λ k. is_eq (slice_cmp nat_cmp code k)) entries

-- the place of the first account of a code
abbrev pub first_place : List ℕ → List Account → Option ℕ
first_place code [] = None
first_place code (a ∷ more) =
    if bytes_eq a.code code then Some 0 else option_map suc (first_place code more)

-- a map leads from each code to the place of the first account that has it
abbrev pub LeadsToPlaces : List Placed → List Account → Type 0
LeadsToPlaces entries accounts =
    (code : List ℕ) → place_at code entries ≡ first_place code accounts
