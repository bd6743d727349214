-- Names as places in the configuration, and numbers as units at a scale.
use Rattle.std.specs.Prelude.{ℕ, Bool, true, false, ◌-◌, ◌*◌, ◌^◌, ◌==◌, ◌&&◌, nat_lt, nat_le, List}
use Rattle.std.specs.Prelude.{Option, Some, None, position, slice_get, is_none, ℤ, pos, Ok, Err}
use Rattle.std.specs.Prelude.{if◌then◌else◌}
use Rattle.std.specs.Str.{bytes_eq}
use Rattle.reg_base.specs.Numbers.{largest_units}
use Rattle.reg_base.specs.Results.{◌>>=◌, unless, some_or}
use Rattle.cfg_model.specs.declared.kind.Field.{Field}
use Rattle.rule_text.specs.declared.token.Literal.{Literal}
use Rattle.rule_text.specs.declared.token.Spelling.{Spelling}
use Rattle.rule_text.specs.declared.token.Spelling.TheVariants.{Named, Other}
use Rattle.rule_lang.specs.Least.{Checked}
use Rattle.rule_lang.specs.declared.fault.RuleWhy.TheVariants.{UnknownName, WrongType}
use Rattle.rule_lang.specs.declared.fields.FieldAt.{FieldAt}

-- a place that fits a byte, as each does within the limits of a configuration
abbrev pub small_place : Option ℕ → Checked ℕ
small_place None = Err UnknownName
small_place (Some place) = if nat_lt place 256 then Ok place else Err UnknownName

-- the place of the first of these that has the name
unfoldable pub place_of : {X : Type 0} → (X → List ℕ) → List X → Spelling → Checked ℕ
place_of name_of xs Other = Err UnknownName
place_of name_of xs (Named name) = small_place (position (λ x. bytes_eq (name_of x) name) xs)

-- what stands at a place
abbrev pub item_at : {X : Type 0} → List X → ℕ → Checked X
item_at xs place = some_or (slice_get xs place) UnknownName

-- a field by its name, with the scale of its numbers, which is none for a code
unfoldable pub resolved_field : List Field → Spelling → Checked FieldAt
resolved_field fields spelling = do
  place ← place_of (λ f. f.name) fields spelling
  field ← item_at fields place
  Ok (record { place = place; scale = field.scale })

-- whether a number of the second scale stands where the first is asked for, if one is
abbrev pub fits : Option ℕ → Option ℕ → Bool
fits asked None = false
fits None (Some scale) = true
fits (Some asked) (Some scale) = asked == scale

-- a field with numbers of the scale that is asked for
unfoldable pub resolved_number_field : List Field → Option ℕ → Spelling → Checked ℕ
resolved_number_field fields asked spelling = do
  found ← resolved_field fields spelling
  _ ← unless (fits asked found.scale) WrongType
  Ok found.place

-- a field with codes
unfoldable pub resolved_code_field : List Field → Spelling → Checked ℕ
resolved_code_field fields spelling = do
  found ← resolved_field fields spelling
  _ ← unless (is_none found.scale) WrongType
  Ok found.place

-- the units of a number at a scale: not more decimals than that, and not too large
unfoldable pub units_at : Literal → ℕ → Option ℤ
units_at literal scale =
    let units = literal.digits * 10 ^ (scale - literal.decimals) in
    if nat_le literal.decimals scale && nat_le units largest_units then Some (pos units) else None
