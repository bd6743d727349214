-- Private: what is asked of one dimension.
use Rattle.std.specs.Prelude.{Bool, Option, Some, None, is_none, List}
use Rattle.reg_base.specs.declared.value.Value.{Value}
use Rattle.reg_base.specs.Records.{passes}

-- whether a list asks for the value, where there is a value
abbrev pub passes_at : Option (List Value) → Option Value → Bool
passes_at list None = is_none list
passes_at list (Some value) = passes list value
