-- The request numbers of the clerk that is built in.
use Rattle.std.specs.Prelude.{ℕ, ◌+◌, min, Option, Some, None}
use Rattle.desk_model.specs.declared.last.Last.{Last}
use Rattle.desk_model.specs.Limits.{greatest_number}

-- the number behind that of a last request: the next one, up to the greatest
abbrev pub number_behind : Option Last → ℕ
number_behind None = 1
number_behind (Some last) = min (last.number + 1) greatest_number
