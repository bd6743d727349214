-- What the comment of a document may be.
use Rattle.std.specs.Prelude.{ℕ, Bool, ◌&&◌, not, nat_le, List, length}
use Rattle.std.specs.List.{list_all}
use Rattle.std.specs.Char.{is_control}
use Rattle.std.specs.Str.{chars}

-- A comment: up to 64 bytes, whose characters are none that control a terminal: none below 32,
-- and none from 127 to 159.
unfoldable pub is_comment : List ℕ → Bool
is_comment text = nat_le (length text) 64 && list_all (λ c. not (is_control c)) (chars text)
