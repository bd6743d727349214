-- Bytes that a text lacks.
use Rattle.std.proofs.Common.{◌≡◌, Bool, false, List, length, arith}
use Rattle.std.specs.List.{list_any, position_or_len}
use Rattle.std.proofs.lemmas.List.Sums.{fails_before_first}
use Rattle.std.proofs.lemmas.List.Folds.{list_any_none}

-- where the first match would stand at the end, nothing matches
pub list_any-past : {X : Type 0} (p : X → Bool) (xs : List X) → position_or_len p xs ≡ length xs
    → list_any p xs ≡ false
list_any-past p xs end =
    list_any_none p xs (λ k d within. fails_before_first p xs k d (omega arith))
