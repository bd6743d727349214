-- For the crates above: what their proofs may cite of this crate's.
use Rattle.std.proofs.Common.{List, ◌++◌, Result, Ok}
use Rattle.reg_base.specs.Results.{◌>>=◌}

-- the elements that a loop has read, in front of those that are left to read
abbrev pub result_front : {X F : Type 0} → List X → Result (List X) F → Result (List X) F
result_front front rest = rest >>= (λ xs. Ok (front ++ xs))
