use Rattle.std.proofs.Common.{◌≡◌, ◌++◌, string_bytes}
use Rattle.reg_base.specs.Numbers.{last_digits}
use Rattle.reg_base.proofs.sums.push_digits.Given as goal

abbrev pub invariant-loop-place : goal.invariant-loop-place
invariant-loop-place l =
    string_bytes l.text ++ last_digits l.place l.number
    ≡ string_bytes l.initial.text ++ last_digits l.count l.number
