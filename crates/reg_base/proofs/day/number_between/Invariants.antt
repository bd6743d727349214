use Rattle.std.proofs.Common.{◌≡◌, ◌+◌, ◌^◌, ◌≤◌, drop}
use Rattle.std.specs.List.{list_all}
use Rattle.std.specs.Char.{is_ascii_digit}
use Rattle.reg_base.specs.Numbers.{read_on}
use Rattle.reg_base.proofs.day.number_between.Given as goal

abbrev pub invariant-loop-digit : goal.invariant-loop-digit
invariant-loop-digit l =
    (l.number + 1 ≤ 10 ^ l.digit-index)
    × (read_on l.number (drop l.digit-index l.digits) ≡ read_on 0 l.digits)
    × (list_all is_ascii_digit (drop l.digit-index l.digits) ≡ list_all is_ascii_digit l.digits)
