-- Which call of an object in memory is to fail.
use Rattle.std.specs.Prelude.{ℕ, ◌+◌, ◌-◌, ◌^◌, ◌==◌, Bool, min}
use Rattle.std.specs.List.{list_any}
use Rattle.reg_io.specs.declared.failing_calls.FailingCalls.{FailingCalls}

-- the number of the next call, from 1
abbrev pub call_number : FailingCalls → ℕ
call_number calls = min (calls.made + 1) (2 ^ 64 - 1)

-- whether the next call is to fail: its number stands in the list
abbrev pub fails_next : FailingCalls → Bool
fails_next calls = list_any (λ number. number == call_number calls) calls.numbers

-- the same list behind one more call
abbrev pub next_call : FailingCalls → FailingCalls
next_call calls = record { numbers = calls.numbers; made = call_number calls }
