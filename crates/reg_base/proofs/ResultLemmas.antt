-- What holds of the value of a reader that goes on step by step, where it gives one.
use Rattle.std.proofs.Common.{◌≡◌, Bool, true, false, if◌then◌else◌, Option, Some, None, IfSome}
use Rattle.std.proofs.Common.{Result, Ok, Err, IfOk, refl}
use Rattle.reg_base.specs.Results.{◌>>=◌, unless, some_or}

-- a step whose value has P, and what comes next for such a value
pub IfOk-then : {F X Y : Type 0} (P : X → Type 0) (Q : Y → Type 0) (r : Result X F)
    (next : X → Result Y F) → IfOk r P → ((x : X) → P x → IfOk (next x) Q) → IfOk (r >>= next) Q
IfOk-then P Q (Ok x) next is later = later x is
IfOk-then P Q (Err fault) next is later = tt

-- a step of whose value nothing is asked
pub IfOk-next : {F X Y : Type 0} (Q : Y → Type 0) (r : Result X F) (next : X → Result Y F)
    → ((x : X) → IfOk (next x) Q) → IfOk (r >>= next) Q
IfOk-next Q (Ok x) next later = later x
IfOk-next Q (Err fault) next later = tt

-- a test
pub IfOk-unless : {F Y : Type 0} (Q : Y → Type 0) (test : Bool) (fault : F)
    (next : Unit {0} → Result Y F) → (test ≡ true → IfOk (next tt) Q)
    → IfOk (unless test fault >>= next) Q
IfOk-unless Q true fault next later = later refl
IfOk-unless Q false fault next later = tt

-- a value that is there or not
pub IfOk-some_or : {F X : Type 0} (P : X → Type 0) (option : Option X) (fault : F) → IfSome option P
    → IfOk (some_or option fault) P
IfOk-some_or P (Some x) fault is = is
IfOk-some_or P None fault is = tt

-- one of two readers
pub IfOk-if : {F X : Type 0} (P : X → Type 0) (test : Bool) (one other : Result X F) → IfOk one P
    → IfOk other P → IfOk (if test then one else other) P
IfOk-if P true one other is is_other = is
IfOk-if P false one other is is_other = is_other
