-- What holds of the value or of the fault of a chain of readers.
use Rattle.std.proofs.Common.{Bool, true, false, Option, Some, None, List, [], ◌∷◌, Result, Ok, Err}
use Rattle.std.proofs.Common.{IfOk, IfErr}
use Rattle.reg_base.specs.Results.{◌>>=◌, unless, some_or, each}

-- the value of what reads on, whatever was read first
pub IfOk-last : {F X Y : Type 0} (P : Y → Type 0) (first : Result X F) (next : X → Result Y F) →
    ((x : X) → IfOk (next x) P) → IfOk (first >>= next) P
IfOk-last P (Ok x) next of_next = of_next x
IfOk-last P (Err fault) next of_next = tt

-- the fault of the first reader, or of what reads on
pub IfErr-then : {F X Y : Type 0} (P : F → Type 0) (first : Result X F) (next : X → Result Y F) →
    IfErr first P → ((x : X) → IfErr (next x) P) → IfErr (first >>= next) P
IfErr-then P (Ok x) next of_first of_next = of_next x
IfErr-then P (Err fault) next of_first of_next = of_first

pub IfErr-unless : {F : Type 0} (P : F → Type 0) (test : Bool) (fault : F) → P fault →
    IfErr (unless test fault) P
IfErr-unless P true fault holds = tt
IfErr-unless P false fault holds = holds

pub IfErr-some_or : {F X : Type 0} (P : F → Type 0) (value : Option X) (fault : F) → P fault →
    IfErr (some_or value fault) P
IfErr-some_or P (Some x) fault holds = tt
IfErr-some_or P None fault holds = holds

pub IfErr-each : {F A X : Type 0} (P : F → Type 0) (read : A → Result X F) →
    ((x : A) → IfErr (read x) P) → (xs : List A) → IfErr (each read xs) P
IfErr-each P read of_read [] = tt
IfErr-each P read of_read (x ∷ xs) =
    IfErr-then P (read x) (λ y. each read xs >>= λ ys. Ok (y ∷ ys)) (of_read x)
    (λ y. IfErr-then P (each read xs) (λ ys. Ok (y ∷ ys)) (IfErr-each P read of_read xs) (λ ys. tt))
