-- Readers that answer a value or the first fault, for any type of faults.
use Rattle.std.specs.Prelude.{◌≡◌, ◌≢◌, Bool, true, false, Option, Some, None, List, [], ◌∷◌}
use Rattle.std.specs.Prelude.{Result, Ok, Err}

infixl 10 ◌>>=◌
-- what comes next reads on from a value; a fault stays
abbrev pub ◌>>=◌ : {F X Y : Type 0} → Result X F → (X → Result Y F) → Result Y F
Ok x >>= next = next x
Err fault >>= next = Err fault

-- goes on where the test holds, and else answers the fault
abbrev pub unless : {F : Type 0} → Bool → F → Result (Unit {0}) F
unless true fault = Ok tt
unless false fault = Err fault

-- the value where there is one, and else the fault
abbrev pub some_or : {F X : Type 0} → Option X → F → Result X F
some_or (Some x) fault = Ok x
some_or None fault = Err fault

-- goes on where there is no fault
abbrev pub none_or : {F : Type 0} → Option F → Result (Unit {0}) F
none_or (Some fault) = Err fault
none_or None = Ok tt

-- what is read of each element, or the first fault
abbrev pub each : {F A X : Type 0} → (A → Result X F) → List A → Result (List X) F
each read [] = Ok []
each read (x ∷ xs) = read x >>= λ y. each read xs >>= λ ys. Ok (y ∷ ys)

-- goes on where each element can be read, and else answers the first fault
abbrev pub check_each : {F A X : Type 0} → (A → Result X F) → List A → Result (Unit {0}) F
check_each read [] = Ok tt
check_each read (x ∷ xs) = read x >>= λ _. check_each read xs

-- the call gives what the definition gives, seen by `view`; want of memory alone is free
abbrev pub GivesAs : {F X Y : Type 0} → F → (X → Y) → Result X F → Result Y F → Type 0
GivesAs memory view (Ok x) definition = definition ≡ Ok (view x)
GivesAs memory view (Err fault) definition = fault ≢ memory → definition ≡ Err fault

-- the same where the value needs no view
abbrev pub Gives : {F X : Type 0} → F → Result X F → Result X F → Type 0
Gives memory (Ok x) definition = definition ≡ Ok x
Gives memory (Err fault) definition = fault ≢ memory → definition ≡ Err fault

-- the call makes this fault, or wants memory
abbrev pub Says : {F : Type 0} → F → F → F → Type 0
Says memory made fault = made ≢ memory → fault ≡ made
