-- What the steps of a definition gave where the whole gave a value.
use Rattle.std.proofs.Common.{◌≡◌, Bool, true, false, cond, Option, Some, None, option_map}
use Rattle.std.proofs.Common.{option_and_then, Result, Ok, Err, IfOk, refl}
use Rattle.reg_base.specs.Results.{◌>>=◌, unless, some_or, Gives}

-- an answer made in two steps had a value after the first
pub bind-Ok : {F X Y : Type 0} (first : Result X F) (next : X → Result Y F) (y : Y)
    → (first >>= next) ≡ Ok y → (x : X) × (first ≡ Ok x) × (next x ≡ Ok y)
bind-Ok (Ok x) next y e = (x, refl, e)
bind-Ok (Err fault) next y e = absurd (cc)

-- equal answers have equal values
pub same_Ok : {F X : Type 0} (x y : X) → ◌≡◌ {A = Result X F} (Ok x) (Ok y) → x ≡ y
same_Ok x y e = cc

-- the test held
pub unless-Ok : {F : Type 0} (test : Bool) (fault : F) (u : Unit {0})
    → unless test fault ≡ Ok u → test ≡ true
unless-Ok true fault u e = refl
unless-Ok false fault u e = absurd (cc)

-- the value was there
pub some_or-Ok : {F X : Type 0} (found : Option X) (fault : F) (x : X)
    → some_or found fault ≡ Ok x → found ≡ Some x
some_or-Ok (Some y) fault x e = cc
some_or-Ok None fault x e = absurd (cc)

-- what was found, and what came of it
pub and_then-Some : {X Y : Type 0} (next : X → Option Y) (found : Option X) (y : Y)
    → option_and_then next found ≡ Some y → (x : X) × (found ≡ Some x) × (next x ≡ Some y)
and_then-Some next (Some x) y e = (x, refl, e)
and_then-Some next None y e = absurd (cc)

-- what was found, and its image
pub map-Some : {X Y : Type 0} (f : X → Y) (found : Option X) (y : Y)
    → option_map f found ≡ Some y → (x : X) × (found ≡ Some x) × (f x ≡ y)
map-Some f (Some x) y e = (x, refl, cc)
map-Some f None y e = absurd (cc)

-- the test held, and the value is this one
pub cond-Some : {X : Type 0} (test : Bool) (x y : X)
    → cond test (Some x) None ≡ Some y → (test ≡ true) × (x ≡ y)
cond-Some true x y e = (refl, cc)
cond-Some false x y e = absurd (cc)

-- what holds of each value of a definition holds of what a call gives of it
pub IfOk-from_Gives : {F X : Type 0} (memory : F) (P : X → Type 0) (result definition : Result X F)
    → Gives memory result definition → ((x : X) → definition ≡ Ok x → P x) → IfOk result P
IfOk-from_Gives memory P (Ok x) definition gives each = each x gives
IfOk-from_Gives memory P (Err fault) definition gives each = tt
