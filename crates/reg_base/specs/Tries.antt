-- What a call makes, where it may be refused for a reason or want memory.
use Rattle.std.specs.Prelude.{◌≡◌, Result, Ok, Err}
use Rattle.reg_base.specs.declared.tried.Fault.{Fault}
use Rattle.reg_base.specs.declared.tried.Fault.TheVariants.{Refused, Memory}

-- the call makes what the definition makes, seen by `view`, and is refused where that is; want of
-- memory alone is free
abbrev pub TriesAs : {X Y R : Type 0} → (X → Y) → Result X (Fault R) → Result Y R → Type 0
TriesAs view (Ok x) definition = definition ≡ Ok (view x)
TriesAs view (Err (Refused reason)) definition = definition ≡ Err reason
TriesAs view (Err Memory) definition = Unit

-- the same where the value needs no view
abbrev pub Tries : {X R : Type 0} → Result X (Fault R) → Result X R → Type 0
Tries (Ok x) definition = definition ≡ Ok x
Tries (Err (Refused reason)) definition = definition ≡ Err reason
Tries (Err Memory) definition = Unit
