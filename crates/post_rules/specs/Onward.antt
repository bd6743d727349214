-- What comes next behind a part of posting.
use Rattle.std.specs.Prelude.{Result}
use Rattle.reg_base.specs.Results.{◌>>=◌}
use Rattle.reg_base.specs.declared.fault.PostFault.{PostFault}

-- what comes next goes on from what was tried
abbrev pub onward : {X Y : Type 0} → Result X PostFault → (X → Result Y PostFault) →
    Result Y PostFault
onward tried next = tried >>= next
