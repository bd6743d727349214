-- What speaks against the first of two checks speaks against both.
use Rattle.std.proofs.Common.{◌≡◌, Result, Ok, Err, ap, sym, subst}
use Rattle.std.specs.Result.{IsErrAnd}
use Rattle.reg_base.specs.Results.{◌>>=◌}
use Rattle.rule_lang.specs.Least.{Checked}
use Rattle.rule_lang.specs.Resolves.{Resolves}
use Rattle.rule_lang.specs.declared.tried.StatementFault.{StatementFault}
use Rattle.rule_lang.specs.declared.tried.StatementFault.TheVariants.{Wrong, Memory}

against_first : {X Y : Type 0} (fault : StatementFault) (first : Checked X) (next : X → Checked Y)
    → Resolves {X = X} (Err fault) first → Resolves {X = Y} (Err fault) (first >>= next)
against_first (Wrong why) first next against = ap (λ r. r >>= next) against
against_first Memory first next against = tt

-- the fault of the first goes up
pub resolves-against : {X Y : Type 0} (result : Result Y StatementFault) (fault : StatementFault)
    (first : Checked X) (next : X → Checked Y)
    → IsErrAnd result (λ e. e ≡ fault) → Resolves {X = X} (Err fault) first
    → Resolves result (first >>= next)
resolves-against (Err e) fault first next is against =
    subst (λ f. Resolves (Err f) (first >>= next)) (sym is)
    (against_first fault first next against)
resolves-against (Ok y) fault first next is against = absurd is
