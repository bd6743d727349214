-- A question is answered in two steps, what is asked and the table, each of which may stop.
use Rattle.std.proofs.Common.{◌≡◌, Result, Ok, Err, IsErr, IsErrAnd, ap, ◌∙◌, sym, subst}
use Rattle.reg_base.specs.declared.tried.Fault.{Fault}
use Rattle.reg_base.specs.declared.tried.Fault.TheVariants.{Refused, Memory}
use Rattle.reg_base.specs.Results.{◌>>=◌}
use Rattle.reg_base.specs.Tries.{Tries, TriesAs}

-- a call that hands on a fault
pub is_fault : {X F : Type 0} (r : Result X F) (x : F) → IsErr r × IsErrAnd r (λ e. e ≡ x)
    → r ≡ Err x
is_fault (Ok y) x h = absurd (let q = h.0 in cc)
is_fault (Err e) x h = ap Err h.1

module _ {A R X F : Type 0} (asked : Result A F) (tabled : A → Result R F) (shown : A → R → X)
    (whole : Result X F)
    (steps : whole ≡ (asked >>= λ a. tabled a >>= λ rows. Ok (shown a rows))) where
  -- where nothing can be asked, nothing is answered
  pub stops-asked : {B : Type 0} (view : B → A) (result : Result X (Fault F)) (fault : Fault F)
      → TriesAs view (Err fault) asked → result ≡ Err fault → Tries result whole
  stops-asked view result (Refused reason) stopped is =
      subst (λ (r : Result X (Fault F)). Tries r whole) (sym is)
      (steps ∙ ap (λ a. a >>= λ x. tabled x >>= λ rows. Ok (shown x rows)) stopped)
  stops-asked view result Memory stopped is =
      subst (λ (r : Result X (Fault F)). Tries r whole) (sym is) tt

  -- where the table is not made, nothing is answered
  pub stops-tabled : (a : A) → asked ≡ Ok a → (result : Result X (Fault F)) (fault : Fault F)
      → Tries {X = R} (Err fault) (tabled a) → result ≡ Err fault → Tries result whole
  stops-tabled a can result (Refused reason) stopped is =
      subst (λ (r : Result X (Fault F)). Tries r whole) (sym is)
      (steps ∙ ap (λ q. q >>= λ x. tabled x >>= λ rows. Ok (shown x rows)) can
      ∙ ap (λ q. q >>= λ rows. Ok (shown a rows)) stopped)
  stops-tabled a can result Memory stopped is =
      subst (λ (r : Result X (Fault F)). Tries r whole) (sym is) tt

  -- and else the rows are shown
  pub answers : (a : A) → asked ≡ Ok a → (rows : R) → tabled a ≡ Ok rows
      → whole ≡ Ok (shown a rows)
  answers a can rows made =
      steps ∙ ap (λ q. q >>= λ x. tabled x >>= λ rows. Ok (shown x rows)) can
      ∙ ap (λ q. q >>= λ rows. Ok (shown a rows)) made
