-- Known bytes that grow piece by piece, and a side that is left alone twice.
use Rattle.std.proofs.Common.{ℕ, ◌+◌, ◌-◌, ◌≤◌, List, length, take, drop, Option, ◌∙◌, arith}
use Rattle.std.proofs.Math.Seq.{take-add}
use Rattle.std.proofs.lemmas.List.{take_rest, length-drop}
use Rattle.std.specs.Io.KnownBytes.{Appends}
use Rattle.std.proofs.KnownBytes.{Appends-trans}
use Rattle.reg_io.specs.Counts.{LeavesSide}

-- after the first bytes, the next ones of the same list
pub Appends-take_more : (a b c : Option (List ℕ)) (bytes : List ℕ) (done more : ℕ)
    → Appends a b (take done bytes)
    → Appends b c (take more (take (length bytes - done) (drop done bytes)))
    → Appends a c (take (done + more) bytes)
Appends-take_more a b c bytes done more p q =
    rw take-add (Appends-trans a b c _ _ p (rw take_rest at q))

-- two calls of one side, one after the other
pub LeavesSide-trans : (a b c : Option (List ℕ)) (i j k : ℕ)
    → LeavesSide a b i j → LeavesSide b c j k → LeavesSide a c i k
LeavesSide-trans a b c i j k p q = record { same = q.same ∙ p.same; later = omega arith }

-- a piece of the rest ends within the list
pub within_more : (bytes : List ℕ) (done more : ℕ) → done ≤ length bytes
    → more ≤ length (take (length bytes - done) (drop done bytes)) → done + more ≤ length bytes
within_more bytes done more p q = omega (arith, simp (take_rest, length-drop) at q)
