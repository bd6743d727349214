-- A range of a buffer that loses bytes at its front, or gains them behind its end.
use Rattle.std.proofs.Common.{◌≡◌, ℕ, ◌+◌, ◌≤◌, List, ◌++◌, length, take, drop, slice_range, sym}
use Rattle.std.proofs.Common.{ap, ◌∙◌, arith}
use Rattle.std.proofs.Math.Seq.{take-add}
use Rattle.std.proofs.lemmas.List.{drop-drop, drop-append-le, length-take}
use Rattle.std.proofs.lemmas.Slice.{between_is}

pub slice_range-later : (xs : List ℕ) (start n end : ℕ)
    → slice_range xs (start + n) end ≡ drop n (slice_range xs start end)
slice_range-later xs start n end =
    between_is xs (start + n) end ∙ sym (drop-drop n start (take end xs))
    ∙ ap (drop n) (sym (between_is xs start end))

-- the same front, and what stands behind it
pub slice_range-grown : (old new : List ℕ) (start end n : ℕ) → start ≤ end → end ≤ length old
    → take end new ≡ take end old
    → slice_range new start (end + n) ≡ slice_range old start end ++ take n (drop end new)
slice_range-grown old new start end n p q e =
    let within : start ≤ length (take end old) = simp length-take (omega arith) in
    between_is new start (end + n)
    ∙ ap (drop start) (take-add end n new ∙ ap (λ l. l ++ take n (drop end new)) e)
    ∙ drop-append-le start (take end old) (take n (drop end new)) within
    ∙ ap (λ l. l ++ take n (drop end new)) (sym (between_is old start end))

pub slice_range-front : (old new : List ℕ) (start end : ℕ)
    → take end new ≡ take end old → slice_range new start end ≡ slice_range old start end
slice_range-front old new start end e =
    between_is new start end ∙ ap (drop start) e ∙ sym (between_is old start end)
