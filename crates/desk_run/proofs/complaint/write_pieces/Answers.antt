use Rattle.std.proofs.Common.{Bor, List, ℕ, ◌++◌, ◌+◌, take, drop, sym, ap, ◌∙◌}
use Rattle.std.specs.List.{flat_map}
use Rattle.desk_core.proofs.ForAbove.{is_fault}
use Rattle.desk_run.proofs.PieceLemmas.{flat_map-parts, AppendsPrefix-behind}
use Rattle.desk_run.proofs.complaint.write_pieces.Goals as goal

pub returns-in_err-write_all-clause-front : goal.returns-in_err-write_all-clause-front
returns-in_err-write_all-clause-front g c =
    let piece_text : Bor (List ℕ) → List ℕ = λ piece. piece.now in
    let i = c.written.piece-index in
    let front = flat_map piece_text (take i c.args.pieces.now) in
    let rest = flat_map piece_text (drop (i + 1) c.args.pieces.now) in
    rw (is_fault c.from_residual.result _ c.from_residual.ensures)
    (AppendsPrefix-behind _ _ _ front c.as_bytes.result.now rest _
    (flat_map-parts piece_text c.args.pieces.now i _ c.written-test.true
    ∙ ap (λ l. (front ++ l) ++ rest) (sym c.as_bytes.ensures.value))
    c.written.invariant.front c.in_err-write_all.ensures.err)
