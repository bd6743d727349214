use Rattle.std.proofs.Common.{arith, Bor, List, ℕ}
use Rattle.csv_import.proofs.LineLemmas.{piece_fits}
use Rattle.csv_import.proofs.lines.put_pieces.Goals as goal

pub put_text-requires : goal.put_text-requires
put_text-requires c =
    let so = c.put.invariant in
    let piece_text : Bor (List ℕ) → List ℕ = λ piece. piece.now in record {
      room = omega (
        arith,
        piece_fits piece_text c.args.pieces.now c.put.piece-index _ c.as_bytes.result.now
            c.put-test.true c.as_bytes.ensures.value,
        so.len,
        so.capacity,
        c.requires.room,
      );
    }
