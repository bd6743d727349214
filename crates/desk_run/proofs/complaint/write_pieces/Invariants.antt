use Rattle.std.proofs.Common.{◌≤◌, take, Bor, List, ℕ}
use Rattle.std.specs.List.{flat_map}
use Rattle.std.specs.Io.KnownBytes.{Appends}
use Rattle.desk_run.proofs.complaint.write_pieces.Given as goal

abbrev pub invariant-written : goal.invariant-written
invariant-written g l = record {
  front : Appends (g.E.Device.taken l.fn.err) (g.E.Device.taken l.err)
      (flat_map (λ (piece : Bor (List ℕ)). piece.now) (take l.piece-index l.pieces));
  later : g.E.Device.write_faults l.fn.err ≤ g.E.Device.write_faults l.err;
}
