-- The pieces so far stand behind what was there.
use Rattle.std.proofs.Common.{◌≡◌, ℕ, ◌+◌, ◌≤◌, ◌++◌, Bor, List, length, take, vec_len}
use Rattle.std.proofs.Common.{vec_capacity}
use Rattle.std.specs.List.{flat_map}
use Rattle.csv_import.proofs.lines.put_pieces.Given as goal

abbrev pub invariant-put : goal.invariant-put
invariant-put l = record {
  front : l.out.items ≡ l.fn.out.items
      ++ flat_map (λ (piece : Bor (List ℕ)). piece.now) (take l.piece-index l.pieces);
  len : vec_len l.out ≡ vec_len l.fn.out
      + length (flat_map (λ (piece : Bor (List ℕ)). piece.now) (take l.piece-index l.pieces));
  capacity : vec_capacity l.fn.out ≤ vec_capacity l.out;
}
