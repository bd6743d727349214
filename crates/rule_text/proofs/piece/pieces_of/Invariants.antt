use Rattle.std.proofs.Common.{◌≡◌, ◌≤◌, ◌++◌, length}
use Rattle.rule_text.specs.Tokens.{pieces_from}
use Rattle.rule_text.proofs.piece.pieces_of.Given as goal

abbrev pub invariant-pieces : goal.invariant-pieces
invariant-pieces g l =
    (l.place ≤ length l.bytes)
    × (l.pieces.items ++ pieces_from g.P.Piece.begins g.P.Piece.len_of l.counter l.bytes l.place
    ≡ pieces_from g.P.Piece.begins g.P.Piece.len_of (length l.bytes) l.bytes 0)
