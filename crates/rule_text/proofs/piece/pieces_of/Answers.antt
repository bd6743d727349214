-- One more piece, or none behind the last blanks.
use Rattle.std.proofs.Common.{◌≡◌, ◌≤◌, length, length-drop, ◌+◌, ◌∷◌, [], ◌++◌, drop, arith, ap}
use Rattle.std.proofs.Common.{sym, ◌∙◌}
use Rattle.std.specs.List.{prefix_len}
use Rattle.std.proofs.lemmas.List.{take_rest}
use Rattle.rule_text.specs.Tokens.{is_blank}
use Rattle.rule_text.proofs.TokenLemmas.{pieces_from-more, pieces_from-last}
use Rattle.rule_text.proofs.piece.pieces_of.Goals as goal

pub returns-then-start-bytes : goal.returns-then-start-bytes
returns-then-start-bytes g c =
    let blanks : c.blank_len.result ≡ prefix_len is_blank (drop c.pieces.place c.args.bytes.now) =
    rw take_rest at c.blank_len.ensures.value in
    c.from_vec.ensures
    ∙ sym (pieces_from-last g.P.Piece.begins g.P.Piece.len_of c.pieces.pieces.items c.pieces.counter
    c.args.bytes.now c.pieces.place (c.pieces.place + c.blank_len.result)
    (ap (λ n. c.pieces.place + n) blanks) (omega (arith, c.if-start-bytes.true))
    (omega (arith, c.pieces-test.true)))
    ∙ c.pieces.invariant.1

pub pieces-preserved : goal.pieces-preserved
pieces-preserved g c =
    let start = c.pieces.place + c.blank_len.result in
    let blanks : c.blank_len.result ≡ prefix_len is_blank (drop c.pieces.place c.args.bytes.now) =
    rw take_rest at c.blank_len.ensures.value in
    let piece : c.begin-piece.result ≡ g.P.Piece.begins start (drop start c.args.bytes.now) = rw
    take_rest at c.begin-piece.ensures.value in
    let items : c.push.new.self.items ≡ c.pieces.pieces.items ++ g.P.Piece.begins start
    (drop start c.args.bytes.now) ∷ [] = c.in_ok-push.ensures.items
    ∙ ap (λ p. c.pieces.pieces.items ++ p ∷ []) piece in
    let len : c.len.result
    ≡ g.P.Piece.len_of (g.P.Piece.begins start (drop start c.args.bytes.now)) = c.len.ensures
    ∙ ap g.P.Piece.len_of piece in
    let within : g.P.Piece.len_of c.begin-piece.result ≤ length (drop start c.args.bytes.now) = rw
    take_rest at c.begin-piece.ensures.within in (
      omega (
        arith,
        c.len.ensures,
        within,
        length-drop start c.args.bytes.now,
        c.if-start-bytes.false,
      ),
      rw (items, len)
          (sym (pieces_from-more g.P.Piece.begins g.P.Piece.len_of c.pieces.pieces.items
          c.pieces.counter c.args.bytes.now c.pieces.place start
          (ap (λ n. c.pieces.place + n) blanks)
          (omega (arith, c.if-start-bytes.false)) (omega (arith, c.pieces-test.true)))
          ∙ c.pieces.invariant.1),
    )
