use Rattle.std.proofs.Common.{◌≡◌, ◌++◌, ◌∷◌, drop}
use Rattle.std.specs.List.{flat_map}
use Rattle.text_reports.specs.StockCards.{card_header, card_lines}
use Rattle.text_reports.proofs.stock.stock_lines.Given as goal

abbrev pub invariant-rows : goal.invariant-rows
invariant-rows l =
    l.lines ++ flat_map (card_lines l.register) (drop l.row-index l.rows)
    ≡ card_header ∷ flat_map (card_lines l.register) l.rows
