use Rattle.std.proofs.Common.{◌≡◌, ◌++◌, map, drop}
use Rattle.std.specs.List.{enumerate_from}
use Rattle.text_reports.specs.StockCards.{card_line, card_lines}
use Rattle.text_reports.proofs.stock.push_row.Given as goal

abbrev pub invariant-resources : goal.invariant-resources
invariant-resources l =
    l.lines ++ map (λ (place, resource). card_line l.row place resource)
    (enumerate_from l.place (drop l.place l.register.resources))
    ≡ l.initial.lines ++ card_lines l.register l.row
