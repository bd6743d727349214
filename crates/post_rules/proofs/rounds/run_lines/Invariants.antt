use Rattle.std.proofs.Common.{◌≡◌, ◌+◌, drop}
use Rattle.post_model.specs.Yields.{lines_run}
use Rattle.post_rules.specs.Bounds.{IsSmallMade}
use Rattle.post_rules.proofs.rounds.run_lines.Given as goal

-- what the lines that are left make of what is made so far is what all make
abbrev pub invariant-lines : goal.invariant-lines
invariant-lines g l =
    (lines_run l.config (g.B.Balances.books l.view) l.doc l.statements (l.line + 1)
    (drop l.cells-index l.cells-items) l.made
    ≡ lines_run l.config (g.B.Balances.books l.view) l.doc l.statements 1 l.doc.lines l.fn.begun)
    × (l.line ≡ l.cells-index)
    × IsSmallMade l.made
