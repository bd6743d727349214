use Rattle.std.proofs.Common.{◌≡◌, ◌+◌, drop}
use Rattle.post_model.specs.Yields.{round_run}
use Rattle.post_rules.specs.Bounds.{IsSmallMade}
use Rattle.post_rules.proofs.rounds.run_round.Given as goal

-- what the statements that are left make of what is made so far is what all make
abbrev pub invariant-statements : goal.invariant-statements
invariant-statements g l =
    (round_run l.config (g.B.Balances.books l.view) l.doc l.each l.line l.cells (l.rule + 1)
    (drop l.statement-index l.statements) l.made
    ≡ round_run l.config (g.B.Balances.books l.view) l.doc l.each l.line l.cells 1 l.statements
    l.fn.begun)
    × (l.rule ≡ l.statement-index)
    × IsSmallMade l.made
