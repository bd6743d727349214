use Rattle.std.proofs.Common.{◌≡◌, map, take}
use Rattle.text_reports.proofs.cells.header.Given as goal

abbrev pub invariant-words : goal.invariant-words
invariant-words l = l.cells ≡ map (λ word. word.now) (take l.word-index l.words)
