use Rattle.std.proofs.Common.{◌≡◌, map, take}
use Rattle.virt_tables.proofs.ask.names_of.Given as goal

abbrev pub invariant-lists : goal.invariant-lists
invariant-lists l = l.names.items ≡ map (λ x. x.name) (take l.list-index l.lists)
