use Rattle.std.proofs.Common.{◌≡◌, take}
use Rattle.desk_tables.specs.Listed.{rows_at}
use Rattle.desk_tables.proofs.documents.rows_of.Given as goal

abbrev pub invariant-loop-number : goal.invariant-loop-number
invariant-loop-number l =
    l.rows.items ≡ rows_at l.config l.store.documents (take l.number-index l.numbers)
