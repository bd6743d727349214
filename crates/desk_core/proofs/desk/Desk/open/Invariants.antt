use Rattle.std.proofs.Common.{drop}
use Rattle.post_journal.specs.Openings.{payloads}
use Rattle.desk_core.specs.Replaying.{IsReplaying}
use Rattle.desk_core.proofs.desk.Desk.open.Given as goal

abbrev pub invariant-replayed : goal.invariant-replayed
invariant-replayed l =
    IsReplaying (record { config = l.fn.config; rules = l.fn.rules }) (payloads l.entries)
    (payloads (drop l.entry-index l.entries)) l.index l.desk
