use Rattle.std.proofs.Common.{◌≡◌, [], map}
use Rattle.ledger_reg.specs.Sides.{place_in}
use Rattle.ledger_reg.specs.Slots.{slots_in}
use Rattle.ledger_reg.specs.UnitRows.{put_places}
use Rattle.ledger_reg.proofs.unit_tables.sum_places.Given as goal

abbrev pub invariant-loop-key : goal.invariant-loop-key
invariant-loop-key l = put_places (map place_in l.places) (slots_in l.key-iterator)
    ≡ put_places [] (slots_in l.sums.sums.entries)
