use Rattle.std.proofs.Common.{◌+◌, ◌^◌, length, arith}
use Rattle.reg_base.specs.Records.{Booked}
use Rattle.row_sums.specs.Sums.{booked}
use Rattle.table_sums.proofs.ForAbove.{Adds-both, reach-more}
use Rattle.virt_tables.specs.Both.{both_width, most_brought, before_at, moved_at, ends_at}
use Rattle.virt_tables.proofs.BroughtLemmas.{before-short, moved-short}
use Rattle.virt_tables.proofs.both_sums.add_brought.Goals as goal

pub add_before-requires : goal.add_before-requires
add_before-requires c =
    reach-more (most_brought + 15_000) (2 ^ 46) (omega arith) c.args.sums.now c.requires.reach

pub add_moved-requires : goal.add_moved-requires
add_moved-requires c =
    let m = c.args.moves.now in
    let b : Booked = booked c.args.number c.args.rec.now in
    reach-more (most_brought + 15_000
    + length (before_at m.resources m.ask.now.group m.range.now b)) (2 ^ 46)
    (omega (arith, before-short m.resources m.ask.now.group m.range.now b))
    c.add_before.new.sums
    (c.in_ok-add_before.ensures.reach (most_brought + 15_000) c.requires.reach)

pub add_ends-requires-clause-reach : goal.add_ends-requires-clause-reach
add_ends-requires-clause-reach c =
    let m = c.args.moves.now in
    let b : Booked = booked c.args.number c.args.rec.now in
    let before = length (before_at m.resources m.ask.now.group m.range.now b) in
    let moved = length (moved_at m.resources m.ask.now.group m.range.now b) in
    reach-more ((most_brought + 15_000 + before) + moved) (most_brought + 15_002)
    (omega (
      arith,
      before-short m.resources m.ask.now.group m.range.now b,
      moved-short m.resources m.ask.now.group m.range.now b,
    ))
    c.add_moved.new.sums
    (c.in_ok-add_moved.ensures.reach (most_brought + 15_000 + before)
    (c.in_ok-add_before.ensures.reach (most_brought + 15_000) c.requires.reach))

pub returns : goal.returns
returns c =
    let m = c.args.moves.now in
    let b : Booked = booked c.args.number c.args.rec.now in
    let width = both_width m.resources in
    Adds-both width (before_at m.resources m.ask.now.group m.range.now b) _
    c.args.sums.now c.add_before.new.sums c.add_ends.new.sums c.in_ok-add_before.ensures
    (Adds-both width (moved_at m.resources m.ask.now.group m.range.now b)
    (ends_at m.resources m.ask.now.group c.args.ends.now c.args.rec.now)
    c.add_before.new.sums c.add_moved.new.sums c.add_ends.new.sums c.in_ok-add_moved.ensures
    c.in_ok-add_ends.ensures)
