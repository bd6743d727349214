use Rattle.std.proofs.Common.{List, map, subst, arith}
use Rattle.std.specs.List.{filter}
use Rattle.std.proofs.lemmas.List.{take_all}
use Rattle.reg_base.specs.declared.records.Posting.{Posting}
use Rattle.reg_base.specs.BookedEntries.{BookedEntry}
use Rattle.ledger_reg.specs.Walks.{Adds, booked, counts}
use Rattle.ledger_reg.proofs.WalkLemmas.{Adds-both, set-more, set-few}
use Rattle.ledger_reg.proofs.walk.add_set.Goals as goal

pub add_counted-requires : goal.add_counted-requires
add_counted-requires g c = omega (
  arith,
  c.requires.size,
  c.loop-posting.invariant.growth,
  set-few (counts c.args.span.now) c.args.number c.args.set.now c.loop-posting.posting-index
      c.requires.short,
)

pub loop-posting-preserved : goal.loop-posting-preserved
loop-posting-preserved g c =
    let holds = g.S.Gathers.holds c.args.span.now in
    let size = g.S.Gathers.size in
    subst (λ (xs : List BookedEntry). Adds holds size xs c.args.sums.now c.add_counted.new.sums)
    (set-more (counts c.args.span.now) c.args.number c.args.set.now c.loop-posting.posting-index
    c.posting-item.result c.loop-posting-test.true c.posting-item.is)
    (Adds-both holds size _ _ c.args.sums.now c.loop-posting.sums c.add_counted.new.sums
    c.loop-posting.invariant c.in_ok-add_counted.ensures)

pub returns : goal.returns
returns g c =
    subst (λ (set : List Posting). Adds (g.S.Gathers.holds c.args.span.now) g.S.Gathers.size
    (filter (counts c.args.span.now) (map (booked c.args.number) set)) c.args.sums.now
    c.loop-posting.sums)
    (take_all c.loop-posting.posting-index c.args.set.now c.loop-posting-test.false)
    c.loop-posting.invariant
