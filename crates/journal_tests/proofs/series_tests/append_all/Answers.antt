use Rattle.post_journal.proofs.ForAbove.{grows_none}
use Rattle.journal_tests.proofs.Series.{grows_all, grows_next}
use Rattle.journal_tests.proofs.series_tests.append_all.Goals as goal

pub loop-entry-init : goal.loop-entry-init
loop-entry-init g c = record {
  usable = c.requires.usable;
  stands = c.requires.stands;
  grows = grows_none _ c.requires.stands.sure;
}

pub loop-entry-preserved : goal.loop-entry-preserved
loop-entry-preserved g c = let i = c.loop-entry.invariant in let e = c.in_ok-append.ensures in
    record {
      usable = e.usable;
      stands = e.stands;
      grows = grows_next _ _ _ c.args.entries.now c.entry-item.result c.loop-entry.entry-index
          c.loop-entry-test.true c.entry-item.is i.grows e.grows;
    }

pub returns : goal.returns
returns g c =
    grows_all _ _ c.args.entries.now c.loop-entry.entry-index c.loop-entry-test.false
    c.loop-entry.invariant.grows
