use Rattle.std.proofs.Common.{◌≡◌, false, take, []}
use Rattle.post_journal.specs.Journals.{Grows, Stands}
use Rattle.post_journal.specs.Openings.{payloads}
use Rattle.journal_tests.proofs.series_tests.append_all.Given as goal

abbrev pub invariant-loop-entry : goal.invariant-loop-entry
invariant-loop-entry g l = record {
  usable : l.journal.failed ≡ false;
  stands : Stands l.journal.end (g.D.Disk.state l.disk);
  grows : Grows (g.D.Disk.state l.fn.disk) (g.D.Disk.state l.disk)
      (payloads (take l.entry-index l.entries)) [];
}
