use Rattle.post_journal.proofs.Begins.{begin_image, begin_stands, closed_within}
use Rattle.post_journal.proofs.Shows.{shows_by}
use Rattle.post_journal.proofs.opening.begin.Goals as goal

pub open_behind-requires-clause-gate : goal.open_behind-requires-clause-gate
open_behind-requires-clause-gate g c = closed_within _ c.requires.closed

pub returns-clause-stands : goal.returns-clause-stands
returns-clause-stands g c = let e = c.open_behind.ensures in
    begin_stands (g.D.Disk.state c.args.disk.now) (g.D.Disk.state c.open_behind.new.disk)
    c.open_behind.result c.requires.closed e.ok e.sure

pub returns-clause-shows : goal.returns-clause-shows
returns-clause-shows g c =
    shows_by c.open_behind.ensures.shows (begin_image _ c.requires.closed)
