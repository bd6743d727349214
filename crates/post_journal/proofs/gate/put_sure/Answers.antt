use Rattle.post_journal.proofs.GateSteps.{shows_put, shows_write}
use Rattle.post_journal.proofs.gate.put_sure.Goals as goal

pub returns-in_err-write_at-clause-shows : goal.returns-in_err-write_at-clause-shows
returns-in_err-write_at-clause-shows g c = let w = c.write_at.ensures in
    shows_write _ _ _ _ c.requires.sure w.told w.shown w.leaves w.syncs

pub returns-clause-shows : goal.returns-clause-shows
returns-clause-shows g c = let w = c.write_at.ensures in let s = c.sync.ensures in
    shows_put _ (g.D.Disk.state c.write_at.new.self) _ _ c.args.bytes.now c.requires.within
    c.in_ok-write_at.ensures.written
    (shows_write _ _ _ _ c.requires.sure w.told w.shown w.leaves w.syncs) s.content s.leaves s.later
