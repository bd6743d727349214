use Rattle.post_journal.proofs.GateSteps.{first_put, second_put}
use Rattle.post_journal.proofs.Shows.{shows_by, shows_more}
use Rattle.post_journal.proofs.gate.open_behind.Goals as goal

pub returns-in_err-put_sure-clause-shows : goal.returns-in_err-put_sure-clause-shows
returns-in_err-put_sure-clause-shows g c =
    shows_by c.put_sure.ensures.shows (first_put _ _ c.args.behind.now)

pub returns-clause-shows : goal.returns-clause-shows
returns-clause-shows g c =
    shows_more (shows_by c.put_sure.ensures.shows (first_put _ _ c.args.behind.now))
    c.put_sure-2.ensures.shows
    (second_put _ _ _ c.args.behind.now c.requires.gate c.in_ok-put_sure.ensures.ok)
