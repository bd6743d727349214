use Rattle.post_journal.proofs.Begins.{empty_closed, small_torn, told_before}
use Rattle.post_journal.proofs.Shows.{shows_by, shows_more}
use Rattle.post_journal.proofs.opening.begin_empty.Goals as goal

pub begin-requires-clause-closed : goal.begin-requires-clause-closed
begin-requires-clause-closed g c = empty_closed _ _ c.requires.small c.in_ok-put_sure.ensures.ok

pub returns-in_err-put_sure-clause-shows : goal.returns-in_err-put_sure-clause-shows
returns-in_err-put_sure-clause-shows g c =
    shows_by c.put_sure.ensures.shows (small_torn _ c.requires.small)

pub returns-clause-shows : goal.returns-clause-shows
returns-clause-shows g c =
    shows_more (shows_by c.put_sure.ensures.shows (small_torn _ c.requires.small))
    c.begin.ensures.shows (λ image none. told_before _ _ _ _ c.in_ok-put_sure.ensures.ok none)
