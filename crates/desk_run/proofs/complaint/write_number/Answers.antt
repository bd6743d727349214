use Rattle.desk_run.proofs.PieceLemmas.{WritesLine-is, journal_line}
use Rattle.desk_run.proofs.complaint.write_number.Goals as goal

pub returns : goal.returns
returns g c = WritesLine-is
    (journal_line c.args.front.now c.digits-number.result.now c.args.number
    c.digits-number.ensures)
    c.write_line.ensures
