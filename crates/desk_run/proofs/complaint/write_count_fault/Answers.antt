use Rattle.desk_run.proofs.PieceLemmas.{WritesLine-is, count_line}
use Rattle.desk_run.proofs.complaint.write_count_fault.Goals as goal

pub returns : goal.returns
returns g c = WritesLine-is
    (count_line c.args.what.now c.digits-number.result.now c.args.number
    c.digits-number.ensures)
    c.write_line.ensures
