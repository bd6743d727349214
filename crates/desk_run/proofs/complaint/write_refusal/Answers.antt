use Rattle.std.proofs.Common.{codes, inr}
use Rattle.desk_run.proofs.PieceLemmas.{AppendsPrefix-first, WritesLine-behind}
use Rattle.desk_run.proofs.complaint.write_refusal.Goals as goal

pub returns-in-Ok : goal.returns-in-Ok
returns-in-Ok g c = WritesLine-behind _ _ _ (codes "regdesk: refused: ") c.args.line.now _ _ _
    (rw c.as_bytes.ensures.value at c.in-Ok.ensures.ok) c.in-Ok.ensures.cause.later
    c.write_end.ensures

pub returns-in-Err : goal.returns-in-Err
returns-in-Err g c = record {
  out = inr (
    AppendsPrefix-first _ _ (codes "regdesk: refused: ") c.args.line.now
        (rw c.as_bytes.ensures.value at c.in-Err.ensures.err),
    c.in-Err.ensures.cause.failed,
  );
}
