use Rattle.std.proofs.Common.{◌∙◌, arith, refl}
use Rattle.desk_core.proofs.ForAbove.{is_fault}
use Rattle.desk_run.proofs.RunEnds.{IsRunning-none, IsRunning-more, Runs-fault, Runs-answer}
use Rattle.desk_run.proofs.RunEnds.{Runs-end}
use Rattle.desk_run.proofs.run.answer_lines.Goals as goal

pub answered-init : goal.answered-init
answered-init g c = record {
  running = IsRunning-none _ _ _ _ _ c.args.journal.now _ c.requires.fresh.1 c.requires.holds;
  going = c.requires.going;
  holds = c.requires.holds;
  fault = c.requires.fresh.0;
  read_later = omega arith;
  write_later = omega arith;
  disk_later = omega arith;
  same = refl;
  disk_same = refl;
}

pub returns-in_err-line-clause-runs : goal.returns-in_err-line-clause-runs
returns-in_err-line-clause-runs g c = let i = c.answered.invariant in
    rw (is_fault c.from_residual.result _ c.from_residual.ensures)
    (Runs-fault g.S.Device.left g.S.Device.read_faults _ _ _ c.answered.lines c.next_line.new.self _
    _ _ _ _ _ _ _ _ _
    i.running i.read_later (c.in_err-line.ensures.next i.fault))

pub answered-preserved : goal.answered-preserved
answered-preserved g c = let i = c.answered.invariant in
    let next = c.in_ok-line.ensures in let answer = c.in_ok-answer.ensures in
    let ran = answer.answered.1 in record {
      running = IsRunning-more _ _ _ _ _ _ _ _ _ _ _ _ _ c.in-Some.line _ _ _ _ i.running
          (rw c.in-Some.is at next.next i.fault)
          answer.answered.0 ran (answer.ready ran.going);
      going = ran.going;
      holds = answer.ready ran.going;
      fault = next.fault i.fault;
      read_later = omega (arith, i.read_later, next.later);
      write_later = omega (arith, i.write_later, answer.later);
      disk_later = omega (arith, i.disk_later, answer.disk_later);
      same = next.same ∙ i.same;
      disk_same = answer.same ∙ i.disk_same;
    }

pub returns-in_err-answer-clause-runs : goal.returns-in_err-answer-clause-runs
returns-in_err-answer-clause-runs g c = let i = c.answered.invariant in
    let next = c.in_ok-line.ensures in
    rw (is_fault c.from_residual-in_err-answer.result _ c.from_residual-in_err-answer.ensures)
    (Runs-answer _ _ _ _ _ _ _ _ _ _ _ _ _ _ _ _ _ _ _ c.in-Some.line _ _ _ _ _ _ _ _ i.running
    (rw c.in-Some.is at next.next i.fault)
    i.write_later i.disk_later i.going c.in_err-answer.ensures.ready
    c.in_err-answer.ensures.answered)

pub returns-clause-runs : goal.returns-clause-runs
returns-clause-runs g c = let i = c.answered.invariant in
    Runs-end g.S.Device.left _ _ _ c.answered.lines c.next_line.new.self _ _ _ _ _ _ _ _ i.running
    (rw c.in_default.is at c.in_ok-line.ensures.next i.fault)
