use Rattle.std.proofs.Common.{◌∙◌, arith}
use Rattle.post_journal.proofs.ReadRuns.{ended, is_fault, longer, one_more_read, stopped}
use Rattle.post_journal.proofs.Shows.{stays_trans}
use Rattle.post_journal.proofs.entries.read_run.Goals as goal

pub returns-in_err-count-clause-run : goal.returns-in_err-count-clause-run
returns-in_err-count-clause-run g c = let i = c.entries.invariant in
    rw (is_fault c.from_residual.result c.in_err-count.field-0.0 c.from_residual.ensures)
    (stopped (g.D.Disk.state c.args.disk.now).content c.entries.entries c.entries.place
    c.in_err-count.field-0.0 i.read
    (rw i.stays.content at c.in_err-count.ensures.finds))

pub entries-preserved : goal.entries-preserved
entries-preserved g c = let i = c.entries.invariant in
    let found = c.in_ok-count.ensures in let put = c.in_ok-payload.ensures in
    let content = c.next_entry.ensures.stays.content ∙ i.stays.content in
    let here = rw c.in-Some.is at found.long in
    record {
      within = omega (arith, here.within);
      long = rw c.in_ok-push.ensures.ok
          (longer c.entries.entries c.in_ok-payload.payload c.entries.place c.args.len
          c.in-Some.count
          i.long here put.size);
      read = rw c.in_ok-push.ensures.ok (one_more_read (g.D.Disk.state c.args.disk.now).content
          c.entries.entries
          c.in_ok-payload.payload c.entries.place c.in-Some.count i.read
          (rw (i.stays.content, c.in-Some.is) at found.finds) (rw content at put.bytes));
      stays = stays_trans i.stays (stays_trans c.next_entry.ensures.stays
          c.read_payload.ensures.stays);
      later = omega (
        arith,
        i.later,
        c.next_entry.ensures.cause.later,
        c.read_payload.ensures.cause.later,
      );
      same = c.read_payload.ensures.same ∙ c.next_entry.ensures.same ∙ i.same;
    }

pub returns-clause-run : goal.returns-clause-run
returns-clause-run g c = let i = c.entries.invariant in
    ended (g.D.Disk.state c.args.disk.now).content c.entries.entries c.entries.place i.read
    (rw (i.stays.content, c.in_default.is) at c.in_ok-count.ensures.finds)
