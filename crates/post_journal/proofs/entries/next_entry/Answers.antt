use Rattle.std.proofs.Common.{arith, length-take}
use Rattle.post_journal.proofs.ReadRuns.{finds_told, head_told}
use Rattle.post_journal.proofs.entries.next_entry.Goals as goal

pub returns-clause-finds : goal.returns-clause-finds
returns-clause-finds g c =
    finds_told (g.D.Disk.state c.args.disk.now).content c.args.place c.args.len _ c.entry_by.result
    c.entry_by.ensures.finds c.requires.len
    (head_told (g.D.Disk.state c.args.disk.now).content c.args.len c.args.place 5 _ c.read.new.into
    _ c.requires.len
    (simp length-take (omega (arith, c.min-count.ensures))) c.read.auto.into
    c.in_ok-read.ensures.bytes)
