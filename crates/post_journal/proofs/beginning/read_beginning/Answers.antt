use Rattle.std.proofs.Common.{arith, length-take}
use Rattle.post_journal.proofs.ReadRuns.{front_told, kind_told}
use Rattle.post_journal.proofs.beginning.read_beginning.Goals as goal

pub returns-clause-kind : goal.returns-clause-kind
returns-clause-kind g c =
    kind_told (g.D.Disk.state c.args.disk.now).content c.beginning_by.result c.read.new.into
    c.args.len
    c.beginning_by.ensures.kind c.requires
    (front_told (g.D.Disk.state c.args.disk.now).content c.args.len 0 23 _ c.read.new.into
    c.requires
    (simp length-take (omega (arith, c.min-count.ensures))) c.in_ok-read.ensures.bytes)
