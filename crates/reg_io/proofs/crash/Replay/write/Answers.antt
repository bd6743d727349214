use Rattle.std.proofs.Common.{refl, arith}
use Rattle.reg_io.proofs.Crashes.{follows_wrote, on_ok}
use Rattle.reg_io.proofs.crash.Replay.write.Goals as goal

pub returns : goal.returns
returns c = let old = c.args.self.now in
    on_ok c.put.result c.put.ensures (λ put h f.
    follows_wrote old _ h c.args.place c.min-place.result old.scrambled.len c.args.bytes.now f
    (omega (arith, c.min-place.ensures, c.len.ensures, old.content.ok))
    (omega (arith, old.scrambled.ok))
    refl put c.in_ok-scramble.ensures)
