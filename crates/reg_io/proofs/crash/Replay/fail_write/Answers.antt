use Rattle.std.proofs.Common.{refl, arith}
use Rattle.reg_io.proofs.Crashes.{follows_failed, on_ok}
use Rattle.reg_io.proofs.crash.Replay.fail_write.Goals as goal

pub returns : goal.returns
returns c = let old = c.args.self.now in
    on_ok c.scramble.result c.scramble.ensures (λ blot h f.
    follows_failed old _ h c.args.place c.args.count c.min-place.result old.scrambled.len f
    (omega (arith, c.min-place.ensures, c.len.ensures, old.content.ok))
    (omega (arith, old.scrambled.ok))
    refl refl blot)
