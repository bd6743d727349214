use Rattle.std.proofs.Common.{refl}
use Rattle.reg_io.proofs.Crashes.{follows_cut}
use Rattle.reg_io.proofs.crash.Replay.follow.Goals as goal

pub returns-in-Cut : goal.returns-in-Cut
returns-in-Cut c = λ h f. rw c.in-Cut.is
    (follows_cut c.args.self.now _ h c.in-Cut.len f refl c.truncate.ensures.items refl)
