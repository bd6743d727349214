use Rattle.std.proofs.Common.{◌∙◌, refl}
use Rattle.reg_io.proofs.Crashes.{follows_synced}
use Rattle.reg_io.proofs.crash.Replay.confirm.Goals as goal

pub returns : goal.returns
returns c = λ h f. follows_synced c.args.self.now _ h f
    (c.in_ok-confirmed.ensures.items ∙ c.deref.ensures.value) refl
    (c.in_ok-scrambled.ensures.items ∙ c.deref-2.ensures.value)
