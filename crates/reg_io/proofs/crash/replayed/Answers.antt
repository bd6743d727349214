use Rattle.reg_io.proofs.Crashes.{follows_all, follows_first, follows_next}
use Rattle.reg_io.proofs.crash.replayed.Goals as goal

pub loop-call-init : goal.loop-call-init
loop-call-init c = record {
  follows = follows_first _ c.args.first.now c.in_ok-from_slice.ensures.items
      c.in_ok-from_slice-2.ensures.items c.in_ok-from_slice-3.ensures.items;
}

pub loop-call-preserved : goal.loop-call-preserved
loop-call-preserved c = record {
  follows = follows_next c.loop-call.replay c.follow.new.self c.args.first.now c.args.calls.now
      c.call-item.result c.loop-call.call-index c.loop-call.invariant.follows c.loop-call-test.true
      c.call-item.is c.in_ok-follow.ensures;
}

pub returns : goal.returns
returns c =
    follows_all c.loop-call.replay c.args.first.now c.args.calls.now c.loop-call.call-index
    c.loop-call.invariant.follows c.loop-call-test.false
