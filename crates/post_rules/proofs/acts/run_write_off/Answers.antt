use Rattle.std.proofs.Common.{◌∙◌}
use Rattle.post_rules.specs.SceneViews.{scene_view}
use Rattle.post_rules.proofs.ReadLemmas.{write_off-run}
use Rattle.post_rules.proofs.acts.run_write_off.Goals as goal

pub returns : goal.returns
returns g c =
    write_off-run c.args.config.now (g.B.Balances.books c.args.view.now)
    (scene_view c.args.scene.now) c.args.fifo c.args.register c.args.binds.now c.args.quantity
    c.args.wanted.now c.args.amount c.as_slice-holdings.result.now c.args.made c.in_ok-made.made
    c.in_ok-item.item c.write_off_from.result c.in_ok-item.ensures c.in_ok-made.ensures
    (c.as_slice-holdings.ensures ∙ c.in_ok-holdings.ensures.value) c.write_off_from.ensures
