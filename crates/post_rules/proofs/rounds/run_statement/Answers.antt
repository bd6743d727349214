use Rattle.post_rules.specs.Bounds.{IsSmallMade}
use Rattle.post_rules.specs.SceneViews.{scene_view}
use Rattle.post_rules.proofs.MadeLemmas.{kept-by, small-act_run}
use Rattle.post_rules.proofs.rounds.run_statement.Goals as goal

pub returns-clause-kept : goal.returns-clause-kept
returns-clause-kept g c =
    kept-by IsSmallMade c.run_act.result _ c.run_act.ensures
    (small-act_run c.args.config.now (g.B.Balances.books c.args.view.now)
    (scene_view c.args.scene.now) c.args.statement.now.act c.args.made c.requires.reads.sheets
    c.requires.made)
