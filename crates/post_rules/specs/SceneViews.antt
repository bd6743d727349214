-- Private: the scene that the code's references show.
use Rattle.post_model.specs.Scenes.{Scene}
use Rattle.post_rules.specs.declared.scene.Scene.{Scene as SceneOf}

-- a scene of references, as the definitions see it
abbrev pub scene_view : SceneOf → Scene
scene_view scene = record {
  doc = scene.doc.now;
  rule = scene.rule;
  line = scene.line;
  cells = scene.cells.now;
  cost = scene.cost;
}
