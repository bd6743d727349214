use Rattle.std.proofs.Common.{◌≡◌, [], map, take, drop}
use Rattle.std.specs.List.{list_any}
use Rattle.cfg_model.specs.Labels.{HasLabels}
use Rattle.cfg_model.specs.Walk.{first_second}
use Rattle.cfg_model.proofs.element.first_second.Given as goal

abbrev pub invariant-elements : goal.invariant-elements
invariant-elements g l =
    let label = g.E.Element.label_of in
    let sole = g.E.Element.sole in
    let before = take l.element-index l.found in
    (first_second label sole before (drop l.element-index l.found)
    ≡ first_second label sole [] l.found)
    × HasLabels l.labels.keys (map label before)
    × (l.has_sole ≡ list_any sole before)
