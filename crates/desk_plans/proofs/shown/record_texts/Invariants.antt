use Rattle.std.proofs.Common.{◌≡◌, map, take}
use Rattle.desk_plans.proofs.shown.record_texts.Given as goal

abbrev pub invariant-records : goal.invariant-records
invariant-records g l = l.texts ≡ map (g.S.Shows.text_of l.space) (take l.item-index l.set)
