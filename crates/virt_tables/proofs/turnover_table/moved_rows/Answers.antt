use Rattle.std.proofs.Common.{◌≡◌, [], ◌∷◌, ◌++◌, map, length, ap, ◌∙◌, sym, append_assoc}
use Rattle.std.specs.List.{filter}
use Rattle.std.specs.Vec.Iter.{into_iter_items}
use Rattle.std.proofs.lemmas.List.Elements.{filter-append}
use Rattle.reg_base.specs.Turnovers.{has_movement}
use Rattle.virt_tables.specs.Columns.{row_from}
use Rattle.virt_tables.specs.Limits.{room_for}
use Rattle.virt_tables.proofs.LimitLemmas.{le-room}
use Rattle.virt_tables.proofs.turnover_table.moved_rows.Goals as goal

pub loop-unit-preserved : goal.loop-unit-preserved
loop-unit-preserved c =
    let f = row_from c.args.moves.now.balances c.args.moves.now.resources in
    let rest = into_iter_items c.next.new.self in
    let left : into_iter_items c.loop-unit.unit-iterator ≡ c.in-Some.unit ∷ rest =
    c.in-Some.ensures.steps.0 in
    record {
      rows =
          ap (λ t. t ++ filter has_movement (map f rest)) c.in_ok-push_moved.ensures.rows
          ∙ append_assoc c.loop-unit.rows (filter has_movement (f c.in-Some.unit ∷ []))
          (filter has_movement (map f rest))
          ∙ ap (λ t. c.loop-unit.rows ++ t)
          (sym (filter-append has_movement (f c.in-Some.unit ∷ []) (map f rest))
          ∙ ap (λ t. filter has_movement (map f t)) (sym left))
          ∙ c.loop-unit.invariant.rows;
      room = le-room (length c.push_moved.new.rows)
          (ap (λ t. room_for (length t)) c.in_ok-push_moved.ensures.rows
          ∙ c.in_ok-push_moved.ensures.room);
    }
