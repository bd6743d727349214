use Rattle.std.proofs.Common.{◌≡◌, [], ◌∷◌, ◌++◌, length, ap, ◌∙◌, sym, subst, append_assoc}
use Rattle.std.specs.List.{filter}
use Rattle.std.specs.Vec.Iter.{into_iter_items}
use Rattle.std.proofs.lemmas.List.Elements.{filter-append}
use Rattle.reg_base.specs.declared.tables.Row.{Row}
use Rattle.reg_base.specs.Turnovers.{stands}
use Rattle.virt_tables.specs.Both.{row_after, rows_after, IsCarried}
use Rattle.virt_tables.specs.Limits.{room_for}
use Rattle.virt_tables.proofs.BroughtLemmas.{carried-one, carried-next}
use Rattle.virt_tables.proofs.LimitLemmas.{le-room}
use Rattle.virt_tables.proofs.both_table.both_rows.Goals as goal

pub push_both-requires-clause-carried : goal.push_both-requires-clause-carried
push_both-requires-clause-carried c =
    let balance = c.loop-unit.carried.balance in
    carried-one c.args.resources balance c.in-Some.unit (into_iter_items c.next.new.self)
    (subst (IsCarried c.args.resources balance) c.in-Some.ensures.steps.0
    c.loop-unit.invariant.carried)

pub loop-unit-preserved : goal.loop-unit-preserved
loop-unit-preserved c =
    let n = c.args.resources in
    let test = stands c.args.ends.now in
    let s = c.in-Some.unit in
    let rest = into_iter_items c.next.new.self in
    let group = c.loop-unit.carried.group in
    let balance = c.loop-unit.carried.balance in
    let row : Row = row_after n group balance s in
    let left : into_iter_items c.loop-unit.unit-iterator ≡ s ∷ rest =
    c.in-Some.ensures.steps.0 in
    record {
      rows =
          (λ i. c.in_ok-push_both.ensures.rows i ++ filter test (rows_after n
          (c.in_ok-push_both.ensures.group i) (c.in_ok-push_both.ensures.balance i) rest))
          ∙ append_assoc c.loop-unit.rows (filter test (row ∷ []))
          (filter test (rows_after n s.group row.closing rest))
          ∙ ap (λ t. c.loop-unit.rows ++ t)
          (sym (filter-append test (row ∷ []) (rows_after n s.group row.closing rest))
          ∙ ap (λ t. filter test (rows_after n group balance t)) (sym left))
          ∙ c.loop-unit.invariant.rows;
      room = le-room (length c.push_both.new.rows)
          (ap (λ t. room_for (length t)) c.in_ok-push_both.ensures.rows
          ∙ c.in_ok-push_both.ensures.room);
      carried = subst (λ b. IsCarried n b rest) (sym c.in_ok-push_both.ensures.balance)
          (carried-next n group balance s rest
          (subst (IsCarried n balance) left c.loop-unit.invariant.carried));
    }
