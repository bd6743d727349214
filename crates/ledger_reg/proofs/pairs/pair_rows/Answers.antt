use Rattle.std.proofs.Common.{refl, ap}
use Rattle.std.specs.List.{flat_map}
use Rattle.ledger_reg.specs.Pairs.{pair_in, pairs_in, shown_pair}
use Rattle.ledger_reg.proofs.RowLemmas.{is_fault, stopped, put-more, put-left}
use Rattle.ledger_reg.proofs.pairs.pair_rows.Goals as goal

pub loop-pair-preserved : goal.loop-pair-preserved
loop-pair-preserved c = record {
  rows = put-more (shown_pair c.args.chart.now c.args.asked.now) c.loop-pair.rows _
      c.put_pair.new.rows _ (pair_in c.in-Some.pair.now, c.in-Some.amount.now)
      (pairs_in c.loop-pair.pair-iterator) (pairs_in c.next.new.self) c.loop-pair.invariant.rows
      (ap pairs_in c.in-Some.ensures.steps) refl c.in_ok-put_pair.ensures.0;
  few = c.in_ok-put_pair.ensures.1 c.loop-pair.invariant.few;
}

pub returns-in_err-put_pair : goal.returns-in_err-put_pair
returns-in_err-put_pair c =
    stopped c.from_residual.result c.in_err-put_pair.field-0.0 _ c.loop-pair.rows
    c.put_pair.new.rows
    (flat_map (shown_pair c.args.chart.now c.args.asked.now) (pairs_in c.next.new.self)) _
    c.in_err-put_pair.ensures (is_fault c.from_residual.result _ c.from_residual.ensures)
    (put-left (shown_pair c.args.chart.now c.args.asked.now) c.loop-pair.rows _ _
    (pair_in c.in-Some.pair.now, c.in-Some.amount.now)
    (pairs_in c.loop-pair.pair-iterator) (pairs_in c.next.new.self) c.loop-pair.invariant.rows
    (ap pairs_in c.in-Some.ensures.steps) refl)
