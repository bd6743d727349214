use Rattle.std.proofs.Common.{◌+◌, ◌∷◌, map, drop, refl, ap, ◌∙◌, sym}
use Rattle.std.specs.List.{flat_map}
use Rattle.std.proofs.lemmas.List.{drop_more, drop_all}
use Rattle.ledger_reg.specs.Sides.{place_in}
use Rattle.ledger_reg.specs.Slots.{slots_in}
use Rattle.ledger_reg.specs.UnitRows.{asked_rows}
use Rattle.ledger_reg.proofs.RowLemmas.{is_fault, stopped, put-more, put-left, put-end, finished}
use Rattle.ledger_reg.proofs.unit_tables.rows_of.Goals as goal

pub loop-place-preserved : goal.loop-place-preserved
loop-place-preserved c =
    let sums = slots_in c.args.sums.now.sums.entries in
    let i = c.loop-place.place-index in
    record {
      rows = put-more (asked_rows c.args.chart.now c.args.ask.now c.args.units.now sums)
          c.loop-place.rows _ c.put_place.new.rows _ (place_in c.place-item.result)
          (map place_in (drop i c.args.places.now)) (map place_in (drop (i + 1) c.args.places.now))
          c.loop-place.invariant.rows
          (ap (map place_in) (drop_more c.args.places.now i c.place-item.result
          c.loop-place-test.true
          ∙ ap (λ k. k ∷ drop (i + 1) c.args.places.now) (sym c.place-item.is)))
          refl c.in_ok-put_place.ensures.0;
      few = c.in_ok-put_place.ensures.1 c.loop-place.invariant.few;
    }

pub returns-in_err-put_place : goal.returns-in_err-put_place
returns-in_err-put_place c =
    let sums = slots_in c.args.sums.now.sums.entries in
    let f = asked_rows c.args.chart.now c.args.ask.now c.args.units.now sums in
    let i = c.loop-place.place-index in
    let left = map place_in (drop (i + 1) c.args.places.now) in
    stopped c.from_residual.result c.in_err-put_place.field-0.0 _ c.loop-place.rows
    c.put_place.new.rows (flat_map f left) _
    c.in_err-put_place.ensures (is_fault c.from_residual.result _ c.from_residual.ensures)
    (put-left f c.loop-place.rows _ _ (place_in c.place-item.result)
    (map place_in (drop i c.args.places.now)) left c.loop-place.invariant.rows
    (ap (map place_in) (drop_more c.args.places.now i c.place-item.result c.loop-place-test.true
    ∙ ap (λ k. k ∷ drop (i + 1) c.args.places.now) (sym c.place-item.is)))
    refl)

pub returns : goal.returns
returns c =
    let f = asked_rows c.args.chart.now c.args.ask.now c.args.units.now
    (slots_in c.args.sums.now.sums.entries) in
    let i = c.loop-place.place-index in
    finished c.loop-place.rows (flat_map f (map place_in c.args.places.now))
    (put-end f c.loop-place.rows (flat_map f (map place_in c.args.places.now))
    (map place_in (drop i c.args.places.now)) c.loop-place.invariant.rows
    (ap (map place_in) (drop_all i c.args.places.now c.loop-place-test.false)))
    c.loop-place.invariant.few
