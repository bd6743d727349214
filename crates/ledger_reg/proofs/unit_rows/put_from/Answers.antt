use Rattle.std.proofs.Common.{ℕ, SFits, to_z, length, ap, ◌∙◌, arith, rules}
use Rattle.std.specs.Int.{w128}
use Rattle.std.proofs.lemmas.Int.{to_z-of_z}
use Rattle.ledger_reg.specs.Sizes.{size_of}
use Rattle.ledger_reg.specs.Slots.{slot_in, slots_in}
use Rattle.ledger_reg.specs.UnitRows.{place_of}
use Rattle.ledger_reg.proofs.RowLemmas.{is_fault}
use Rattle.ledger_reg.proofs.PutLemmas.{rows-end, rows-next, rows-stopped}
use Rattle.ledger_reg.proofs.unit_rows.put_from.Goals as goal

pub loop-start-preserved : goal.loop-start-preserved
loop-start-preserved c =
    let inv = c.loop-start.invariant in
    let fits : SFits w128 c.net_after-net.result = search rules in
    let plain = to_z-of_z w128 c.net_after-net.result fits in
    let at-is = c.amounts_in-moved.ensures.same ∙ inv.place in
    record {
      rows = rows-next c.args.units.now c.args.nature (slots_in c.args.sums.now.sums.entries)
          (place_of (slot_in c.args.first)) (to_z w128 c.loop-start.net-bits) c.loop-start.rows
          c.args.rows.now _ _ _ _ c.as_slice-start-items.ensures c.loop-start-test.true
          c.start-item.is inv.rows _ at-is _ c.seconds.ensures.value _
          c.amounts_in-moved.ensures.value c.put_unit.new.rows _ c.in_ok-put_unit.ensures.0
          (plain ∙ c.net_after-net.ensures.value);
      few = λ h. c.in_ok-put_unit.ensures.1 (inv.few h);
      place = at-is;
      small = omega (
        arith,
        ap size_of plain,
        c.net_after-net.ensures.small,
        inv.small,
        c.amounts_in-moved.ensures.small,
        c.requires.small,
      );
    }

pub returns-in_err-put_unit : goal.returns-in_err-put_unit
returns-in_err-put_unit c =
    rows-stopped c.args.units.now c.args.nature (slots_in c.args.sums.now.sums.entries)
    (place_of (slot_in c.args.first)) (to_z w128 c.loop-start.net-bits) c.loop-start.rows
    c.args.rows.now _ _ _ _ c.as_slice-start-items.ensures c.loop-start-test.true
    c.start-item.is c.loop-start.invariant.rows _
    (c.amounts_in-moved.ensures.same ∙ c.loop-start.invariant.place) _ c.seconds.ensures.value _
    c.amounts_in-moved.ensures.value c.from_residual.result
    c.in_err-put_unit.field-0.0 c.put_unit.new.rows _ c.in_err-put_unit.ensures
    (is_fault c.from_residual.result _ c.from_residual.ensures)

pub returns : goal.returns
returns c = (
  rows-end c.args.units.now c.args.nature (slots_in c.args.sums.now.sums.entries)
      (place_of (slot_in c.args.first)) (to_z w128 c.loop-start.net-bits) c.loop-start.rows
      c.args.rows.now _ c.loop-start.start-index
      (omega (arith, c.loop-start-test.false, ap {B = ℕ} length c.as_slice-start-items.ensures))
      c.loop-start.invariant.rows,
  c.loop-start.invariant.few,
)
