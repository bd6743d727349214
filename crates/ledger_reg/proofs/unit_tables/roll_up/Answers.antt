use Rattle.std.proofs.Common.{ℕ, [], ap, ◌∙◌, sym, arith}
use Rattle.std.specs.List.{flat_map}
use Rattle.cfg_model.specs.AccountTables.{is_at_or_below}
use Rattle.ledger_reg.specs.Sides.{amounts_size}
use Rattle.ledger_reg.specs.Sizes.{total_size}
use Rattle.ledger_reg.specs.Slots.{slot_in, slots_in, add_slots}
use Rattle.ledger_reg.specs.UnitRows.{rolled_at, rolled_if}
use Rattle.ledger_reg.proofs.SlotLemmas.{add_slots-append, add_slots-sums}
use Rattle.ledger_reg.proofs.unit_tables.roll_up.Goals as goal

pub add_rolled-requires-clause-reach : goal.add_rolled-requires-clause-reach
add_rolled-requires-clause-reach c = omega (arith, c.loop-key.invariant.size, c.requires)

pub add_rolled-requires-clause-small : goal.add_rolled-requires-clause-small
add_rolled-requires-clause-small c = omega (
  arith,
  c.loop-key.invariant.size,
  ap {B = ℕ} (total_size amounts_size) c.in-Some.ensures.steps,
  c.requires,
)

pub loop-key-preserved : goal.loop-key-preserved
loop-key-preserved c =
    let f = rolled_at c.args.chart.now c.args.top.now in
    let left = flat_map f (slots_in c.next.new.self) in
    let before = slots_in c.loop-key.rolled.sums.entries in
    record {
      value = ap (λ es. add_slots es left) (c.in_ok-add_rolled.ensures.value
          ∙ ap (λ b. add_slots before (rolled_if b c.args.top.now
          (slot_in c.in-Some.key.now, c.in-Some.amounts.now))) c.find_below-last.ensures.counts)
          ∙ sym (add_slots-append before
          (f (slot_in c.in-Some.key.now, c.in-Some.amounts.now)) left)
          ∙ ap (λ es. add_slots before (flat_map f (slots_in es))) (sym c.in-Some.ensures.steps)
          ∙ c.loop-key.invariant.value;
      last = c.find_below-last.ensures.counts
          ∙ ap (is_at_or_below c.args.chart.now c.args.top.now)
          (sym c.find_below-last.ensures.account);
      size = omega (
        arith,
        c.in_ok-add_rolled.ensures.growth,
        c.loop-key.invariant.size,
        ap {B = ℕ} (total_size amounts_size) c.in-Some.ensures.steps,
      );
    }

pub returns-clause-value : goal.returns-clause-value
returns-clause-value c =
    let f = rolled_at c.args.chart.now c.args.top.now in
    let before = slots_in c.loop-key.rolled.sums.entries in
    ap (λ es. add_slots before (flat_map f (slots_in es))) (sym c.in-None.ensures.steps.0)
    ∙ c.loop-key.invariant.value
    ∙ add_slots-sums [] (flat_map f (slots_in c.args.sums.now.sums.entries))

pub returns-clause-small : goal.returns-clause-small
returns-clause-small c = omega (arith, c.loop-key.invariant.size, c.requires)
