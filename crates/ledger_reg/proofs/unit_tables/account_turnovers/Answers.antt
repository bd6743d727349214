use Rattle.std.proofs.Common.{ℕ, false, List, ap, ◌∙◌, subst}
use Rattle.std.specs.List.{filter, flat_map}
use Rattle.reg_base.specs.BookedEntries.{entered_by}
use Rattle.reg_base.specs.Tries.{Tries}
use Rattle.ledger_reg.specs.declared.walk.Span.TheVariants.{During}
use Rattle.reg_base.specs.Turnovers.{limited_rows}
use Rattle.ledger_reg.specs.Slots.{SlotAmounts, slot_sums, slots_of}
use Rattle.ledger_reg.specs.UnitRows.{unit_table}
use Rattle.ledger_reg.specs.Walks.{counts}
use Rattle.ledger_reg.proofs.RowLemmas.{table-limited}
use Rattle.ledger_reg.proofs.UnitTableLemmas.{shown-turnovers}
use Rattle.ledger_reg.proofs.unit_tables.account_turnovers.Goals as goal

pub returns : goal.returns
returns c =
    let chart = c.args.chart.now in
    let ask = c.args.ask.now in
    let range = c.args.range.now in
    let sums : List SlotAmounts = slot_sums (flat_map (slots_of (During range))
    (filter (counts (During range)) (flat_map (entered_by ask.ledger) c.args.documents))) in
    subst (Tries c.table_rows.result)
    (ap (λ (starts : List ℕ). limited_rows (unit_table chart ask (record {
      by = range.by;
      nets = false;
      starts = starts;
    }) sums)) c.in_ok-range_starts.ensures.value
    ∙ ap limited_rows (shown-turnovers chart ask range c.args.documents)
    ∙ table-limited range _ _ c.in_ok-check_range.ensures)
    c.table_rows.ensures
