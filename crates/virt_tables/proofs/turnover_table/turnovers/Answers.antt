use Rattle.std.proofs.Common.{List, map, length, ap, ◌∙◌, sym, subst}
use Rattle.std.specs.List.{filter, flat_map}
use Rattle.reg_base.specs.Tries.{Tries}
use Rattle.reg_base.specs.Records.{Booked, booked_by, records_of, chosen_records}
use Rattle.reg_base.specs.Turnovers.{in_range, turnover_rows, turnovers_of}
use Rattle.reg_base.specs.Turnovers.{has_movement}
use Rattle.virt_tables.specs.Columns.{row_from}
use Rattle.virt_tables.specs.Limits.{limited}
use Rattle.virt_tables.proofs.ColumnLemmas.{shown-moves}
use Rattle.virt_tables.proofs.LimitLemmas.{table_of-range}
use Rattle.reg_base.proofs.ForTables.{turnovers_of-records_of}
use Rattle.virt_tables.proofs.turnover_table.turnovers.Goals as goal

pub returns : goal.returns
returns c =
    let ask = c.args.ask.now in
    let range = c.args.range.now in
    let balances = c.args.register.now.balance in
    let records : List Booked = in_range range (chosen_records ask.filter
    (flat_map (booked_by ask.register) c.args.documents)) in
    subst (Tries c.moved_rows.result)
    (ap (λ t. limited (filter has_movement (map (row_from balances c.len.result) t)))
    (c.in_ok-into_rows.ensures ∙ c.in_ok-sums.ensures.value)
    ∙ ap limited (shown-moves balances c.len.result ask.group range.by records)
    ∙ ap (λ n. limited (turnover_rows balances n ask.group range.by records)) c.len.ensures
    ∙ ap limited (sym (turnovers_of-records_of balances (length c.args.register.now.resources)
    ask.register c.args.documents ask.filter ask.group range))
    ∙ sym (table_of-range range (turnovers_of balances (length c.args.register.now.resources)
    (records_of ask.register c.args.documents) ask.filter ask.group range)
    c.in_ok-check_range.ensures))
    c.moved_rows.ensures
