use Rattle.std.proofs.Common.{◌≡◌, ◌^◌, List, [], length, ap, ◌∙◌, sym, subst}
use Rattle.std.specs.List.{filter, flat_map}
use Rattle.reg_base.specs.Tries.{Tries}
use Rattle.reg_base.specs.Records.{Booked, booked_by, records_of, chosen_records}
use Rattle.reg_base.specs.Turnovers.{edge_units, stands, both_rows, balance_and_turnovers_of}
use Rattle.reg_base.proofs.ForTables.{balance_and_turnovers_of-records_of}
use Rattle.table_sums.specs.Additions.{AreInReach, rows_over}
use Rattle.virt_tables.specs.Both.{both_width, brings, rows_after, zeros}
use Rattle.virt_tables.specs.Limits.{limited}
use Rattle.virt_tables.proofs.BothRows.{both_rows-brought}
use Rattle.virt_tables.proofs.BroughtLemmas.{carried-first}
use Rattle.virt_tables.proofs.LimitLemmas.{table_of-range, range-le}
use Rattle.virt_tables.proofs.both_table.balance_and_turnovers.Goals as goal

pub both_rows-requires : goal.both_rows-requires
both_rows-requires c =
    carried-first c.len.result _
    (subst (AreInReach (2 ^ 46)) (sym c.in_ok-into_rows.ensures) c.in_ok-sums.ensures.reach)

pub returns : goal.returns
returns c =
    let ask = c.args.ask.now in
    let range = c.args.range.now in
    let method = c.args.method in
    let n = c.len.result in
    let count = length c.args.register.now.resources in
    let chosen : List Booked = chosen_records ask.filter
    (flat_map (booked_by ask.register) c.args.documents) in
    let ends : c.as_slice-edges.result.now ≡ edge_units method range =
    c.as_slice-edges.ensures ∙ c.in_ok-ends.ensures.value in
    subst (Tries c.both_rows.result)
    (ap (λ t. limited (filter (stands c.as_slice-edges.result.now) (rows_after n [] (zeros n) t)))
    (c.in_ok-into_rows.ensures ∙ c.in_ok-sums.ensures.value)
    ∙ (λ i. limited (filter (stands (ends i)) (rows_after n [] (zeros n)
    (rows_over (both_width n) (flat_map (brings n ask.group range (ends i)) chosen)))))
    ∙ ap limited (both_rows-brought n ask.group range method chosen
    (range-le range.from range.to _ c.in_ok-check_range.ensures))
    ∙ ap (λ m. limited (both_rows m ask.group range method chosen)) c.len.ensures
    ∙ ap limited (sym (balance_and_turnovers_of-records_of count ask.register c.args.documents
    ask.filter ask.group range method))
    ∙ sym (table_of-range range (balance_and_turnovers_of count
    (records_of ask.register c.args.documents) ask.filter ask.group range method)
    c.in_ok-check_range.ensures))
    c.both_rows.ensures
