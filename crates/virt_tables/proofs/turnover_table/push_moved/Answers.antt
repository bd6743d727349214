use Rattle.std.proofs.Common.{◌≡◌, [], ◌∷◌, ◌++◌, length, ap, ◌∙◌, sym, subst}
use Rattle.std.proofs.Common.{length-append}
use Rattle.std.proofs.lemmas.List.{append-nil}
use Rattle.reg_base.specs.declared.tables.Row.{Row}
use Rattle.std.specs.Result.{OnOk}
use Rattle.reg_base.specs.Tries.{Tries}
use Rattle.reg_base.specs.Sums.{has_number}
use Rattle.virt_tables.specs.Columns.{row_from}
use Rattle.virt_tables.specs.Limits.{room_for}
use Rattle.virt_tables.proofs.ColumnLemmas.{has_number-row_from}
use Rattle.virt_tables.proofs.LimitLemmas.{room-le, shown-none, shown-one}
use Rattle.virt_tables.proofs.turnover_table.push_moved.Goals as goal

pub returns-then-not-has_number-clause-rows : goal.returns-then-not-has_number-clause-rows
returns-then-not-has_number-clause-rows c =
    let m = c.args.moves.now in
    let row : Row = row_from m.balances m.resources c.args.sums in
    sym (append-nil c.args.rows.now)
    ∙ ap (λ t. c.args.rows.now ++ t)
    (sym (shown-none row (sym (has_number-row_from m.balances m.resources c.args.sums)
    ∙ ap has_number (sym c.as_slice.ensures) ∙ sym c.if-not-has_number.ensures)))

pub returns-then-not-has_number-clause-room : goal.returns-then-not-has_number-clause-room
returns-then-not-has_number-clause-room c =
    let m = c.args.moves.now in
    let row : Row = row_from m.balances m.resources c.args.sums in
    ap (λ t. room_for (length t))
    (ap (λ t. c.args.rows.now ++ t)
    (shown-none row (sym (has_number-row_from m.balances m.resources c.args.sums)
    ∙ ap has_number (sym c.as_slice.ensures) ∙ sym c.if-not-has_number.ensures))
    ∙ append-nil c.args.rows.now)
    ∙ room-le (length c.args.rows.now) c.requires

pub returns-clause-rows : goal.returns-clause-rows
returns-clause-rows c =
    let m = c.args.moves.now in
    let row : Row = row_from m.balances m.resources c.args.sums in
    subst (λ t. OnOk c.push_limited.result (c.push_limited.new.rows ≡ c.args.rows.now ++ t))
    (sym (shown-one row (sym (has_number-row_from m.balances m.resources c.args.sums)
    ∙ ap has_number (sym c.as_slice.ensures) ∙ sym c.if-not-has_number.ensures)))
    c.push_limited.ensures.rows

pub returns-clause-room : goal.returns-clause-room
returns-clause-room c =
    let m = c.args.moves.now in
    let row : Row = row_from m.balances m.resources c.args.sums in
    subst (λ t. Tries c.push_limited.result (room_for t))
    (sym (ap (λ t. length (c.args.rows.now ++ t))
    (shown-one row (sym (has_number-row_from m.balances m.resources c.args.sums)
    ∙ ap has_number (sym c.as_slice.ensures) ∙ sym c.if-not-has_number.ensures))
    ∙ length-append c.args.rows.now (row ∷ [])))
    c.push_limited.ensures.room
