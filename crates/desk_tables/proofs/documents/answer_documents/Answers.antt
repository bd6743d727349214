use Rattle.std.proofs.Common.{ap, ◌∙◌, subst, arith, length, ◌<◌}
use Rattle.reg_base.specs.Turnovers.{row_limit}
use Rattle.desk_tables.specs.Listed.{rows_at}
use Rattle.desk_tables.proofs.ListedLemmas.{too-many, listed}
use Rattle.desk_tables.proofs.documents.answer_documents.Goals as goal

pub returns-then-len-clause-value : goal.returns-then-len-clause-value
returns-then-len-clause-value c =
    too-many c.args.config.now c.args.store.now.documents c.args.question.now
    c.range_of-range.result c.in_ok-numbers.numbers c.range_of-range.ensures
    c.in_ok-numbers.ensures (subst (λ n. row_limit < n) c.len.ensures c.if-len.true)

pub returns-clause-value : goal.returns-clause-value
returns-clause-value c =
    listed c.args.config.now c.args.store.now.documents c.args.question.now
    c.range_of-range.result c.in_ok-numbers.numbers c.range_of-range.ensures
    c.in_ok-numbers.ensures c.order_holds.ensures c.in_ok-rows.rows
    (c.in_ok-rows.ensures
    ∙ ap (rows_at c.args.config.now c.args.store.now.documents) c.as_slice.ensures)
    (grind (arith, c.len.ensures, c.if-len.false))
