use Rattle.std.proofs.Common.{◌≡◌, Ok, Err, subst}
use Rattle.reg_base.specs.Tries.{Tries}
use Rattle.desk_tables.specs.Asked.{refused, ledger_view}
use Rattle.desk_tables.proofs.AnswerLemmas.{is_fault, stops-asked, stops-tabled, answers}
use Rattle.desk_tables.proofs.StepLemmas.{account_turnovers-steps, account_turnovers_table, short-entries}
use Rattle.desk_tables.proofs.ledgers.answer_account_turnovers.Goals as goal

pub returns-in_err-asking-clause-value : goal.returns-in_err-asking-clause-value
returns-in_err-asking-clause-value c =
    stops-asked _ _ _ _ (account_turnovers-steps c.args.config.now c.args.documents c.args.question.now)
    ledger_view c.from_residual.result c.in_err-asking.field-0.0 c.in_err-asking.ensures
    (is_fault c.from_residual.result c.in_err-asking.field-0.0 c.from_residual.ensures)

pub account_turnovers-requires-clause-short : goal.account_turnovers-requires-clause-short
account_turnovers-requires-clause-short c = short-entries c.args.documents c.requires.short

pub returns-in_err-rows-clause-value : goal.returns-in_err-rows-clause-value
returns-in_err-rows-clause-value c =
    stops-tabled _ _ _ _ (account_turnovers-steps c.args.config.now c.args.documents c.args.question.now)
    (ledger_view c.in_ok-asking.asking) c.in_ok-asking.ensures c.from_residual-in_err-rows.result
    c.in_err-rows.field-0.0
    (subst (λ t. Tries (Err c.in_err-rows.field-0.0) (refused t))
    (λ i. account_turnovers_table c.args.documents c.in_ok-asking.asking.chart.now (c.account_ask-ask.ensures i) (c.range_of-range.ensures i))
    (c.in_err-rows.ensures _ c.account_turnovers.ensures))
    (is_fault c.from_residual-in_err-rows.result c.in_err-rows.field-0.0
    c.from_residual-in_err-rows.ensures)

pub returns-clause-value : goal.returns-clause-value
returns-clause-value c =
    answers _ _ _ _ (account_turnovers-steps c.args.config.now c.args.documents c.args.question.now)
    (ledger_view c.in_ok-asking.asking) c.in_ok-asking.ensures c.in_ok-rows.rows
    (subst (λ t. refused t ≡ Ok c.in_ok-rows.rows) (λ i. account_turnovers_table c.args.documents c.in_ok-asking.asking.chart.now (c.account_ask-ask.ensures i) (c.range_of-range.ensures i)) (c.in_ok-rows.ensures _ c.account_turnovers.ensures))
