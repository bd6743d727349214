use Rattle.std.proofs.Common.{◌≡◌, Ok, Err, ap, ◌∙◌, sym, subst}
use Rattle.reg_base.specs.Tries.{Tries}
use Rattle.desk_words.specs.declared.reply.Answer.TheVariants as AnswerIs
use Rattle.desk_tables.specs.Asked.{refused, asking_view}
use Rattle.desk_tables.proofs.AnswerLemmas.{is_fault, stops-asked, stops-tabled, answers}
use Rattle.desk_tables.proofs.StepLemmas.{both-steps, both_table, short-records}
use Rattle.desk_tables.proofs.registers.answer_both.Goals as goal

pub returns-in_err-asking-clause-value : goal.returns-in_err-asking-clause-value
returns-in_err-asking-clause-value c =
    stops-asked _ _ _ _ (both-steps c.args.config.now c.args.documents c.args.question.now)
    asking_view c.from_residual.result c.in_err-asking.field-0.0 c.in_err-asking.ensures
    (is_fault c.from_residual.result c.in_err-asking.field-0.0 c.from_residual.ensures)

pub balance_and_turnovers-requires-clause-short : goal.balance_and_turnovers-requires-clause-short
balance_and_turnovers-requires-clause-short c = short-records c.args.documents c.requires.short

pub returns-in_err-rows-clause-value : goal.returns-in_err-rows-clause-value
returns-in_err-rows-clause-value c =
    stops-tabled _ _ _ _ (both-steps c.args.config.now c.args.documents c.args.question.now)
    (asking_view c.in_ok-asking.asking) c.in_ok-asking.ensures c.from_residual-in_err-rows.result
    c.in_err-rows.field-0.0
    (subst (λ t. Tries (Err c.in_err-rows.field-0.0) (refused t))
    (λ i. both_table c.args.documents c.in_ok-asking.asking.register.now c.in_ok-asking.asking.ask (c.range_of-range.ensures i) (c.unwrap_or-method.ensures i))
    (c.in_err-rows.ensures _ c.balance_and_turnovers.ensures))
    (is_fault c.from_residual-in_err-rows.result c.in_err-rows.field-0.0
    c.from_residual-in_err-rows.ensures)

pub returns-clause-value : goal.returns-clause-value
returns-clause-value c =
    answers _ _ _ _ (both-steps c.args.config.now c.args.documents c.args.question.now)
    (asking_view c.in_ok-asking.asking) c.in_ok-asking.ensures c.in_ok-rows.rows
    (subst (λ t. refused t ≡ Ok c.in_ok-rows.rows) (λ i. both_table c.args.documents c.in_ok-asking.asking.register.now c.in_ok-asking.asking.ask (c.range_of-range.ensures i) (c.unwrap_or-method.ensures i)) (c.in_ok-rows.ensures _ c.balance_and_turnovers.ensures))
    ∙ ap (λ s. Ok (AnswerIs.Both c.in_ok-rows.rows s)) (sym c.in_ok-scales.ensures)
