use Rattle.std.proofs.Common.{Err, ap, sym, subst, ◌∙◌}
use Rattle.post_model.specs.Yields.{yield_of}
use Rattle.reg_base.specs.Tries.{Tries}
use Rattle.desk_words.specs.declared.reply.Refusal.TheVariants.{Rule}
use Rattle.desk_model.specs.DocumentSets.{with_yield}
use Rattle.desk_plans.proofs.documents.document_by_rules.Goals as goal

pub returns-in-Err-Refused-clause-value : goal.returns-in-Err-Refused-clause-value
returns-in-Err-Refused-clause-value g c =
    ap (with_yield (record { config = c.args.config.now; rules = c.args.rules.now }) c.args.doc)
    (subst (λ why. Tries (Err why) (yield_of c.args.config.now c.args.rules.now c.args.doc
    (g.B.Balances.books c.args.books.now))) c.in-Err-Refused.field-0-is c.in-Err-Refused.ensures)
    ∙ ap (λ scale. Err (Rule c.in-Err-Refused.fault scale)) (sym c.fault_scale-scale.ensures)
