use Rattle.std.proofs.Common.{◌≡◌, true, false, Some, None, ap, sym, ◌∙◌}
use Rattle.reg_base.specs.Results.{unless}
use Rattle.desk_words.specs.declared.reply.Refusal.TheVariants.{Limit}
use Rattle.desk_words.specs.declared.reply.Limit.TheVariants.{Documents, Records, Lines, Numbers}
use Rattle.desk_model.specs.Limits.{within_limit, most_documents, most_kept_records, most_lines}
use Rattle.desk_model.specs.Limits.{greatest_number, number_is_left}
use Rattle.desk_plans.specs.Sights.{sight_view}
use Rattle.desk_core.proofs.LimitLemmas.{limits-documents, limits-records, limits-lines}
use Rattle.desk_core.proofs.LimitLemmas.{limits-number}
use Rattle.desk_core.proofs.desk.Desk.plan_passes.Goals as goal

pub returns-in-Some : goal.returns-in-Some
returns-in-Some c = λ plan made lines records.
    limits-documents c.args.self.now.desk.serial (sight_view c.args.sight.now) plan made
    c.in-Some.refusal
    (c.in-Some.ensures
    ∙ ap (λ n. within_limit Documents n most_documents) c.documents_with_plan-documents.ensures)

pub returns-in-Some-passed : goal.returns-in-Some-passed
returns-in-Some-passed c = λ plan made lines records.
    limits-records c.args.self.now.desk.serial (sight_view c.args.sight.now) plan made
    c.in-Some-passed.refusal
    (c.in_default.ensures
    ∙ ap (λ n. within_limit Documents n most_documents) c.documents_with_plan-documents.ensures)
    (c.in-Some-passed.ensures
    ∙ ap (λ n. within_limit Records n most_kept_records) c.from.ensures ∙ sym records)

pub returns-in-Some-passed-2 : goal.returns-in-Some-passed-2
returns-in-Some-passed-2 c = λ plan made lines records.
    limits-lines c.args.self.now.desk.serial (sight_view c.args.sight.now) plan made
    c.in-Some-passed-2.refusal
    (c.in_default.ensures
    ∙ ap (λ n. within_limit Documents n most_documents) c.documents_with_plan-documents.ensures)
    (c.in_default-passed.ensures
    ∙ ap (λ n. within_limit Records n most_kept_records) c.from.ensures ∙ sym records)
    (c.in-Some-passed-2.ensures ∙ ap (λ n. within_limit Lines n most_lines) (sym lines))

pub returns-then-not-has_number : goal.returns-then-not-has_number
returns-then-not-has_number c = λ plan made lines records.
    let left : false ≡ number_is_left c.args.self.now.desk.serial (sight_view c.args.sight.now) =
    sym c.if-not-has_number.true ∙ c.has_number.ensures in
    limits-number c.args.self.now.desk.serial (sight_view c.args.sight.now) plan made
    (Some (Limit Numbers c.from-then-not-has_number.result))
    (c.in_default.ensures
    ∙ ap (λ n. within_limit Documents n most_documents) c.documents_with_plan-documents.ensures)
    (c.in_default-passed.ensures
    ∙ ap (λ n. within_limit Records n most_kept_records) c.from.ensures ∙ sym records)
    (c.in_default-passed-2.ensures ∙ ap (λ n. within_limit Lines n most_lines) (sym lines))
    (λ i. unless (left i) (Limit Numbers (c.from-then-not-has_number.ensures i)))

pub returns : goal.returns
returns c = λ plan made lines records.
    let left : true ≡ number_is_left c.args.self.now.desk.serial (sight_view c.args.sight.now) =
    sym c.if-not-has_number.false ∙ c.has_number.ensures in
    limits-number c.args.self.now.desk.serial (sight_view c.args.sight.now) plan made None
    (c.in_default.ensures
    ∙ ap (λ n. within_limit Documents n most_documents) c.documents_with_plan-documents.ensures)
    (c.in_default-passed.ensures
    ∙ ap (λ n. within_limit Records n most_kept_records) c.from.ensures ∙ sym records)
    (c.in_default-passed-2.ensures ∙ ap (λ n. within_limit Lines n most_lines) (sym lines))
    (λ i. unless (left i) (Limit Numbers greatest_number))
