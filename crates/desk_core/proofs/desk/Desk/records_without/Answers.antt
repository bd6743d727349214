use Rattle.std.proofs.Common.{◌∙◌, ap}
use Rattle.reg_base.specs.Documents.{without_document}
use Rattle.desk_model.specs.Limits.{records_in}
use Rattle.desk_core.specs.DeskViews.{DeskView}
use Rattle.desk_core.proofs.KeptLemmas.{short-found, count-found, left-found, left-missing}
use Rattle.desk_core.proofs.desk.Desk.records_without.Goals as goal

pub record_count-requires : goal.record_count-requires
record_count-requires c = short-found c.self.inside.store.documents c.self.inside.top
    c.self.inside.records c.args.number c.self.invariant.kept c.in-Some.document.now
    c.in-Some.ensures.value

pub overflow_sub-result : goal.overflow_sub-result
overflow_sub-result c =
    let found = count-found c.self.inside.store.documents c.self.inside.top
    c.self.inside.records c.args.number c.self.invariant.kept c.in-Some.document.now
    c.in-Some.ensures.value in
    rw c.record_count.ensures.value found

pub returns-in-Some-clause-value : goal.returns-in-Some-clause-value
returns-in-Some-clause-value c =
    let left = left-found c.self.inside.store.documents c.self.inside.top
    c.self.inside.records c.args.number c.self.invariant.kept c.in-Some.document.now
    c.in-Some.ensures.value in
    (rw c.record_count.ensures.value left)
    ∙ ap (λ (v : DeskView). records_in (without_document c.args.number v.desk.serial.documents))
    c.self.view_is

pub returns-in-None-clause-value : goal.returns-in-None-clause-value
returns-in-None-clause-value c =
    left-missing c.self.inside.store.documents c.self.inside.top
    c.self.inside.records c.args.number c.self.invariant.kept c.in-None.ensures.value
    ∙ ap (λ (v : DeskView). records_in (without_document c.args.number v.desk.serial.documents))
    c.self.view_is
