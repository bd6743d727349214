use Rattle.std.proofs.Common.{◌≡◌, ℕ, ◌<◌, Option, Some, None, List, IfOk, ap, ◌∙◌, sym, subst}
use Rattle.std.proofs.Common.{arith}
use Rattle.std.specs.Prelude.{slice_get}
use Rattle.std.specs.Option.{option_copied}
use Rattle.reg_base.specs.declared.records.Document.{Document}
use Rattle.reg_base.specs.declared.records.SumRow.{SumRow}
use Rattle.reg_base.specs.Documents.{with_document}
use Rattle.reg_base.specs.Records.{Booked, records_of}
use Rattle.reg_base.specs.Balances.{sum_rows}
use Rattle.desk_words.specs.declared.reply.Refusal.{Refusal}
use Rattle.row_sums.specs.Sums.{groups_in}
use Rattle.desk_model.specs.Controls.{first_below, own_records}
use Rattle.desk_core.specs.Controls.{changes_of, own_set}
use Rattle.desk_core.proofs.ControlLemmas.{control-failure, changes-tell, resource-within}
use Rattle.desk_core.proofs.controls.failure_at.Goals as goal

pub returns : goal.returns
returns c =
    let p : ℕ = c.from-place.result in
    let q : ℕ = c.from-resource_place.result in
    let before : Option Document = option_copied c.args.before in
    let after : Option Document = Some c.args.after.now in
    let register = c.in-Some.register.now in
    let resource = c.in-Some-get.resource.now in
    let rows : List SumRow = c.as_slice.result.now in
    let all : List Booked = records_of p (with_document c.args.after.now c.walk.result) in
    let made : rows ≡ sum_rows 1 None (changes_of q (own_set p before) (own_set p after)) =
    c.as_slice.ensures ∙ c.in_ok-changes.ensures
    ∙ (λ i. sum_rows 1 None
    (changes_of q (c.own_set-former.ensures.value i) (c.own_set-own.ensures.value i))) in
    let there : slice_get register.resources q ≡ Some resource = sym c.in-Some-get.ensures in
    let within : q < c.len.result =
    omega (arith, resource-within register.resources q resource there, c.len.ensures) in
    let is_p : p ≡ c.args.control.0 = c.from-place.ensures in
    let is_q : q ≡ c.args.control.1 = c.from-resource_place.ensures in
    let P : Option Refusal → Type 0 = λ o. IfOk c.first_below.result (λ refusal. refusal ≡ o) in
    subst P
    ((λ i. first_below register resource (is_q i) (own_records (is_p i) before)
    (own_records (is_p i) after)
    (records_of (is_p i) (with_document c.args.after.now (c.walk.ensures.walk i)))
    (groups_in rows))
    ∙ control-failure c.args.config.now.registers c.args.control
    (with_document c.args.after.now c.args.store.now.documents) before after register resource
    (ap (slice_get c.args.config.now.registers) (sym is_p) ∙ sym c.in-Some.ensures)
    (ap (slice_get register.resources) (sym is_q) ∙ there) rows
    (made ∙ (λ i. sum_rows 1 None
    (changes_of (is_q i) (own_set (is_p i) before) (own_set (is_p i) after)))))
    (c.first_below.ensures c.len.result (own_records p before) (own_records p after) all
    c.in_ok-sums.ensures within (changes-tell q p before after rows made))
