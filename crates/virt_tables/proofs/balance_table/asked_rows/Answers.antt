use Rattle.std.proofs.Common.{◌≡◌, ℕ, IfOk, List, ap, ◌∙◌, subst}
use Rattle.std.specs.List.{flat_map}
use Rattle.std.specs.Option.{option_copied}
use Rattle.reg_base.specs.declared.records.SumRow.{SumRow}
use Rattle.reg_base.specs.Records.{booked_by}
use Rattle.reg_base.specs.Balances.{sum_rows}
use Rattle.virt_tables.specs.declared.cuts.Query.{Query}
use Rattle.virt_tables.specs.Cuts.{counted}
use Rattle.virt_tables.proofs.CutLemmas.{rows-asked}
use Rattle.virt_tables.proofs.balance_table.asked_rows.Goals as goal

pub returns : goal.returns
returns c =
    let q : Query = c.new-query.result in
    let is = c.new-query.ensures in
    let P : List SumRow → Type 0 = λ xs. IfOk c.balance_rows.result (λ rows. rows ≡ xs) in
    subst P
    (ap (λ (r : ℕ). sum_rows q.resources (option_copied q.by)
    (counted q (flat_map (booked_by r) c.args.documents)))
    (ap (λ (x : Query). x.register) is)
    ∙ rows-asked q c.args.resources c.args.ask.now.register c.args.ask.now.group
    c.args.ask.now.filter c.args.cut.now c.args.documents
    (ap (λ (x : Query). x.resources) is)
    (ap (λ (x : Query). option_copied x.by) is ∙ c.places_of-group.ensures)
    (ap (λ (x : Query). x.filter.now) is) (ap (λ (x : Query). x.cut.now) is)
    (ap (λ (x : Query). x.skip) is))
    c.balance_rows.ensures
