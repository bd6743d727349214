use Rattle.std.proofs.Common.{◌≡◌, IfOk, List, All, ap, ◌∙◌, sym, subst}
use Rattle.virt_tables.specs.Bounds.{HasShortRecords}
use Rattle.std.specs.List.{flat_map}
use Rattle.std.specs.Option.{option_copied}
use Rattle.reg_base.specs.declared.records.SumRow.{SumRow}
use Rattle.reg_base.specs.Records.{booked_by}
use Rattle.reg_base.specs.Balances.{sum_rows}
use Rattle.virt_tables.specs.declared.cuts.Query.{Query}
use Rattle.desk_core.specs.Books.{BooksView, resources_at}
use Rattle.virt_tables.specs.Cuts.{counted}
use Rattle.virt_tables.proofs.ForAbove.{rows-others}
use Rattle.desk_core.proofs.ShortLemmas.{short-records}
use Rattle.desk_core.proofs.books.BooksBalances.sums.Goals as goal

pub returns : goal.returns
returns c =
    let q : Query = c.new-query.result in
    let is = c.new-query.ensures in
    let place : q.register ≡ c.args.register = ap (λ (x : Query). x.register) is
    ∙ c.from-register.ensures in
    let documents : c.walk.result ≡ c.args.self.now.documents =
    c.walk.ensures.walk ∙ ap (λ (v : BooksView). v.documents) c.self.view_is in
    let P : List SumRow → Type 0 = λ xs. IfOk c.balance_rows.result (λ rows. rows ≡ xs) in
    subst P
    ((λ i. sum_rows q.resources (option_copied q.by)
    (counted q (flat_map (booked_by (place i)) (documents i))))
    ∙ rows-others q (resources_at c.args.self.now.config c.args.register) c.args.register
    c.args.group.now c.args.filter.now c.args.cut.now c.args.skip c.args.self.now.documents
    (ap (λ (x : Query). x.resources) is ∙ c.resources_at-resources.ensures
    ∙ ap (resources_at c.args.self.now.config) c.from-register.ensures)
    (ap (λ (x : Query). option_copied x.by) is) (ap (λ (x : Query). x.filter.now) is)
    (ap (λ (x : Query). x.cut.now) is) (ap (λ (x : Query). x.skip) is))
    c.balance_rows.ensures

pub balance_rows-requires-clause-short : goal.balance_rows-requires-clause-short
balance_rows-requires-clause-short c =
    subst (All HasShortRecords) (sym c.walk.ensures.walk)
    (short-records c.self.inside.store.now.documents c.self.invariant.short)
