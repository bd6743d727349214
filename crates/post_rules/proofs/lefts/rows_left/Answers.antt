use Rattle.std.proofs.Common.{◌≡◌, ℕ, Some, List, length, ◌≤◌, ◌++◌, ◌∙◌, sym, subst, IfOk}
use Rattle.reg_base.specs.declared.records.Rec.{Rec}
use Rattle.reg_base.specs.declared.records.SumRow.{SumRow}
use Rattle.reg_base.specs.Balances.{sum_rows}
use Rattle.post_model.specs.Lefts.{seen_of, left_of}
use Rattle.post_rules.specs.Bounds.{own_expenses}
use Rattle.post_rules.proofs.LeftLemmas.{IsSheet-seen_of, small-place, seen-rows}
use Rattle.post_rules.proofs.lefts.rows_left.Goals as goal

pub with_expenses-requires-clause-rows : goal.with_expenses-requires-clause-rows
with_expenses-requires-clause-rows g c =
    let books = g.B.Balances.books c.args.view.now in
    let space : ℕ = c.args.item.now.space in
    record {
      records = seen_of books c.args.doc.now c.args.item.now;
      same = seen-rows books c.args.doc.now c.args.item.now c.args.by.now _ _ _ _ _
          c.in_ok-rows.ensures (c.requires.reads.depths space ∙ sym c.depth_of.ensures)
          c.in_ok-filter.ensures c.own_point.ensures;
      sheet = IsSheet-seen_of books c.args.doc.now c.args.item.now
          (c.requires.reads.sheets space);
    }

pub with_expenses-requires-clause-own : goal.with_expenses-requires-clause-own
with_expenses-requires-clause-own g c =
    subst (λ (recs : List Rec). length recs ≤ 5_000) (sym c.own_records-own.ensures)
    (small-place c.args.sets.now.registers c.args.item.now.space c.requires.sets).few

pub returns : goal.returns
unfolding left_of
returns g c =
    let books = g.B.Balances.books c.args.view.now in
    let space : ℕ = c.args.item.now.space in
    let number : ℕ = c.args.doc.now.number in
    subst (λ (rows : List SumRow). IfOk c.with_expenses.result (λ all. all ≡ rows))
    (λ i. sum_rows (c.depth_of.ensures i) (Some c.args.by.now)
    (seen_of books c.args.doc.now c.args.item.now
    ++ own_expenses (c.in_ok-filter.ensures i) number (c.own_records-own.ensures i)))
    (c.with_expenses.ensures number (seen_of books c.args.doc.now c.args.item.now)
    (seen-rows books c.args.doc.now c.args.item.now c.args.by.now _ _ _ _ _
    c.in_ok-rows.ensures (c.requires.reads.depths space ∙ sym c.depth_of.ensures)
    c.in_ok-filter.ensures c.own_point.ensures))
