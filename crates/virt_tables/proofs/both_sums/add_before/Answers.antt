use Rattle.std.proofs.Common.{[], ◌∷◌, cond, Bool, List, IfOk, ap, ◌∙◌, subst}
use Rattle.reg_base.specs.declared.tables.Unit.TheVariants.{Whole}
use Rattle.table_sums.specs.Additions.{Addition, Adds}
use Rattle.table_sums.proofs.ForAbove.{Adds-none}
use Rattle.virt_tables.specs.Both.{both_width, brought, columns_before}
use Rattle.virt_tables.proofs.both_sums.add_before.Goals as goal

pub returns-then-not-is_before : goal.returns-then-not-is_before
returns-then-not-is_before c =
    let m = c.args.moves.now in
    let a : Addition = brought columns_before m.resources m.ask.now.group Whole c.args.rec.now in
    let P : List Addition → Type 0 = λ xs. Adds (both_width m.resources) xs
    c.args.sums.now c.args.sums.now in
    subst P (ap (λ (t : Bool). cond t (a ∷ []) []) c.if-not-is_before.ensures)
    (Adds-none (both_width m.resources) c.args.sums.now)

pub returns : goal.returns
returns c =
    let m = c.args.moves.now in
    let a : Addition = brought columns_before m.resources m.ask.now.group Whole c.args.rec.now in
    let P : List Addition → Type 0 = λ xs. IfOk c.add_columns.result
    (λ _. Adds (both_width m.resources) xs c.args.sums.now c.add_columns.new.sums) in
    subst P
    ((λ i. brought (c.columns_before.ensures.value i) m.resources m.ask.now.group Whole
    c.args.rec.now ∷ [])
    ∙ ap (λ (t : Bool). cond t (a ∷ []) []) c.if-not-is_before.ensures)
    c.add_columns.ensures
