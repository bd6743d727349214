use Rattle.std.proofs.Common.{◌≡◌, ℕ, [], ◌∷◌, cond, Bool, List, length, IfOk, ap, ◌∙◌, sym, subst}
use Rattle.reg_base.specs.Records.{Booked}
use Rattle.reg_base.specs.Balances.{group_values}
use Rattle.row_sums.specs.Sums.{booked}
use Rattle.table_sums.specs.Additions.{Addition, addition, Adds}
use Rattle.table_sums.proofs.ForAbove.{Adds-none}
use Rattle.virt_tables.specs.Columns.{columns_of, numbers_of, width_of}
use Rattle.virt_tables.proofs.ColumnLemmas.{length-numbers_of}
use Rattle.virt_tables.proofs.MoveLemmas.{adds, moves-one}
use Rattle.virt_tables.proofs.moves.add_moved.Goals as goal

pub returns-then-not-is_moved : goal.returns-then-not-is_moved
returns-then-not-is_moved c =
    let m = c.args.moves.now in
    let b : Booked = booked c.args.number c.args.rec.now in
    let P : List Addition → Type 0 = λ xs. Adds (width_of m.balances m.resources) xs
    c.args.sums.now c.args.sums.now in
    subst P
    (sym (moves-one m b ∙ ap (λ (t : Bool). cond t (adds m b ∷ []) [])
    (sym c.if-not-is_moved.ensures)))
    (Adds-none (width_of m.balances m.resources) c.args.sums.now)

pub returns : goal.returns
returns c =
    let m = c.args.moves.now in
    let b : Booked = booked c.args.number c.args.rec.now in
    let numbers : c.in_ok-numbers.numbers.items
    ≡ numbers_of (columns_of m.balances) m.resources c.args.rec.now =
    c.in_ok-numbers.ensures.value
    ∙ ap (λ cs. numbers_of cs m.resources c.args.rec.now) c.columns_of.ensures in
    let Q : ℕ → Addition → Type 0 = λ w a. IfOk c.add.result
    (λ _. Adds w (a ∷ []) c.args.sums.now c.add.new.self) in
    let P : List Addition → Type 0 = λ xs. IfOk c.add.result
    (λ _. Adds (width_of m.balances m.resources) xs c.args.sums.now c.add.new.self) in
    subst P
    (sym (moves-one m b ∙ ap (λ (t : Bool). cond t (adds m b ∷ []) [])
    (sym c.if-not-is_moved.ensures)))
    (subst (λ w. Q w (adds m b))
    (ap length numbers
    ∙ length-numbers_of m.balances m.resources c.args.rec.now)
    (subst (λ a. Q (length c.in_ok-numbers.numbers.items) a)
    (λ i. addition ((c.in_ok-group.ensures
    ∙ ap (group_values m.ask.now.group) c.as_slice.ensures) i) (c.unit_of.ensures i)
    (numbers i)) c.add.ensures))
