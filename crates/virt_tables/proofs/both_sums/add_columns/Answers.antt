use Rattle.std.proofs.Common.{◌≡◌, ℕ, [], ◌∷◌, length, IfOk, ap, ◌∙◌, subst}
use Rattle.reg_base.specs.Balances.{group_values}
use Rattle.table_sums.specs.Additions.{Addition, addition, Adds}
use Rattle.virt_tables.specs.Columns.{numbers_of}
use Rattle.virt_tables.specs.Both.{brought}
use Rattle.virt_tables.proofs.BroughtLemmas.{length-four}
use Rattle.virt_tables.proofs.both_sums.add_columns.Goals as goal

pub returns : goal.returns
returns c =
    let m = c.args.moves.now in
    let numbers : c.in_ok-numbers.numbers.items
    ≡ numbers_of c.args.columns.now m.resources c.args.rec.now = c.in_ok-numbers.ensures.value in
    let Q : ℕ → Addition → Type 0 = λ w a. IfOk c.add.result
    (λ _. Adds w (a ∷ []) c.args.sums.now c.add.new.self) in
    subst (λ w. Q w (brought c.args.columns.now m.resources m.ask.now.group c.args.unit
    c.args.rec.now))
    (ap length numbers
    ∙ length-four c.args.columns.now m.resources c.args.rec.now c.requires.four)
    (subst (λ a. Q (length c.in_ok-numbers.numbers.items) a)
    (λ i. addition ((c.in_ok-group.ensures
    ∙ ap (group_values m.ask.now.group) c.as_slice.ensures) i) c.args.unit
    (numbers i)) c.add.ensures)
