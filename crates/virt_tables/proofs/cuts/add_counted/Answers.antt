use Rattle.std.proofs.Common.{[], ◌∷◌, cond, Bool, List, IfOk, ap, ◌∙◌, sym, subst}
use Rattle.std.specs.Option.{option_copied}
use Rattle.reg_base.specs.Records.{Booked}
use Rattle.row_sums.specs.Sums.{booked, Adds}
use Rattle.row_sums.proofs.ForAbove.{Adds-none}
use Rattle.virt_tables.proofs.CutLemmas.{counted-one}
use Rattle.virt_tables.proofs.cuts.add_counted.Goals as goal

pub returns-then-not-is_counted : goal.returns-then-not-is_counted
returns-then-not-is_counted c =
    let q = c.args.query.now in
    let b : Booked = booked c.args.number c.args.rec.now in
    let P : List Booked → Type 0 = λ xs. Adds (option_copied q.by) q.resources xs
    c.args.sums.now c.args.sums.now in
    subst P
    (sym (counted-one q b ∙ ap (λ (t : Bool). cond t (b ∷ []) [])
    (sym c.if-not-is_counted.ensures)))
    (Adds-none (option_copied q.by) q.resources c.args.sums.now)

pub returns : goal.returns
returns c =
    let q = c.args.query.now in
    let b : Booked = booked c.args.number c.args.rec.now in
    let P : List Booked → Type 0 = λ xs. IfOk c.add.result (λ _. Adds (option_copied q.by)
    q.resources xs c.args.sums.now c.add.new.self) in
    subst P
    (sym (counted-one q b ∙ ap (λ (t : Bool). cond t (b ∷ []) [])
    (sym c.if-not-is_counted.ensures)))
    (c.add.ensures c.args.number)
