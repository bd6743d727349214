use Rattle.std.proofs.Common.{[], cond, Bool, List, IfOk, ap, ◌∙◌, sym, subst}
use Rattle.reg_base.specs.Records.{Booked}
use Rattle.row_sums.specs.Sums.{booked}
use Rattle.table_sums.specs.Additions.{Addition, Adds}
use Rattle.table_sums.proofs.ForAbove.{Adds-none}
use Rattle.virt_tables.specs.Both.{both_width, brings}
use Rattle.virt_tables.proofs.BroughtLemmas.{both-one}
use Rattle.virt_tables.proofs.both_sums.add_asked.Goals as goal

pub returns-then-not-is_asked : goal.returns-then-not-is_asked
returns-then-not-is_asked c =
    let m = c.args.moves.now in
    let b : Booked = booked c.args.number c.args.rec.now in
    let all : List Addition = brings m.resources m.ask.now.group m.range.now c.args.ends.now b in
    let P : List Addition → Type 0 = λ xs. Adds (both_width m.resources) xs
    c.args.sums.now c.args.sums.now in
    subst P
    (sym (both-one m c.args.ends.now b
    ∙ ap (λ (t : Bool). cond t all []) (sym c.if-not-is_asked.ensures)))
    (Adds-none (both_width m.resources) c.args.sums.now)

pub returns : goal.returns
returns c =
    let m = c.args.moves.now in
    let b : Booked = booked c.args.number c.args.rec.now in
    let all : List Addition = brings m.resources m.ask.now.group m.range.now c.args.ends.now b in
    let P : List Addition → Type 0 = λ xs. IfOk c.add_brought.result
    (λ _. Adds (both_width m.resources) xs c.args.sums.now c.add_brought.new.sums) in
    subst P
    (sym (both-one m c.args.ends.now b
    ∙ ap (λ (t : Bool). cond t all []) (sym c.if-not-is_asked.ensures)))
    c.add_brought.ensures
