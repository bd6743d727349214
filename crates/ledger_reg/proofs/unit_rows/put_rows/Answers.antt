use Rattle.std.proofs.Common.{SFits, List, ap, ◌∙◌, subst, arith, rules}
use Rattle.std.specs.Int.{w128}
use Rattle.std.proofs.lemmas.Int.{to_z-of_z}
use Rattle.reg_base.specs.declared.tables.AccountRow.{AccountRow}
use Rattle.ledger_reg.specs.RowLists.{Puts}
use Rattle.ledger_reg.specs.Sizes.{size_of}
use Rattle.ledger_reg.specs.Slots.{slots_in}
use Rattle.ledger_reg.specs.UnitRows.{in_slot, net_of, unit_rows}
use Rattle.ledger_reg.proofs.unit_rows.put_rows.Goals as goal

pub put_from-requires-clause-opening : goal.put_from-requires-clause-opening
put_from-requires-clause-opening c =
    let fits : SFits w128 c.difference.result = search rules in
    omega (
      arith,
      ap size_of (to_z-of_z w128 c.difference.result fits),
      c.difference.ensures.small,
    )

pub returns : goal.returns
returns c =
    let sums = slots_in c.args.sums.now.sums.entries in
    let units = c.args.units.now in
    let fits : SFits w128 c.difference.result = search rules in
    let at-is = c.amounts_in-opening.ensures.same ∙ c.in_ok-at.ensures in
    let net-is = to_z-of_z w128 c.difference.result fits ∙ c.difference.ensures.value
    ∙ ap net_of (c.amounts_in-opening.ensures.value ∙ ap (λ p. in_slot sums p 0) at-is) in
    subst (λ (more : List AccountRow). Puts c.put_from.result more c.args.rows.now
    c.put_from.new.rows)
    (λ i. unit_rows units c.args.nature sums (at-is i) (net-is i) units.starts) c.put_from.ensures
