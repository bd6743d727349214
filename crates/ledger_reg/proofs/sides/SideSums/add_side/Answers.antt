use Rattle.std.proofs.Common.{◌+◌, Option, ◌∙◌, sym, subst}
use Rattle.std.specs.Int.{w64}
use Rattle.std.proofs.lemmas.Int.{to_z-of_z}
use Rattle.reg_base.specs.declared.records.Side.{Side}
use Rattle.ledger_reg.specs.Sides.{SideAmounts, AddsSide, RaisesSide, amounts_of}
use Rattle.ledger_reg.specs.Sizes.{size_of}
use Rattle.ledger_reg.proofs.SizeLemmas.{IfOk-map}
use Rattle.ledger_reg.proofs.SideLemmas.{raised-adds}
use Rattle.ledger_reg.proofs.sides.SideSums.add_side.Goals as goal

pub returns-in_ok-extras-in-Some : goal.returns-in_ok-extras-in-Some
returns-in_ok-extras-in-Some c =
    let s : SideAmounts = record {
      place = record { account = c.in-Some.side.account; extras = c.in-Some.side.extras };
      debit = c.args.debit;
      credit = c.args.credit;
    } in
    IfOk-map _ _
    (λ u h. subst (λ (side : Option Side). AddsSide (amounts_of side c.args.debit c.args.credit)
    (size_of c.args.debit + size_of c.args.credit) c.args.self.now c.raise.new.self)
    (sym c.in-Some.is)
    (raised-adds s c.args.self.now c.raise.new.self
    (subst (λ (x : SideAmounts). RaisesSide x c.args.self.now c.raise.new.self)
    (λ i. record {
      place = record {
        account = c.in-Some.side.account;
        extras = (c.in_ok-extras-in-Some.ensures.items ∙ c.as_slice.ensures) i;
      };
      debit = to_z-of_z w64 c.args.debit c.ranges.debit i;
      credit = to_z-of_z w64 c.args.credit c.ranges.credit i;
    }) h)))
    c.raise.result c.raise.ensures
