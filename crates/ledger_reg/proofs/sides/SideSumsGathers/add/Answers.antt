use Rattle.std.proofs.Common.{◌+◌, ℤ, pos, SFits, refl, rules, subst, arith}
use Rattle.std.specs.Int.{w64}
use Rattle.std.proofs.lemmas.Int.{to_z-of_z}
use Rattle.ledger_reg.specs.Walks.{booked}
use Rattle.ledger_reg.specs.Sides.{AddsSide, amounts_of}
use Rattle.ledger_reg.specs.Sizes.{size_of}
use Rattle.ledger_reg.proofs.SizeLemmas.{IfOk-map, amount-size}
use Rattle.ledger_reg.proofs.SideLemmas.{both-added}
use Rattle.ledger_reg.proofs.sides.SideSumsGathers.add.Goals as goal

pub returns : goal.returns
returns c = λ number.
    let posting = c.args.posting.now in
    let amount : ℤ = posting.amount in
    let fits : SFits w64 amount = search rules in
    let same = to_z-of_z w64 amount fits in
    let small = amount-size amount fits in
    IfOk-map _ _
    (λ u h. both-added (booked number posting) (amounts_of posting.debit amount (pos 0))
    (amounts_of posting.credit (pos 0) amount) (size_of amount + 0) (0 + size_of amount)
    c.args.self.now c.add_side.new.self c.add_side-2.new.self refl (omega (arith, small))
    (subst (λ (n : ℤ). AddsSide (amounts_of posting.debit n (pos 0)) (size_of n + 0)
    c.args.self.now c.add_side.new.self) same c.in_ok-add_side.ensures)
    (subst (λ (n : ℤ). AddsSide (amounts_of posting.credit (pos 0) n) (0 + size_of n)
    c.add_side.new.self c.add_side-2.new.self) same h))
    c.add_side-2.result c.add_side-2.ensures
