use Rattle.std.proofs.Common.{ℤ, SFits, rules, subst}
use Rattle.std.specs.Int.{w64}
use Rattle.std.proofs.lemmas.Int.{to_z-of_z}
use Rattle.cfg_model.specs.AccountTables.{Pair}
use Rattle.ledger_reg.specs.Walks.{booked}
use Rattle.ledger_reg.specs.Pairs.{RaisesPair}
use Rattle.ledger_reg.proofs.PairLemmas.{pair-adds}
use Rattle.ledger_reg.proofs.SizeLemmas.{IfOk-map}
use Rattle.ledger_reg.proofs.pairs.PairSumsGathers.add.Goals as goal

pub returns : goal.returns
returns c = λ number.
    let amount : ℤ = c.args.posting.now.amount in
    let fits : SFits w64 amount = search rules in
    let pair : Pair = record {
      debit = c.account_of-debit.result;
      credit = c.account_of-credit.result;
    } in
    IfOk-map _ _
    (λ u h. pair-adds (booked number c.args.posting.now) pair c.args.self.now c.raise.new.self
    (λ i. record { debit = c.account_of-debit.ensures i; credit = c.account_of-credit.ensures i })
    (subst (λ (n : ℤ). RaisesPair pair n c.args.self.now c.raise.new.self)
    (to_z-of_z w64 amount fits) h))
    c.raise.result c.raise.ensures
