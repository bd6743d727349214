use Rattle.std.proofs.Common.{ap, ◌∙◌, sym, inl, inr}
use Rattle.reg_base.specs.declared.tables.Periodicity.TheVariants.{Record, Recorder}
use Rattle.ledger_reg.specs.UnitRows.{starts_by}
use Rattle.ledger_reg.proofs.StartLemmas.{starts-none, starts-Record, starts-Recorder}
use Rattle.ledger_reg.proofs.units.range_starts.Goals as goal

pub returns-in-Record-clause-value : goal.returns-in-Record-clause-value
returns-in-Record-clause-value c =
    let from = c.args.range.now.from in
    let to = c.args.range.now.to in
    elim c.in-Record.is [
      | inl is ↦ c.new.ensures ∙ sym (ap (λ b. starts_by b from to) is
          ∙ starts-none Record starts-Record from to)
      | inr is ↦ c.new.ensures ∙ sym (ap (λ b. starts_by b from to) is
          ∙ starts-none Recorder starts-Recorder from to)
    ]
