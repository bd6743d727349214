use Rattle.std.proofs.Common.{rules, ◌++◌, ◌∷◌, [], ap, arith, ◌∙◌}
use Rattle.reg_base.proofs.ForAbove.{decimal-number_text}
use Rattle.desk_history.proofs.entry.numbered.Goals as goal

pub returns : goal.returns
returns c = search (
  rules,
  c.in_ok-digits.ensures.ok
      ∙ ap (λ digits. digits ++ 32 ∷ []) (decimal-number_text c.args.number (omega arith)),
)
