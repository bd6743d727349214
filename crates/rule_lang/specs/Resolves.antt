-- Private: what a check of a part of a statement comes to.
use Rattle.std.specs.Prelude.{◌≡◌, Result, Ok, Err}
use Rattle.rule_lang.specs.Least.{Checked}
use Rattle.rule_lang.specs.declared.tried.StatementFault.{StatementFault}
use Rattle.rule_lang.specs.declared.tried.StatementFault.TheVariants.{Wrong, Memory}

-- the call finds what the definition finds, and what speaks against it; want of memory alone is
-- free
abbrev pub Resolves : {X : Type 0} → Result X StatementFault → Checked X → Type 0
Resolves (Ok x) definition = definition ≡ Ok x
Resolves (Err (Wrong why)) definition = definition ≡ Err why
Resolves (Err Memory) definition = Unit
