use Rattle.std.proofs.Common.{◌≡◌, ◌-◌, length}
use Rattle.cfg_model.specs.Accounts.{leads_to}
use Rattle.cfg_model.proofs.parents.leads_back.Given as goal

abbrev pub invariant-steps : goal.invariant-steps
invariant-steps l =
    leads_to (length l.accounts - l.counter) l.accounts l.code l.next
    ≡ leads_to (length l.accounts) l.accounts l.code l.parent
