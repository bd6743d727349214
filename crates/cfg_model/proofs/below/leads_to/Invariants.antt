use Rattle.std.proofs.Common.{◌≡◌, ◌-◌, length}
use Rattle.cfg_model.specs.Accounts.{leads_to, parent_of}
use Rattle.cfg_model.proofs.below.leads_to.Given as goal

abbrev pub invariant-steps : goal.invariant-steps
invariant-steps l =
    leads_to (length l.accounts - l.counter) l.accounts l.top l.next
    ≡ leads_to (length l.accounts) l.accounts l.top (parent_of l.accounts l.code)
