-- The net is that of the sums so far, and what is known of the last account is true.
use Rattle.std.proofs.Common.{◌≡◌, take}
use Rattle.cfg_model.specs.AccountTables.{is_at_or_below}
use Rattle.ledger_reg.specs.Balances.{net_below}
use Rattle.ledger_reg.proofs.nets.net_below.Given as goal

abbrev pub invariant-loop-sum : goal.invariant-loop-sum
invariant-loop-sum l = record {
  net : l.net ≡ net_below l.chart l.top (take l.sum-index l.sums);
  run : l.run.counts ≡ is_at_or_below l.chart l.top l.run.account;
}
