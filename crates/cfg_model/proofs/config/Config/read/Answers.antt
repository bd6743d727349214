-- What is read keeps to its limits, is in order and resolves.

use Rattle.cfg_model.specs.declared.fault.CfgFault.TheVariants.{Memory}
use Rattle.cfg_model.specs.Limits.{IsWithinLimits}
use Rattle.cfg_model.specs.Resolving.{NamesResolve}
use Rattle.cfg_model.proofs.ConfigLemmas.{config_of-holds, in_order-from}
use Rattle.cfg_model.proofs.Steps.{IfOk-from_Gives}
use Rattle.cfg_model.proofs.config.Config.read.Goals as goal

pub returns-clause-limits : goal.returns-clause-limits
returns-clause-limits c =
    IfOk-from_Gives Memory IsWithinLimits c.config_of.result _ c.config_of.ensures.read
    (λ config e. (config_of-holds _ config e).within)

pub returns-clause-in_order : goal.returns-clause-in_order
returns-clause-in_order c =
    in_order-from c.config_of.result _ c.config_of.ensures.read c.config_of.ensures.in_order

pub returns-clause-resolves : goal.returns-clause-resolves
returns-clause-resolves c =
    IfOk-from_Gives Memory NamesResolve c.config_of.result _ c.config_of.ensures.read
    (λ config e. (config_of-holds _ config e).resolves)
