use Rattle.desk_run.proofs.RuleLemmas.{few_statements}
use Rattle.desk_run.proofs.files.accept.Goals as goal

pub returns-clause-statements : goal.returns-clause-statements
returns-clause-statements c = few_statements c.in_ok-config.config c.in_ok-rules.rules
    c.in_ok-rules.ensures (c.places_are_resolved.ensures c.in_ok-config.config)
