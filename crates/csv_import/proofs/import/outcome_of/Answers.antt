use Rattle.csv_import.proofs.EndLemmas.{GroupEnds-there}
use Rattle.csv_import.proofs.import.outcome_of.Goals as goal

pub returns-in-Some-clause-ends : goal.returns-in-Some-clause-ends
returns-in-Some-clause-ends g c =
    GroupEnds-there c.args.desk.now _ c.in-Some.doc c.args.journal.now _ 0 0 c.in-Some.ensures
    c.requires.going c.requires.holds
