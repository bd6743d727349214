use Rattle.csv.specs.Records.{fields_of}
use Rattle.csv_groups.proofs.GroupLemmas.{place-same}
use Rattle.csv_groups.proofs.groups.Groups.go_on.Goals as goal

pub returns-in-Some-clause-read : goal.returns-in-Some-clause-read
returns-in-Some-clause-read c = λ groups h.
    place-same c.args.columns.now c.args.self.now c.in-Some.last groups c.args.row
    (fields_of c.args.cells.now) c.add.result h c.in-Some.is c.requires c.add.ensures.read
