use Rattle.std.proofs.Common.{◌≡◌, [], drop}
use Rattle.csv.specs.Records.{fields_of}
use Rattle.desk_words.specs.WellFormed.{AreFields}
use Rattle.csv_groups.specs.Groups.{fields_from}
use Rattle.csv_groups.proofs.fields.fields_in.Given as goal

abbrev pub invariant-columns : goal.invariant-columns
invariant-columns l =
    (fields_from l.part (fields_of l.cells) l.index (drop l.index l.all) l.fields.items
    ≡ fields_from l.part (fields_of l.cells) 0 l.all [])
    × AreFields l.fields.items
