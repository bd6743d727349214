use Rattle.std.proofs.Common.{refl}
use Rattle.csv_groups.proofs.FieldLemmas.{no-fields}
use Rattle.csv_groups.proofs.fields.fields_in.Goals as goal

pub columns-init : goal.columns-init
columns-init c = rw c.new-fields.ensures.items (refl, no-fields)
