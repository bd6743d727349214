use Rattle.std.proofs.Common.{rules}
use Rattle.csv_groups.proofs.FieldLemmas.{fields-put}
use Rattle.csv_groups.proofs.fields.put_field.Goals as goal

pub returns-clause-formed : goal.returns-clause-formed
returns-clause-formed c = λ are.
    let told = c.place_for.ensures in
    let put = fields-put c.in_ok-field.field c.args.fields.now.items
    c.in_ok-field.ensures.formed are in
    search (rules, told, put)
