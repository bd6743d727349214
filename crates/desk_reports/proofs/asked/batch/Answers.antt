use Rattle.std.proofs.Common.{rules, refl}
use Rattle.reg_base.specs.Codes.{is_name}
use Rattle.desk_reports.proofs.asked.batch.Goals as goal

pub unwrap-requires : goal.unwrap-requires
unfolding is_name
unwrap-requires c = rw c.parse.ensures refl

pub returns : goal.returns
unfolding is_name
returns c =
    let told = rw c.parse.ensures at c.unwrap.ensures in
    search (rules, told)
