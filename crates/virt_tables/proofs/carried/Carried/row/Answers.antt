use Rattle.std.proofs.Common.{◌+◌, ◌≤◌, ◌*◌, ◌^◌, sym, subst, arith}
use Rattle.std.specs.Prelude.{unsigned_abs}
use Rattle.table_sums.specs.Additions.{number_at}
use Rattle.virt_tables.specs.Both.{turned}
use Rattle.virt_tables.proofs.BroughtLemmas.{abs-opening}
use Rattle.virt_tables.proofs.carried.Carried.row.Goals as goal

pub opened_row-requires : goal.opened_row-requires
opened_row-requires c =
    λ j. subst (λ o. unsigned_abs (number_at o j)
    + unsigned_abs (number_at (turned c.args.resources c.args.sums) j) ≤ 2 ^ 63 * 2 ^ 47)
    (sym c.in_ok-opening.ensures)
    (omega (
      arith,
      abs-opening c.args.resources c.args.self.now.group c.args.self.now.balance c.args.sums j,
      c.requires j,
    ))
