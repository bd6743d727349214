use Rattle.std.proofs.Common.{rules, arith, sym}
use Rattle.reg_base.proofs.ForAbove.{decimal-number_text}
use Rattle.desk_run.proofs.check.check_text.Goals as goal

pub returns : goal.returns
returns c = rw (
  sym (decimal-number_text c.args.documents (omega arith)),
  sym (decimal-number_text c.args.records (omega arith)),
  sym (decimal-number_text c.args.postings (omega arith)),
  sym (decimal-number_text c.args.entries (omega (arith, c.ranges.entries.fits))),
) (search (rules, c.in_ok-text.ensures.ok))
