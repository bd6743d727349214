-- For the crates above: the lemmas of this crate that their proofs may cite.
use Rattle.std.proofs.Common.{◌≡◌, ℕ, Some, List}
use Rattle.std.specs.List.{flat_map}
use Rattle.std.specs.Option.{option_copied}
use Rattle.reg_base.specs.declared.records.Document.{Document}
use Rattle.reg_base.specs.declared.records.Filter.{Filter}
use Rattle.reg_base.specs.declared.cut.Cut.{Cut}
use Rattle.reg_base.specs.Records.{booked_by, records_of, without_recorder}
use Rattle.reg_base.specs.Balances.{sum_rows, balance_of}
use Rattle.virt_tables.specs.declared.cuts.Query.{Query}
use Rattle.virt_tables.specs.Cuts.{counted}
use Rattle.virt_tables.proofs.CutLemmas as cuts

-- where one document is left out, the rows are those of the register's balance without it
pub rows-others : (q : Query) (n register : ℕ) (group : List ℕ) (asked : Filter) (cut : Cut)
    (skip : ℕ) (documents : List Document) → q.resources ≡ n → option_copied q.by ≡ Some group
    → q.filter.now ≡ asked → q.cut.now ≡ cut → q.skip ≡ Some skip
    → sum_rows q.resources (option_copied q.by)
    (counted q (flat_map (booked_by register) documents))
    ≡ balance_of n (without_recorder skip (records_of register documents)) asked (Some group) cut
rows-others = cuts.rows-others
