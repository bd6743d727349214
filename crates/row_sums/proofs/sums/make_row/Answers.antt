use Rattle.std.proofs.Common.{ap, ◌∙◌}
use Rattle.row_sums.specs.Sums.{booked}
use Rattle.row_sums.specs.Rows.{rows_of, with_row}
use Rattle.row_sums.proofs.RowLemmas.{rows_of-insert_entry, derived-values_cmp}
use Rattle.row_sums.proofs.AddsLemmas.{Adds-make}
use Rattle.row_sums.proofs.sums.make_row.Goals as goal

pub returns : goal.returns
returns c =
    λ by number own. Adds-make by c.args.resources (booked number c.args.rec.now)
    c.args.group.now own (rows_of c.args.sums.now.entries)
    (rows_of c.insert.new.self.entries) c.in_ok-first.first.items c.requires
    c.in_ok-first.ensures.value c.in_ok-first.ensures.small
    (ap rows_of c.in_ok-insert.ensures.entries
    ∙ rows_of-insert_entry _ (λ x y. derived-values_cmp x.items y.items) c.args.sums.now.entries
    c.in_ok-key.key c.in_ok-first.first
    ∙ ap (λ g. with_row (record { group = g; sums = c.in_ok-first.first.items })
    (rows_of c.args.sums.now.entries)) c.in_ok-key.ensures.items)
