use Rattle.std.proofs.Common.{◌^◌, arith, ap, ◌∙◌, sym, is_eq}
use Rattle.table_sums.specs.Additions.{number_at}
use Rattle.table_sums.specs.Rows.{key_seen, rows_of}
use Rattle.table_sums.proofs.KeyOrder.{derived-key_cmp}
use Rattle.table_sums.proofs.RowLemmas.{sums_seen, sums_seen-lookup, rows_of-insert_entry, with_row}
use Rattle.table_sums.proofs.ReachLemmas.{found-reach, more-reach}
use Rattle.table_sums.proofs.AddLemmas.{Adds-found, Adds-made}
use Rattle.table_sums.proofs.sums.add_to.Goals as goal

pub total-requires-clause-reach : goal.total-requires-clause-reach
total-requires-clause-reach c =
    λ j. more-reach (2 ^ 46) (2 ^ 60) (number_at c.in-Some.found.now.items j) (omega arith)
    (found-reach (2 ^ 46) (key_seen c.args.key) c.in-Some.found.now.items
    (rows_of c.args.sums.now.entries)
    (sym (sums_seen-lookup (key_seen c.args.key) _
    (λ x. ap is_eq (derived-key_cmp c.args.key x)) c.args.sums.now.entries)
    ∙ ap sums_seen (sym c.in-Some.ensures.value))
    c.requires.reach j)

pub total-requires-clause-small : goal.total-requires-clause-small
total-requires-clause-small c =
    λ j. more-reach 1 (2 ^ 60) (number_at c.args.numbers.items j) (omega arith) (c.requires.small j)

pub returns-in_ok-found-in-Some : goal.returns-in_ok-found-in-Some
returns-in_ok-found-in-Some c =
    Adds-found (key_seen c.args.key) c.args.numbers.items c.requires.small _
    (λ x. ap is_eq (derived-key_cmp c.args.key x)) c.args.sums.now.entries _
    c.in-Some.found.now c.in_ok-found-in-Some.field-0 (sym c.in-Some.ensures.value)
    c.in_ok-found-in-Some.ensures
    (c.get_mut.follows.holds _).0

pub returns-in_ok-insert-in-None : goal.returns-in_ok-insert-in-None
returns-in_ok-insert-in-None c =
    Adds-made (key_seen c.args.key) c.args.numbers.items c.requires.small
    (rows_of c.args.sums.now.entries) (rows_of c.insert.new.self.entries)
    (sym (sums_seen-lookup (key_seen c.args.key) _
    (λ x. ap is_eq (derived-key_cmp c.args.key x)) c.args.sums.now.entries)
    ∙ ap sums_seen (sym c.in-None.ensures.value))
    (ap rows_of c.in_ok-insert-in-None.ensures.entries
    ∙ rows_of-insert_entry c.args.key _ derived-key_cmp _ c.args.numbers
    ∙ ap (λ m. with_row (key_seen c.args.key) c.args.numbers.items (rows_of m.entries))
    c.get_mut.follows.holds-at-none)
