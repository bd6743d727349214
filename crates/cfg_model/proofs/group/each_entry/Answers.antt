use Rattle.std.proofs.Common.{rules, Ok, sym, ap, ◌∙◌}
use Rattle.toml.specs.View.{members_view}
use Rattle.cfg_model.specs.Walk.{each_entry}
use Rattle.cfg_model.proofs.Walks.{entries-next, entries-end}
use Rattle.cfg_model.proofs.group.each_entry.Goals as goal

pub returns-in_err-read-clause-read : goal.returns-in_err-read-clause-read
returns-in_err-read-clause-read g c =
    let reads = g.E.FromEntry.reads c.args.config.now in
    let all = each_entry reads (members_view c.args.entries.now.entries) in
    let told = entries-next reads c.entries.found.items c.entries.name-iterator
    (c.in-Some.name.now, c.in-Some.value.now) c.next.new.self all c.entries.invariant.2
    c.in-Some.ensures.steps in
    search (rules, told)

pub returns-clause-read : goal.returns-clause-read
returns-clause-read g c =
    let reads = g.E.FromEntry.reads c.args.config.now in
    let all = each_entry reads (members_view c.args.entries.now.entries) in
    entries-end reads c.entries.found.items c.entries.name-iterator all
    c.entries.invariant.2 c.in-None.ensures.steps.0
    ∙ ap Ok (sym c.from_vec.ensures)
