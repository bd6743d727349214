use Rattle.std.proofs.Common.{rules, refl, ap, ◌∙◌}
use Rattle.csv.specs.Records.{fields_of}
use Rattle.csv_groups.specs.Standing.{with_last}
use Rattle.csv_groups.proofs.GroupLemmas.{place-scattered, place-new, stands-begun}
use Rattle.csv_groups.proofs.groups.Groups.begin.Goals as goal

pub returns-then-not-branch-clause-read : goal.returns-then-not-branch-clause-read
returns-then-not-branch-clause-read c = λ groups h other.
    let apart = rw c.requires.key at c.requires.other in
    let came = rw c.requires.key at c.in_ok-put_key.ensures.new in
    let scattered = place-scattered c.args.columns.now c.args.self.now groups c.args.row
    (fields_of c.args.cells) h apart in
    search (rules, scattered, came)

pub returns-clause-read : goal.returns-clause-read
returns-clause-read c = λ groups h.
    let apart = rw c.requires.key at c.requires.other in
    let came = rw c.requires.key at c.in_ok-put_key.ensures.new in
    let new = place-new c.args.columns.now c.args.self.now groups c.args.row
    (fields_of c.args.cells) h apart in
    search (rules, new, came)

pub returns-clause-ok : goal.returns-clause-ok
returns-clause-ok c = λ groups h.
    let apart = rw c.requires.key at c.requires.other in
    stands-begun c.args.columns.now c.args.self.now
    (record {
      whole = c.close.new.whole;
      last = c.replace-before.new.self;
      keys = c.put_key.new.keys;
    }) groups (fields_of c.args.cells)
    (record { key = c.args.key; first = c.args.cells; content = c.in_ok-content.content })
    h apart
    (record {
      key = c.requires.key;
      first = refl;
      content = c.in_ok-content.ensures.value;
      formed = c.in_ok-content.ensures.formed;
    })
    (c.in_ok-close.ensures
    ∙ ap (with_last c.args.self.now.whole) c.replace-before.ensures.value)
    c.replace-before.ensures.after
    c.in_ok-put_key.ensures.keys
