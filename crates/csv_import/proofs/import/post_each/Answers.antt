use Rattle.std.proofs.Common.{◌≡◌, ◌∷◌, ◌∙◌, ap, arith, refl, rules}
use Rattle.std.specs.Vec.Iter.{into_iter_items}
use Rattle.desk_core.proofs.ForAbove.{is_fault}
use Rattle.csv_import.proofs.PostingLemmas.{ArePosted-none, ArePosted-more, ImportEnds-at}
use Rattle.csv_import.proofs.PostingLemmas.{counts_fit}
use Rattle.csv_import.proofs.import.post_each.Goals as goal

pub groups-init : goal.groups-init
groups-init g c =
    let left : into_iter_items c.into_iter-group-iterator.result ≡ c.args.groups = search rules in
    record {
      so = ArePosted-none c.args.desk.now c.args.groups _ c.args.out.now.items
          c.new-counts.result c.args.journal.now _ left c.requires.going c.requires.holds
          c.new-counts.ensures;
      going = c.requires.going;
      holds = c.requires.holds;
      posts = rw left c.requires.posts;
      later = omega arith;
      same = refl;
    }

pub returns-in_err-outcome-clause-ends : goal.returns-in_err-outcome-clause-ends
returns-in_err-outcome-clause-ends g c =
    let i = c.groups.invariant in let ends = c.in_err-outcome.ensures in
    let left : into_iter_items c.groups.group-iterator
    ≡ c.in-Some.group ∷ into_iter_items c.next.new.self = c.in-Some.ensures.steps.0 in
    rw (is_fault c.from_residual.result _ c.from_residual.ensures)
    (ImportEnds-at _ _ _ _ _ _ _ _ _ _ _ _ _ _ _ _ _ _ (rw left at i.so) ends.err i.later
    ends.ready ends.ends)

pub add-requires : goal.add-requires
add-requires g c =
    let left : into_iter_items c.groups.group-iterator
    ≡ c.in-Some.group ∷ into_iter_items c.next.new.self = c.in-Some.ensures.steps.0 in
    counts_fit _ _ c.args.groups (into_iter_items c.next.new.self) c.in-Some.group _ _ _ _ _
    (rw left at c.groups.invariant.so) c.requires.few

pub groups-preserved : goal.groups-preserved
groups-preserved g c =
    let i = c.groups.invariant in let ends = c.in_ok-outcome.ensures in
    let left : into_iter_items c.groups.group-iterator
    ≡ c.in-Some.group ∷ into_iter_items c.next.new.self = c.in-Some.ensures.steps.0 in
    let going = ap (λ v. v.stopped) ends.ends.1.new_is in record {
      so = rw c.add.ensures (ArePosted-more _ _ _ _ _ _ _ _ _ _ _ _ _ _ (rw left at i.so)
          ends.line ends.ends.0 ends.ends.1);
      going = going;
      holds = ends.ready going;
      posts = (rw left at i.posts).1;
      later = omega (arith, i.later, ends.later);
      same = ends.same ∙ i.same;
    }
