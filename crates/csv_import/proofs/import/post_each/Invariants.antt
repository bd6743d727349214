-- The groups so far, and what is known of those that are left.
use Rattle.std.proofs.Common.{◌≡◌, ◌≤◌, false}
use Rattle.std.specs.List.{AllByRecursion}
use Rattle.std.specs.Vec.Iter.{into_iter_items}
use Rattle.desk_core.specs.Histories.{Holds}
use Rattle.csv_groups.specs.Requests.{IsBatchPost}
use Rattle.csv_import.specs.Posting.{ArePosted}
use Rattle.csv_import.proofs.import.post_each.Given as goal

abbrev pub invariant-groups : goal.invariant-groups
invariant-groups g l = record {
  so : ArePosted l.fn.desk l.desk l.fn.groups (into_iter_items l.group-iterator) l.fn.out.items
      l.out.items l.counts (g.D.Disk.state l.fn.disk) (g.D.Disk.state l.disk);
  going : l.desk.stopped ≡ false;
  holds : Holds l.desk.desk l.journal (g.D.Disk.state l.disk);
  posts : AllByRecursion IsBatchPost (into_iter_items l.group-iterator);
  later : g.D.Disk.faults l.fn.disk ≤ g.D.Disk.faults l.disk;
  same : g.D.Disk.borrow_name l.disk ≡ g.D.Disk.borrow_name l.fn.disk;
}
