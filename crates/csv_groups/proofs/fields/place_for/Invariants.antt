use Rattle.std.proofs.Common.{◌≡◌, List, ℕ, ◌++◌, take, drop}
use Rattle.reg_base.specs.Records.{put_once}
use Rattle.csv_groups.specs.Groups.{field_cmp}
use Rattle.csv_groups.specs.Places.{field_of}
use Rattle.csv_groups.proofs.fields.place_for.Given as goal

abbrev pub invariant-fields : goal.invariant-fields
invariant-fields l = (text : List ℕ) → put_once field_cmp (field_of l.name text) l.fields
    ≡ take l.index l.fields ++ put_once field_cmp (field_of l.name text) (drop l.index l.fields)
