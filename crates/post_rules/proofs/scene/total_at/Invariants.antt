use Rattle.std.proofs.Common.{◌≡◌, ◌*◌, ◌^◌, ◌≤◌, unsigned_abs, ◌+ℤ◌, drop}
use Rattle.post_model.specs.Scenes.{total_at}
use Rattle.post_rules.proofs.scene.total_at.Given as goal

-- the numbers so far and those of the lines that are left are all
abbrev pub invariant-lines : goal.invariant-lines
invariant-lines l =
    (l.total +ℤ total_at (drop l.line-index l.lines) l.place ≡ total_at l.lines l.place)
    × (unsigned_abs l.total ≤ l.line-index * 2 ^ 63)
