use Rattle.std.proofs.Common.{◌≡◌, ◌++◌, ◌∷◌, drop, string_bytes}
use Rattle.std.specs.List.{flat_map, join_with_byte}
use Rattle.text_reports.proofs.placing.joined.Given as goal

abbrev pub invariant-others : goal.invariant-others
invariant-others l =
    string_bytes l.text ++ flat_map (λ other. l.separator ∷ other) (drop l.other-index l.others)
    ≡ join_with_byte l.separator l.texts
