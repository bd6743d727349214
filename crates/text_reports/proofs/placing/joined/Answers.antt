use Rattle.std.proofs.Common.{◌++◌, ◌∷◌, ◌∙◌, ap, sym}
use Rattle.std.specs.List.{flat_map, join_with_byte}
use Rattle.text_reports.proofs.PlacingLemmas.{join_with_byte-cons}
use Rattle.text_reports.proofs.placing.joined.Goals as goal

pub others-init : goal.others-init
others-init c =
    let separator = c.args.separator in
    let others = c.in-Some.others.now in
    ap (λ front. front ++ flat_map (λ other. separator ∷ other) others)
    (c.in_ok-text.ensures ∙ c.as_str.ensures)
    ∙ sym (join_with_byte-cons separator c.in-Some.first.now others)
    ∙ ap (join_with_byte separator) (sym c.in-Some.ensures.cases.0)
