use Rattle.std.proofs.Common.{cond, Some, ap, ◌∙◌}
use Rattle.std.proofs.lemmas.Map.Text.{is_eq-slice_cmp}
use Rattle.cfg_model.specs.AccountMaps.{place_at}
use Rattle.cfg_model.proofs.accounts.put_place.Goals as goal

pub returns : goal.returns
returns c = λ q.
    c.in_ok-insert.ensures.updates.0 q
    ∙ ap (λ same. cond same (Some c.args.place) (place_at q c.args.places.now.entries))
    (is_eq-slice_cmp c.args.code q)
