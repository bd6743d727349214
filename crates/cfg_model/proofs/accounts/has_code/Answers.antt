use Rattle.std.proofs.Common.{ap, ◌∙◌}
use Rattle.std.specs.Prelude.{is_some}
use Rattle.cfg_model.proofs.PlaceLemmas.{is_some-place_at}
use Rattle.cfg_model.proofs.accounts.has_code.Goals as goal

pub returns : goal.returns
returns c = λ accounts leads.
    c.is_some.ensures ∙ ap is_some c.place_of.ensures
    ∙ is_some-place_at c.args.places.now.entries accounts leads c.args.code.now
