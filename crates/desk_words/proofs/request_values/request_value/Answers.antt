use Rattle.std.proofs.Common.{ap, sym, ◌∙◌}
use Rattle.serde_json.proofs.Views.{view-Object}
use Rattle.serde_json.specs.Data.{object}
use Rattle.desk_words.specs.RequestTexts.{request_data}
use Rattle.desk_words.proofs.request_values.request_value.Goals as goal

pub returns-in_ok-members-in-AccountTurnovers : goal.returns-in_ok-members-in-AccountTurnovers
unfolding request_data
returns-in_ok-members-in-AccountTurnovers c =
    view-Object c.in_ok-members-in-AccountTurnovers.members
    ∙ ap object c.in_ok-members-in-AccountTurnovers.ensures
    ∙ ap request_data (sym c.in-AccountTurnovers.is)
