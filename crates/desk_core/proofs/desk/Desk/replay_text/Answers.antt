use Rattle.std.proofs.Common.{ap, ◌∙◌, sym}
use Rattle.std.specs.Option.{option_map}
use Rattle.desk_history.specs.Entries.{command_view}
use Rattle.desk_core.proofs.ReplayingLemmas.{text-command, text-none}
use Rattle.desk_core.proofs.desk.Desk.replay_text.Goals as goal

pub returns-in-Some : goal.returns-in-Some
returns-in-Some c =
    text-command c.args.text.now (command_view c.in-Some.command) c.args.self.now
    c.replay_command.new.self c.replay_command.result
    (sym (ap (option_map command_view) c.in-Some.is) ∙ c.in_ok-command.ensures.value)
    c.replay_command.ensures

pub returns-in-None : goal.returns-in-None
returns-in-None c = text-none c.args.text.now c.args.self.now
    (sym (ap (option_map command_view) c.in-None.is) ∙ c.in_ok-command.ensures.value)
