-- The text of an entry of the journal, and the command that a text is.
use Rattle.std.specs.Prelude.{ℕ, ◌+◌, ◌-◌, ◌^◌, ◌&&◌, nat_lt, if◌then◌else◌, Option, Some, None}
use Rattle.std.specs.Prelude.{option_and_then, List, length, take, drop}
use Rattle.std.specs.Char.{is_ascii_digit}
use Rattle.std.specs.List.{prefix_len}
use Rattle.std.specs.Option.{option_map}
use Rattle.std.specs.Result.{result_ok}
use Rattle.std.specs.Str.{bytes_eq}
use Rattle.reg_base.specs.Numbers.{decimal_value}
use Rattle.desk_words.specs.Reading.{request_of_text}
use Rattle.desk_model.specs.State.{Command}
use Rattle.desk_model.specs.Journals.{command_text}
use Rattle.desk_history.specs.declared.entry.Command.{Command as Drawn}

-- a command as the code holds it, as the machine's
abbrev pub command_view : Drawn → Command
command_view c = record { number = c.number; request = c.request }

-- how many digits a text begins with
abbrev pub leading_digits : List ℕ → ℕ
leading_digits text = prefix_len is_ascii_digit text

-- what stands behind so many digits and a space, up to the last byte
abbrev pub behind_digits : ℕ → List ℕ → List ℕ
behind_digits digits text = take (length text - (digits + 2)) (drop (digits + 1) text)

-- the command that a text reads as
unfoldable pub read_command : List ℕ → Option Command
read_command text = option_map
    (λ r. record { number = decimal_value (take (leading_digits text) text); request = r })
    (result_ok (request_of_text (behind_digits (leading_digits text) text)))

-- a command, where this text is its line to the byte
abbrev pub if_spelt : List ℕ → Command → Option Command
if_spelt text c =
    if nat_lt c.number (2 ^ 32) && bytes_eq (command_text c) text then Some c else None

-- the command whose line a text is
unfoldable pub command_of : List ℕ → Option Command
command_of text = option_and_then (if_spelt text) (read_command text)
