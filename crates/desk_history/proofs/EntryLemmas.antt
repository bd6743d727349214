-- The text of a command is read back.
use Rattle.std.proofs.Common.{◌≡◌, ℕ, ◌+◌, ◌-◌, ◌<◌, ◌^◌, true, nat_lt, List, []}
use Rattle.std.proofs.Common.{◌∷◌, ◌++◌, length, drop, Some, Ok, refl, ap, ◌∙◌, arith}
use Rattle.std.proofs.Common.{append-nil, length-append, bytes_eq}
use Rattle.std.specs.Char.{is_ascii_digit}
use Rattle.std.proofs.lemmas.Bool.Decides.{nat_tests}
use Rattle.std.proofs.lemmas.List.{take_at}
use Rattle.std.proofs.lemmas.Slice.Eq.{bytes_eq-Decides}
use Rattle.std.proofs.Math.Seq.{drop-append-add}
use Rattle.reg_base.specs.Numbers.{number_text}
use Rattle.reg_base.proofs.ForAbove.{all_digits-number_text, decimal_value-number_text}
use Rattle.reg_base.proofs.ForAbove.{prefix_len-all}
use Rattle.reg_base.specs.declared.line.Line.TheVariants.{Text}
use Rattle.desk_words.specs.declared.request.Request.{Request}
use Rattle.desk_words.specs.Reading.{request}
use Rattle.desk_words.specs.RequestTexts.{request_text}
use Rattle.desk_words.specs.WellFormed.{IsRequest}
use Rattle.desk_model.specs.State.{Command}
use Rattle.desk_model.specs.Journals.{command_text, commands_text}
use Rattle.desk_history.specs.Entries.{leading_digits, behind_digits}
use Rattle.desk_history.specs.Entries.{read_command, command_of}

-- the canonical text of every well-formed request is read as that request
abbrev pub ReadBack : Type 0
ReadBack = (r : Request) → IsRequest r → request (Text (request_text r)) ≡ Ok r

same_text : (text : List ℕ) → bytes_eq text text ≡ true
same_text text = (bytes_eq-Decides text text).1 refl

-- what stands between the digits of a number, a space, and a line feed
behind_number : (digits text : List ℕ) →
    behind_digits (length digits) (digits ++ 32 ∷ (text ++ 10 ∷ [])) ≡ text
behind_number digits text =
    let rest : List ℕ = text ++ 10 ∷ [] in
    let behind : drop (length digits + 1) (digits ++ 32 ∷ rest) ≡ rest =
    drop-append-add digits (32 ∷ rest) 1 in
    let long : length (digits ++ 32 ∷ rest) - (length digits + 2) ≡ length text =
    omega (arith, length-append digits (32 ∷ rest), length-append text (10 ∷ [])) in
    rw (long, behind) (take_at text (10 ∷ []) (length text) refl)

-- a command reads as itself
read_command-text : ReadBack → (c : Command) → c.number < 2 ^ 32 → IsRequest c.request →
    read_command (command_text c) ≡ Some c
unfolding read_command
read_command-text back c small is =
    let wide : c.number < 2 ^ 64 = omega (arith, small) in
    let digits = number_text c.number in
    let rest : List ℕ = 32 ∷ (request_text c.request ++ 10 ∷ []) in
    let count : leading_digits (command_text c) ≡ length digits =
    prefix_len-all is_ascii_digit digits rest (all_digits-number_text c.number wide) refl in
    let front = take_at digits rest (length digits) refl in
    rw (
      count,
      front,
      behind_number digits (request_text c.request),
      back c.request is,
      decimal_value-number_text c.number wide,
    ) refl

-- the line of a command is that command's
pub command_of-text : ReadBack → (c : Command) → c.number < 2 ^ 32 → IsRequest c.request →
    command_of (command_text c) ≡ Some c
unfolding command_of
command_of-text back c small is =
    let fits : nat_lt c.number (2 ^ 32) ≡ true = grind (arith, nat_tests, small) in
    rw (read_command-text back c small is, fits, same_text (command_text c)) refl

-- the text of an entry of one command is that command's
pub command_of-commands_text : ReadBack → (c : Command) → c.number < 2 ^ 32 → IsRequest c.request →
    command_of (commands_text (c ∷ [])) ≡ Some c
command_of-commands_text back c small is =
    ap command_of (append-nil (command_text c)) ∙ command_of-text back c small is
