-- Which answers can be written as reports.
use Rattle.std.specs.Prelude.{◌≤◌, ⊤, length, All}
use Rattle.desk_words.specs.declared.reply.Answer.{Answer}
use Rattle.desk_words.specs.declared.reply.Answer.TheVariants.{Acknowledged, Balance, Turnovers}
use Rattle.desk_words.specs.declared.reply.Answer.TheVariants.{Both, AccountBalance, DrCr, Shown}
use Rattle.desk_words.specs.declared.reply.Answer.TheVariants.{AccountTurnovers, AccountBoth}
use Rattle.desk_words.specs.declared.reply.Answer.TheVariants.{Documents}
use Rattle.desk_words.specs.declared.reply.Reply.{Reply}
use Rattle.desk_words.specs.declared.reply.Reply.TheVariants.{Done, Refused}
use Rattle.text_reports.specs.TrialBalances.{HasModerateNumbers}

-- a trial balance can be made of it: no more rows than a table has, and moderate numbers
abbrev pub IsPrintable : Answer → Type 0
IsPrintable (AccountBoth rows scale) = (length rows ≤ 100_000) × All HasModerateNumbers rows
IsPrintable (Both rows scales) = ⊤
IsPrintable (Documents rows) = ⊤
IsPrintable (Acknowledged acknowledgement) = ⊤
IsPrintable (Balance rows scales) = ⊤
IsPrintable (Turnovers balances rows scales) = ⊤
IsPrintable (AccountBalance rows scale) = ⊤
IsPrintable (AccountTurnovers rows scale) = ⊤
IsPrintable (DrCr rows scale) = ⊤
IsPrintable (Shown document) = ⊤

-- so it is of what is replied
abbrev pub RepliesPrintable : Reply → Type 0
RepliesPrintable (Done answer) = IsPrintable answer
RepliesPrintable (Refused refusal) = ⊤
