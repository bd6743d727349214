-- Why a request goes no further.
use Rattle.std.specs.Prelude.{Result, Ok, Err}
use Rattle.desk_words.specs.declared.reply.Acknowledgement.{Acknowledgement}
use Rattle.desk_words.specs.declared.reply.Refusal.{Refusal}

-- a request is refused, or it repeats the clerk's last one, whose acknowledgement is given again
pub data Stop : Type 0 where
  refuses : Refusal → Stop
  repeats : Acknowledgement → Stop

-- a part of a request's way, which stops where it is refused
abbrev pub or_stop : {X : Type 0} → Result X Refusal → Result X Stop
or_stop (Ok x) = Ok x
or_stop (Err refusal) = Err (refuses refusal)
