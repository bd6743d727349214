use Rattle.std.proofs.Common.{◌≡◌, map, take}
use Rattle.desk_words.specs.ReplyWords.{value_text}
use Rattle.desk_plans.proofs.shown.value_texts.Given as goal

abbrev pub invariant-values : goal.invariant-values
invariant-values l = l.texts ≡ map value_text (take l.value-index l.values)
