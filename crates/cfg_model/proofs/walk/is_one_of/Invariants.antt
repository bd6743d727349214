use Rattle.std.proofs.Common.{◌≡◌, drop}
use Rattle.cfg_model.specs.Words.{texts, is_one_of}
use Rattle.cfg_model.proofs.walk.is_one_of.Given as goal

abbrev pub invariant-words : goal.invariant-words
invariant-words l =
    is_one_of (texts (drop l.word-index l.words)) l.text ≡ is_one_of (texts l.words) l.text
