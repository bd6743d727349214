use Rattle.std.proofs.Common.{◌≡◌, drop}
use Rattle.rule_lang.specs.Binds.{none_twice}
use Rattle.rule_lang.proofs.binds.none_twice.Given as goal

abbrev pub invariant-items : goal.invariant-items
invariant-items g l = none_twice g.H.HasWord.word_of (drop l.index l.items)
    ≡ none_twice g.H.HasWord.word_of l.items
