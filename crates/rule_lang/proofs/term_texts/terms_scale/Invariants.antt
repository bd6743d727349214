use Rattle.std.proofs.Common.{◌≡◌, drop}
use Rattle.rule_lang.specs.TermTexts.{terms_scale}
use Rattle.rule_lang.proofs.term_texts.terms_scale.Given as goal

abbrev pub invariant-terms : goal.invariant-terms
invariant-terms l =
    terms_scale l.kind l.cost l.other (drop l.term-index l.terms)
    ≡ terms_scale l.kind l.cost l.other l.terms
