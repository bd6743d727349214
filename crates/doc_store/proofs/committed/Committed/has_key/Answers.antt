use Rattle.std.proofs.Common.{ap, ◌∙◌, sym}
use Rattle.std.specs.Option.{option_copied}
use Rattle.doc_store.specs.Holders.{has_key}
use Rattle.doc_store.proofs.SeenLemmas.{documents-ascend}
use Rattle.doc_store.proofs.HolderLemmas.{has_key-but, at-but}
use Rattle.doc_store.proofs.committed.Committed.has_key.Goals as goal

pub returns-then-eq : goal.returns-then-eq
returns-then-eq c = sym (has_key-but c.args.key.now c.args.but c.args.number _
    (documents-ascend c.args.self.now.places.entries c.requires.ordered c.requires.numbered)
    (sym c.eq.ensures ∙ c.if-eq.true))

pub returns-in-Some : goal.returns-in-Some
returns-in-Some c = c.is_key.ensures
    ∙ sym (ap (has_key c.args.key.now) (at-but c.args.but c.args.number _
    (documents-ascend c.args.self.now.places.entries c.requires.ordered c.requires.numbered)
    (sym c.eq.ensures ∙ c.if-eq.false) ∙ sym c.find.ensures ∙ ap option_copied c.in-Some.is))

pub returns-in-None : goal.returns-in-None
returns-in-None c = sym (ap (has_key c.args.key.now) (at-but c.args.but c.args.number _
    (documents-ascend c.args.self.now.places.entries c.requires.ordered c.requires.numbered)
    (sym c.eq.ensures ∙ c.if-eq.false) ∙ sym c.find.ensures ∙ ap option_copied c.in-None.is))
