use Rattle.std.proofs.Common.{◌≡◌, None, ap, ◌∙◌, sym, subst, IfSome}
use Rattle.std.specs.Option.{option_map}
use Rattle.reg_base.specs.declared.records.Document.{Document}
use Rattle.reg_base.specs.Documents.{document_at}
use Rattle.doc_store.proofs.PlaceLemmas.{document_at-documents_of, without_document-absent}
use Rattle.doc_store.proofs.PlaceLemmas.{is_none-mapped}
use Rattle.doc_store.proofs.SoundLemmas.{sound-forget, key-stays}
use Rattle.doc_store.proofs.committed.Committed.give_up_room.Goals as goal

pub returns-in-Some-clause-sound : goal.returns-in-Some-clause-sound
returns-in-Some-clause-sound c = sound-forget c.args.self.now c.requires c.args.number
    c.in-Some.stays c.forget_key.new.keys c.forget_key.ensures
    (key-stays _ c.in-Some.stays
    (ap (option_map (λ (d : Document). d.doc.key))
    (sym (document_at-documents_of c.args.number c.args.self.now.places.entries
    c.requires.ordered c.requires.numbered)) ∙ sym c.find_key.ensures ∙ c.in-Some.is))

pub returns-in-None-clause-sound : goal.returns-in-None-clause-sound
returns-in-None-clause-sound c =
    let absent = is_none-mapped _ (sym c.find_key.ensures ∙ c.in-None.is) in
    let same = c.remove.ensures.documents ∙ without_document-absent c.args.number _ absent in
    sound-forget c.remove.new.self c.remove.ensures.sound c.args.number None
    c.forget_key-in-None.new.keys c.forget_key-in-None.ensures
    (subst (λ o. IfSome o (λ (d : Document). None ≡ d.doc.key))
    (sym (sym (document_at-documents_of c.args.number c.remove.new.self.places.entries
    c.remove.ensures.sound.ordered c.remove.ensures.sound.numbered)
    ∙ ap (document_at c.args.number) same ∙ absent)) tt)

pub returns-in-None-clause-same : goal.returns-in-None-clause-same
returns-in-None-clause-same c = c.remove.ensures.documents
    ∙ without_document-absent c.args.number _
    (is_none-mapped _ (sym c.find_key.ensures ∙ c.in-None.is))
