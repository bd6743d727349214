use Rattle.std.proofs.Common.{None, Some, ap, ◌∙◌, sym, arith}
use Rattle.std.specs.Option.{option_copied}
use Rattle.doc_store.specs.Kept.{documents_of}
use Rattle.doc_store.proofs.PlaceLemmas.{documents_of-remove_entry}
use Rattle.doc_store.proofs.SoundLemmas.{sound-remove, lack_at, lacks-remove}
use Rattle.doc_store.proofs.SoundLemmas.{keeps-all}
use Rattle.doc_store.proofs.committed.Committed.remove.Goals as goal

pub returns-in_default-clause-documents : goal.returns-in_default-clause-documents
returns-in_default-clause-documents c = ap documents_of c.remove.ensures.entries
    ∙ documents_of-remove_entry c.args.number c.args.self.now.places.entries
    c.requires.ordered c.requires.numbered

pub returns-in-Some-document-clause-sound : goal.returns-in-Some-document-clause-sound
returns-in-Some-document-clause-sound c = sound-remove c.args.self.now c.requires
    c.forget_key.new.keys c.remove.new.self c.args.self.now.spare c.args.number
    c.remove.ensures.ordered c.remove.ensures.entries c.remove.ensures.updates
    c.forget_key.ensures
    (let held = ap lack_at (sym c.remove.ensures.value ∙ c.in-Some.is
    ∙ ap Some (sym c.document.ensures ∙ ap option_copied c.in-Some-document.is)) in
    omega (arith, held))

pub returns-in-Some-document-clause-documents : goal.returns-in-Some-document-clause-documents
returns-in-Some-document-clause-documents c = ap documents_of c.remove.ensures.entries
    ∙ documents_of-remove_entry c.args.number c.args.self.now.places.entries
    c.requires.ordered c.requires.numbered

pub overflow_sub-self : goal.overflow_sub-self
overflow_sub-self c =
    let held = ap lack_at (sym c.remove.ensures.value ∙ c.in-Some.is
    ∙ ap Some (sym c.document.ensures ∙ ap option_copied c.in-None.is)) in
    let all = lacks-remove c.args.number c.args.self.now.places.entries in
    let spare = c.requires.counted in
    omega (arith, held, all, spare)

pub returns-clause-sound : goal.returns-clause-sound
returns-clause-sound c = sound-remove c.args.self.now c.requires
    c.args.self.now.keys c.remove.new.self _ c.args.number
    c.remove.ensures.ordered c.remove.ensures.entries c.remove.ensures.updates
    (keeps-all c.args.number None c.args.self.now.keys)
    (let held = ap lack_at (sym c.remove.ensures.value ∙ c.in-Some.is
    ∙ ap Some (sym c.document.ensures ∙ ap option_copied c.in-None.is)) in
    let all = lacks-remove c.args.number c.args.self.now.places.entries in
    let spare = c.requires.counted in
    omega (arith, held, all, spare))

pub returns-clause-documents : goal.returns-clause-documents
returns-clause-documents c = ap documents_of c.remove.ensures.entries
    ∙ documents_of-remove_entry c.args.number c.args.self.now.places.entries
    c.requires.ordered c.requires.numbered
