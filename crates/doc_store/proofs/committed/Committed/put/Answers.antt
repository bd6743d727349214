use Rattle.std.proofs.Common.{◌+◌, refl, ap, ◌∙◌, sym, subst, arith}
use Rattle.doc_store.specs.Kept.{documents_of}
use Rattle.doc_store.specs.Pairs.{KeepsPairs}
use Rattle.doc_store.proofs.PlaceLemmas.{documents_of-set_value}
use Rattle.doc_store.proofs.SoundLemmas.{sound-put, lack_at-Some, lack_at-None}
use Rattle.doc_store.proofs.SoundLemmas.{lacks-put, keeps-all}
use Rattle.doc_store.proofs.committed.Committed.put.Goals as goal

pub overflow_sub-self : goal.overflow_sub-self
overflow_sub-self c =
    let one = lack_at-None _ c.requires.room.place
    (sym c.fill_place.ensures.former ∙ c.in-None.is) in
    let all = lacks-put c.args.document.doc.number c.args.document
    c.args.self.now.places.entries _ refl c.requires.room.place in
    let spare = c.requires.sound.counted in
    omega (arith, one, all, spare)

pub returns-in-Some-clause-sound : goal.returns-in-Some-clause-sound
returns-in-Some-clause-sound c = sound-put c.args.self.now c.requires.sound
    c.forget_key.new.keys c.fill_place.new.places c.args.self.now.spare c.args.document
    c.fill_place.ensures.ordered c.fill_place.ensures.places c.fill_place.ensures.updates
    (subst (λ key. KeepsPairs c.args.document.doc.number key c.args.self.now.keys
    c.forget_key.new.keys) c.key_of-key.ensures c.forget_key.ensures)
    c.requires.room.pair c.requires.room.place
    (ap (λ n. c.args.self.now.spare + n)
    (lack_at-Some _ c.in-Some.former (sym c.fill_place.ensures.former ∙ c.in-Some.is))
    ∙ (omega arith))

pub returns-in-Some-clause-documents : goal.returns-in-Some-clause-documents
returns-in-Some-clause-documents c = ap documents_of c.fill_place.ensures.places
    ∙ documents_of-set_value c.args.document c.args.self.now.places.entries
    c.requires.sound.ordered c.requires.sound.numbered c.requires.room.place

pub returns-in-None-clause-sound : goal.returns-in-None-clause-sound
returns-in-None-clause-sound c = sound-put c.args.self.now c.requires.sound
    c.args.self.now.keys c.fill_place.new.places _ c.args.document
    c.fill_place.ensures.ordered c.fill_place.ensures.places c.fill_place.ensures.updates
    (keeps-all c.args.document.doc.number c.args.document.doc.key c.args.self.now.keys)
    c.requires.room.pair c.requires.room.place
    (let one = lack_at-None _ c.requires.room.place
    (sym c.fill_place.ensures.former ∙ c.in-None.is) in
    let all = lacks-put c.args.document.doc.number c.args.document
    c.args.self.now.places.entries _ refl c.requires.room.place in
    let spare = c.requires.sound.counted in
    omega (arith, one, all, spare))

pub returns-in-None-clause-documents : goal.returns-in-None-clause-documents
returns-in-None-clause-documents c = ap documents_of c.fill_place.ensures.places
    ∙ documents_of-set_value c.args.document c.args.self.now.places.entries
    c.requires.sound.ordered c.requires.sound.numbered c.requires.room.place
