use Rattle.std.proofs.Common.{Some, ap, ◌∙◌, sym, subst}
use Rattle.std.specs.Ordering.{nat_cmp}
use Rattle.std.specs.BTreeMap.{insert_entry, Updates}
use Rattle.doc_store.specs.Kept.{documents_of}
use Rattle.doc_store.proofs.PlaceLemmas.{documents_of-insert_entry}
use Rattle.doc_store.proofs.SoundLemmas.{sound-insert, is_none-absent}
use Rattle.doc_store.proofs.committed.Committed.make_place.Goals as goal

pub returns-in_ok-insert-clause-sound : goal.returns-in_ok-insert-clause-sound
returns-in_ok-insert-clause-sound c = sound-insert c.args.self.now c.requires c.args.number
    c.insert.new.self c.in_ok-spare.spare c.insert.ensures.ordered
    (c.in_ok-insert.ensures.entries
    ∙ ap (λ v. insert_entry nat_cmp c.args.self.now.places.entries c.args.number v)
    c.in_ok-empty.ensures)
    (subst (λ v. Updates nat_cmp c.args.self.now.places c.insert.new.self c.args.number (Some v))
    c.in_ok-empty.ensures c.in_ok-insert.ensures.updates)
    (is_none-absent _ (sym c.contains_key.ensures ∙ c.if-not-contains_key.true))
    c.in_ok-spare.ensures

pub returns-in_ok-insert-clause-same : goal.returns-in_ok-insert-clause-same
returns-in_ok-insert-clause-same c =
    ap documents_of (c.in_ok-insert.ensures.entries
    ∙ ap (λ v. insert_entry nat_cmp c.args.self.now.places.entries c.args.number v)
    c.in_ok-empty.ensures)
    ∙ documents_of-insert_entry c.args.number c.args.self.now.places.entries
    (is_none-absent _ (sym c.contains_key.ensures ∙ c.if-not-contains_key.true))
