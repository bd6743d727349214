use Rattle.std.proofs.Common.{sym, subst}
use Rattle.doc_store.specs.Stores.{room_of}
use Rattle.doc_store.specs.Kept.{IsRoomy}
use Rattle.doc_store.proofs.SoundLemmas.{HasRoom-more}
use Rattle.doc_store.proofs.store.Store.room.Goals as goal

pub invariant_of-self : goal.invariant_of-self
invariant_of-self c = HasRoom-more c.self.inside.committed c.make_room.new.self
    c.self.inside.staged _ c.self.invariant c.make_room.ensures.sound c.make_room.ensures.rooms

pub invariant_of-self-2 : goal.invariant_of-self-2
invariant_of-self-2 c =
    let more = HasRoom-more c.self.inside.committed c.make_room.new.self
    c.self.inside.staged _ c.self.invariant c.make_room.ensures.sound
    c.make_room.ensures.rooms in
    record {
      sound = more.sound;
      can_keep = more.can_keep;
      is_roomy = subst (λ doc. IsRoomy c.make_room.new.self (room_of doc)) (sym c.of.ensures)
          c.in_ok-make_room.ensures.ok;
    }
