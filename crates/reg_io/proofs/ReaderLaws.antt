-- What reads leave, and how what is ahead of a reader moves.
use Rattle.std.proofs.Common.{◌≡◌, ℕ, false, List, ◌++◌, Option, None, Some, refl, sym, ap, ◌∙◌}
use Rattle.std.proofs.Common.{arith, append_assoc}
use Rattle.std.specs.Io.KnownBytes.{Consumes, Keeps, prepend_known}
use Rattle.std.proofs.KnownBytes.{Keeps-refl, Keeps-trans}
use Rattle.reg_io.specs.LineStates.{ahead}
use Rattle.reg_io.specs.LineReaders.{IsSound, LeavesRest, ReadsMore, ReadsOn, state_of}
use Rattle.reg_io.specs.declared.line_reader.LineReader.{LineReader}

pub LeavesRest-refl : {S : Type 0} (taken : S → Option (List ℕ))
    (read_faults write_faults name : S → ℕ) (s : S)
    → LeavesRest taken read_faults write_faults name s s
LeavesRest-refl taken read_faults write_faults name s = record {
  bytes = refl;
  later = omega arith;
  others = omega arith;
  same = refl;
}

pub LeavesRest-trans : {S : Type 0} (taken : S → Option (List ℕ))
    (read_faults write_faults name : S → ℕ) (s t u : S)
    → LeavesRest taken read_faults write_faults name s t
    → LeavesRest taken read_faults write_faults name t u
    → LeavesRest taken read_faults write_faults name s u
LeavesRest-trans taken read_faults write_faults name s t u p q = record {
  bytes = q.bytes ∙ p.bytes;
  later = omega arith;
  others = omega arith;
  same = q.same ∙ p.same;
}

-- bytes that a read moved into the window are ahead as before
Keeps-moved : (window got : List ℕ) (left now : Option (List ℕ)) → Consumes left now got
    → Keeps (prepend_known window left) (prepend_known (window ++ got) now)
Keeps-moved window got None now p = tt
Keeps-moved window got (Some xs) None p = absurd p
Keeps-moved window got (Some xs) (Some ys) p =
    append_assoc window got ys ∙ ap (λ l. window ++ l) (sym p)

pub ReadsOn-none : {S : Type 0} (left : S → Option (List ℕ)) (reader : LineReader S) →
    IsSound left reader
    → ReadsOn left reader reader
ReadsOn-none left reader sound = record {
  bytes = Keeps-refl (ahead left (state_of reader));
  room = refl;
  ended = λ e. e;
  sound = sound;
}

pub ReadsOn-more : {S : Type 0} (left : S → Option (List ℕ)) (first mid now : LineReader S)
    → ReadsOn left first mid → ReadsMore left mid now → mid.ended ≡ false → ReadsOn left first now
ReadsOn-more left first mid now on more not_ended = record {
  bytes = Keeps-trans (ahead left (state_of first)) (ahead left (state_of mid)) _ on.bytes
      (rw more.grows (Keeps-moved mid.window more.got (left mid.source)
      (left now.source) more.taken));
  room = more.room ∙ on.room;
  ended = λ _. on.ended not_ended;
  sound = more.sound;
}
