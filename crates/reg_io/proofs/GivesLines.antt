-- From what a reader took, skipped and showed to what a reader of lines tells.
use Rattle.std.proofs.Common.{◌≡◌, ℕ, ◌+◌, ◌-◌, ◌≤◌, ◌<◌, ◌≢◌, Bool, true, false, List, [], ◌∷◌}
use Rattle.std.proofs.Common.{◌++◌, length, take, Option, None, Some, Result, Ok, Err, refl, sym}
use Rattle.std.proofs.Common.{ap, subst, ◌∙◌, arith, append_assoc, length-append, length-take}
use Rattle.std.specs.Prelude.{nat_le, if◌then◌else◌}
use Rattle.std.specs.Io.KnownBytes.{Consumes, Keeps, IsAtEnd, prepend_known}
use Rattle.std.proofs.KnownBytes.{Consumes-nil, Consumes-trans, Consumes-kept, Keeps-trans}
use Rattle.std.proofs.Math.Seq.{take-append-add}
use Rattle.std.proofs.lemmas.Bool.{leb-true}
use Rattle.reg_io.specs.Counts.{Rose}
use Rattle.reg_io.specs.Lines.{RawLine, raw_bytes, line_feed, line_of, most_line_bytes, raw_text}
use Rattle.reg_io.specs.LineStates.{HasLineSize, ahead}
use Rattle.reg_io.specs.LineReaders.{EndsSkip, GivesRaw, HasNoLineFeed, IsPart, NextRaw}
use Rattle.reg_io.specs.LineReaders.{PassesInPart, ReadsMore, ReadsOn, Skips, StopsInPart, TakesRaw}
use Rattle.reg_io.specs.LineReaders.{state_of}
use Rattle.reg_io.specs.declared.line_reader.LineReader.{LineReader}
use Rattle.reg_base.specs.declared.line.Line.{Line}
use Rattle.reg_base.specs.declared.line.Line.TheVariants.{Text, TooLong}
use Rattle.reg_io.specs.declared.line.LineFault.{LineFault}
use Rattle.reg_io.specs.declared.line.LineFault.TheVariants.{Read, InputTooLong, Memory}
use Rattle.reg_io.proofs.FirstLineFeeds.{HasNoLineFeed-append}
use borrow.Author.Tests.{leb-false, lt-leb}

length_shorter : (b : Bool) (n : ℕ) (xs : List ℕ) → length (if b then take n xs else xs) ≤ length xs
length_shorter true n xs = simp length-take (omega arith)
length_shorter false n xs = omega arith

length_text : (content : List ℕ) (ended : Bool)
    → length (raw_text (record { content = content; ended = ended })) ≤ length content
length_text content true = length_shorter _ (length content - 1) content
length_text content false = omega arith

size_by : (raw : RawLine) (short : Bool) → nat_le (length raw.content) most_line_bytes ≡ short
    → HasLineSize (if short then Text (raw_text raw) else TooLong (length raw.content))
size_by raw true e = let short = leb-true (length raw.content) most_line_bytes e in
    omega (arith, length_text raw.content raw.ended)
size_by raw false e = leb-false (length raw.content) most_line_bytes e

-- a line that is told has the size that its kind says
HasLineSize-line_of : (raw : RawLine) → HasLineSize (line_of raw)
HasLineSize-line_of raw = size_by raw (nat_le (length raw.content) most_line_bytes) refl

line_of-long : (raw : RawLine) → most_line_bytes < length raw.content
    → line_of raw ≡ TooLong (length raw.content)
line_of-long raw long = rw (lt-leb (length raw.content) most_line_bytes long) refl

bytes_some : (content : List ℕ) (ended : Bool) → (ended ≡ false → content ≢ [])
    → 0 < length (raw_bytes (record { content = content; ended = ended }))
bytes_some content true some = omega (arith, length-append content (line_feed ∷ []))
bytes_some [] false some = absurd (some refl refl)
bytes_some (byte ∷ bytes) false some = omega arith

-- a line that was taken and is told
pub GivesRaw-raw : {S : Type 0} (left : S → Option (List ℕ)) (old new : LineReader S)
    (raw : RawLine)
    (line : Line)
    → line ≡ line_of raw → TakesRaw left old new raw → (raw.ended ≡ false → raw.content ≢ [])
    → GivesRaw (ahead left (state_of old)) (ahead left (state_of new)) old.room new.room
    new.ended line
GivesRaw-raw left old new raw line told takes some = record {
  raw = raw;
  told = told;
  size = rw told (HasLineSize-line_of raw);
  one_line = takes.one_line;
  taken = takes.taken;
  room = takes.room;
  falls = omega (arith, takes.room, bytes_some raw.content raw.ended some);
  last = λ e. record { some = some e; at_end = (takes.last e).0; told = (takes.last e).1 };
}

Consumes-window : (window : List ℕ) (left : Option (List ℕ))
    → Consumes (prepend_known window left) left window
Consumes-window window None = tt
Consumes-window window (Some xs) = refl

-- a read failed behind so many skipped bytes and a part
pub StopsInPart-part : {S : Type 0} (left : S → Option (List ℕ)) (old new : LineReader S)
    (skipped faults_before faults_now : ℕ)
    → Skips left old new skipped → IsPart new → old.ended ≡ false → Rose faults_before faults_now
    → StopsInPart (ahead left (state_of old)) (left new.source) old.room old.ended faults_before
    faults_now
StopsInPart-part left old new skipped faults_before faults_now skips part not_ended rose = record {
  part = skips.bytes ++ new.window;
  taken = Consumes-trans _ (ahead left (state_of new))
      (left new.source) skips.bytes new.window skips.taken
      (Consumes-window new.window (left new.source));
  one_line = HasNoLineFeed-append skips.bytes new.window skips.one_line part.one_line;
  within = omega (arith, length-append skips.bytes new.window, skips.len, skips.room, part.within);
  not_ended = not_ended;
  cause = rose;
}

-- the input is too long behind so many skipped bytes
pub PassesInPart-part : {S : Type 0} (left : S → Option (List ℕ)) (old new : LineReader S)
    (skipped : ℕ)
    → Skips left old new skipped → new.room < length new.window
    → HasNoLineFeed (take new.room new.window)
    → PassesInPart (ahead left (state_of old)) (left new.source) old.room
PassesInPart-part left old new skipped skips past none = record {
  part = skips.bytes ++ new.window;
  taken = Consumes-trans _ (ahead left (state_of new))
      (left new.source) skips.bytes new.window skips.taken
      (Consumes-window new.window (left new.source));
  one_line =
      let e : old.room ≡ length skips.bytes + new.room = omega (arith, skips.room, skips.len) in
      rw (e, take-append-add skips.bytes new.window new.room)
      (HasNoLineFeed-append skips.bytes (take new.room new.window) skips.one_line none);
  beyond = omega (arith, length-append skips.bytes new.window, skips.len, skips.room, past);
}

-- reads alone skip nothing
pub Skips-on : {S : Type 0} (left : S → Option (List ℕ)) (old new : LineReader S) →
    ReadsOn left old new
    → Skips left old new 0
Skips-on left old new on = record {
  bytes = [];
  len = refl;
  one_line = λ k d h. absurd (omega arith);
  taken = Consumes-kept _ (ahead left (state_of old)) _ [] (Consumes-nil _) on.bytes;
  room = omega (arith, on.room);
}

Consumes-passed : (window got : List ℕ) (left now : Option (List ℕ)) → Consumes left now got
    → Consumes (prepend_known window left) (prepend_known ([] ++ got) now) window
Consumes-passed window got None now p = tt
Consumes-passed window got (Some xs) None p = absurd p
Consumes-passed window got (Some xs) (Some ys) p = ap (λ l. window ++ l) p

-- the window was passed over, and a read put other bytes there
pub Skips-more : {S : Type 0} (left : S → Option (List ℕ)) (old mid passed new : LineReader S)
    (skipped more : ℕ)
    → Skips left old mid skipped → IsPart mid → passed.window ≡ []
    → mid.room ≡ length mid.window + passed.room → passed.source ≡ mid.source
    → ReadsMore left passed new → more ≡ skipped + length mid.window
    → Skips left old new more
Skips-more left old mid passed new skipped more skips part none room same reads e = record {
  bytes = skips.bytes ++ mid.window;
  len = omega (arith, length-append skips.bytes mid.window, skips.len);
  one_line = HasNoLineFeed-append skips.bytes mid.window skips.one_line part.one_line;
  taken = Consumes-trans _ (ahead left (state_of mid)) _ skips.bytes mid.window skips.taken
      (let here : new.window ≡ [] ++ reads.got = reads.grows ∙ ap (λ l. l ++ reads.got) none in
      rw here (Consumes-passed mid.window reads.got (left mid.source) (left new.source)
      (subst (λ s. Consumes (left s) (left new.source) reads.got) same reads.taken)));
  room = omega (arith, skips.room, room, reads.room);
}

raw_bytes-behind : (skipped content : List ℕ) (ended : Bool)
    → raw_bytes (record { content = skipped ++ content; ended = ended })
    ≡ skipped ++ raw_bytes (record { content = content; ended = ended })
raw_bytes-behind skipped content true = append_assoc skipped content (line_feed ∷ [])
raw_bytes-behind skipped content false = refl

-- a line whose first bytes were skipped is told with all of them
GivesRaw-skipped : {S : Type 0} (left : S → Option (List ℕ)) (old mid new : LineReader S)
    (skipped : ℕ)
    (raw : RawLine) (line : Line)
    → Skips left old mid skipped → most_line_bytes < skipped → TakesRaw left mid new raw
    → line ≡ TooLong (skipped + length raw.content)
    → GivesRaw (ahead left (state_of old)) (ahead left (state_of new)) old.room new.room
    new.ended line
GivesRaw-skipped left old mid new skipped raw line skips long takes told =
    let whole : RawLine = record raw { content = skips.bytes ++ raw.content } in
    let len = length-append skips.bytes raw.content in
    let bytes : raw_bytes whole ≡ skips.bytes ++ raw_bytes raw =
    raw_bytes-behind skips.bytes raw.content raw.ended in
    record {
      raw = whole;
      told = told ∙ ap (λ n. TooLong n) (omega (arith, len, skips.len))
          ∙ sym (line_of-long whole (omega (arith, len, skips.len)));
      size = rw told (omega arith);
      one_line = HasNoLineFeed-append skips.bytes raw.content skips.one_line takes.one_line;
      taken = rw bytes (Consumes-trans _ (ahead left (state_of mid)) _ skips.bytes
          (raw_bytes raw) skips.taken takes.taken);
      room = omega (
        arith,
        ap length bytes,
        length-append skips.bytes
            (raw_bytes raw),
        skips.len,
        skips.room,
        takes.room,
      );
      falls = omega (arith, skips.room, takes.room);
      last = λ e. record {
        some = λ none. absurd (omega (arith, ap length none, len, skips.len));
        at_end = (takes.last e).0;
        told = (takes.last e).1;
      };
    }

-- a line that ends behind skipped bytes, or an input that is too long
pub NextRaw-skipped : {S : Type 0} (left : S → Option (List ℕ)) (faults : S → ℕ)
    (old mid new : LineReader S) (skipped : ℕ) (result : Result (Option Line) LineFault)
    → Skips left old mid skipped → most_line_bytes < skipped → EndsSkip left mid new skipped result
    → NextRaw left faults (state_of old) (state_of new) result
NextRaw-skipped left faults old mid new skipped (Ok None) skips long ends = absurd ends
NextRaw-skipped left faults old mid new skipped (Ok (Some line)) skips long ends =
    GivesRaw-skipped left old mid new skipped ends.0 line skips long ends.1 ends.2
NextRaw-skipped left faults old mid new skipped (Err Read) skips long ends = absurd ends
NextRaw-skipped left faults old mid new skipped (Err InputTooLong) skips long ends =
    rw ends.1 (PassesInPart-part left old mid skipped skips ends.0.0 ends.0.1)
NextRaw-skipped left faults old mid new skipped (Err Memory) skips long ends = absurd ends

Consumes-after : (a b c : Option (List ℕ)) (bytes : List ℕ) → Keeps a b → Consumes b c bytes
    → Consumes a c bytes
Consumes-after a b c bytes keeps taken =
    Consumes-trans a b c [] bytes (Consumes-kept a a b [] (Consumes-nil a) keeps) taken

IsAtEnd-before : (a b : Option (List ℕ)) → Keeps a b → IsAtEnd b → IsAtEnd a
IsAtEnd-before None b keeps end = tt
IsAtEnd-before (Some xs) None keeps end = absurd keeps
IsAtEnd-before (Some xs) (Some ys) keeps end = sym keeps ∙ end

-- the same from before the reads
pub NextRaw-after : {S : Type 0} (left : S → Option (List ℕ)) (faults : S → ℕ)
    (old mid new : LineReader S) (result : Result (Option Line) LineFault)
    → ReadsOn left old mid → faults old.source ≤ faults mid.source
    → NextRaw left faults (state_of mid) (state_of new) result
    → NextRaw left faults (state_of old) (state_of new) result
NextRaw-after left faults old mid new (Ok None) on later end = record {
  before = IsAtEnd-before _ _ on.bytes end.before;
  now = end.now;
  room = end.room ∙ on.room;
  ended = end.ended;
}
NextRaw-after left faults old mid new (Ok (Some line)) on later gives = record {
  raw = gives.raw;
  told = gives.told;
  size = gives.size;
  one_line = gives.one_line;
  taken = Consumes-after _ (ahead left (state_of mid)) _ _ on.bytes gives.taken;
  room = sym on.room ∙ gives.room;
  falls = omega (arith, on.room, gives.falls);
  last = gives.last;
}
NextRaw-after left faults old mid new (Err Read) on later stops = record {
  part = stops.part;
  taken = Consumes-after _ (ahead left (state_of mid)) _ _ on.bytes stops.taken;
  one_line = stops.one_line;
  within = omega (arith, on.room, stops.within);
  not_ended = on.ended stops.not_ended;
  cause = omega (arith, stops.cause);
}
NextRaw-after left faults old mid new (Err InputTooLong) on later passes = record {
  part = passes.part;
  taken = Consumes-after _ (ahead left (state_of mid)) _ _ on.bytes passes.taken;
  one_line = subst (λ n. HasNoLineFeed (take n passes.part)) on.room passes.one_line;
  beyond = omega (arith, on.room, passes.beyond);
}
NextRaw-after left faults old mid new (Err Memory) on later keeps = record {
  bytes = Keeps-trans _ (ahead left (state_of mid)) _ on.bytes keeps.bytes;
  room = keeps.room ∙ on.room;
}

-- one round of a skip, by the room that it left
pub Skips-round : {S : Type 0} (left : S → Option (List ℕ)) (old mid passed new : LineReader S)
    → Skips left old mid (old.room - mid.room) → IsPart mid → passed.window ≡ []
    → mid.room ≡ length mid.window + passed.room → passed.source ≡ mid.source
    → ReadsMore left passed new → Skips left old new (old.room - new.room)
Skips-round left old mid passed new skips part none room same reads =
    Skips-more left old mid passed new _ _ skips part none room same reads
    (omega (arith, skips.room, room, reads.room))

-- an empty window is a part
IsPart-empty : {S : Type 0} (reader : LineReader S) → length reader.window ≡ 0 → IsPart reader
IsPart-empty reader none = record {
  one_line = λ k d h. absurd (omega (arith, none));
  within = omega (arith, none);
}

-- a read failed in a round of a skip
pub StopsInPart-round : {S : Type 0} (left : S → Option (List ℕ)) (faults : S → ℕ)
    (old mid passed new : LineReader S)
    → Skips left old mid (old.room - mid.room) → IsPart mid → passed.window ≡ []
    → mid.room ≡ length mid.window + passed.room → passed.source ≡ mid.source
    → ReadsMore left passed new → length new.window ≡ length passed.window
    → old.ended ≡ false → faults old.source ≤ faults mid.source
    → Rose (faults passed.source) (faults new.source)
    → StopsInPart (ahead left (state_of old)) (left new.source) old.room old.ended
    (faults old.source) (faults new.source)
StopsInPart-round left faults old mid passed new skips part none room same reads len not_ended
    later rose =
    StopsInPart-part left old new _ _ _ (Skips-round left old mid passed new skips part none room
    same reads)
    (IsPart-empty new (omega (arith, len, ap length none))) not_ended
    (omega (arith, later, ap faults same, rose))
