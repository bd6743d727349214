-- What a disk holds, and what a crash may leave, while bytes are written and a gate is opened.
use Rattle.std.proofs.Common.{◌≡◌, inl, inr, ⊎_elim, ℕ, ◌+◌, ◌<◌, ◌≤◌, List, [], ◌∷◌, ◌++◌, length}
use Rattle.std.proofs.Common.{get_or, take, drop, Option, None, Some, IfSome, refl, sym, ◌∙◌, ap}
use Rattle.std.proofs.Common.{subst, arith, length-append, take-append-drop}
use Rattle.std.specs.Option.{is_some, option_map}
use Rattle.std.proofs.lemmas.Option.{same_Some}
use Rattle.std.proofs.lemmas.List.{drop_at, drop_more, drop-drop, length-drop, take_at, take-take}
use Rattle.std.proofs.lemmas.List.{take-append-le, length-take-le}
use Rattle.reg_io.specs.Disks.{After, DiskState, IsSure, LiesWithin, LeavesOnly, MayLeave, Torn}
use Rattle.reg_io.specs.Disks.{put_at}
use Rattle.post_journal.specs.Images.{with_gate}
use Rattle.post_journal.specs.Gates.{IsBehindGate, IsTornPut}
use Rattle.post_journal.specs.Journals.{ShowsOnly}
use Rattle.post_journal.proofs.Shows.{if_some, then, weaker}

-- ---- a write, and a sync behind it

torn_put : (place : ℕ) (bytes c : List ℕ) → place ≤ length c
    → Torn place (length bytes) c (put_at place bytes c)
torn_put place bytes c within =
    let size = length-take-le place c within in
    let rest = drop (place + length bytes) c in
    let sum = length-append (take place c) (bytes ++ rest) in
    let more = length-append bytes rest in
    let left = length-drop (place + length bytes) c in
    record {
      before = take_at (take place c) (bytes ++ rest) place size;
      behind = sym (drop-drop (length bytes) place (put_at place bytes c))
          ∙ ap (drop (length bytes)) (drop_at (take place c) (bytes ++ rest) place size)
          ∙ drop_at bytes rest (length bytes) refl;
      no_shorter = omega arith;
      no_longer = omega arith;
    }

torn_same : (place count : ℕ) (c : List ℕ) → Torn place count c c
torn_same place count c = record {
  before = refl;
  behind = refl;
  no_shorter = omega arith;
  no_longer = omega arith;
}

pub torn_old : (o : Option (List ℕ)) (place count : ℕ) (image : List ℕ) → o ≡ Some image
    → IsTornPut place count o image
torn_old None place count image is = tt
torn_old (Some c) place count image is =
    subst (Torn place count c) (same_Some c image is) (torn_same place count c)

pub torn_done : (o s : Option (List ℕ)) (place : ℕ) (bytes : List ℕ)
    → IfSome o (λ c. place ≤ length c) → s ≡ option_map (put_at place bytes) o
    → (image : List ℕ) → s ≡ Some image → IsTornPut place (length bytes) o image
torn_done None s place bytes within is image same = tt
torn_done (Some c) s place bytes within is image same =
    subst (Torn place (length bytes) c) (same_Some (put_at place bytes c) image (sym is ∙ same))
    (torn_put place bytes c within)

torn_after : (disk : DiskState) (place count : ℕ) → IsSure disk → (image : List ℕ)
    → After (Torn place count) disk image → IsTornPut place count disk.content image
torn_after disk place count sure image after =
    at disk.content (sure after.0 after.1)
  where
    at : (o : Option (List ℕ)) → o ≡ Some after.0 → IsTornPut place count o image
    at None is = tt
    at (Some c) is =
        subst (λ (d : List ℕ). Torn place count d image) (sym (same_Some c after.0 is)) after.2

-- a write that no sync has followed
pub shows_write : (old new : DiskState) (place count : ℕ) → IsSure old
    → is_some new.content ≡ is_some old.content → IfSome new.content (MayLeave new)
    → LeavesOnly old new (After (Torn place count) old) → new.syncs ≡ old.syncs
    → ShowsOnly old new (IsTornPut place count old.content)
shows_write old new place count sure told shown leaves same = record {
  moments = weaker old new leaves (torn_after old place count sure);
  shown = if_some new.content each shown;
  told = told;
  later = omega (arith, same);
}
  where
    each : (image : List ℕ) → MayLeave new image → IsTornPut place count old.content image
    each image left = ⊎_elim
        (λ was. torn_old old.content place count image
        (sure image (subst (λ (k : ℕ). old.left_since k image) same was)))
        (torn_after old place count sure image)
        (leaves new.syncs image left)

read_torn : (o s last : Option (List ℕ)) (place : ℕ) (bytes : List ℕ)
    → IfSome o (λ c. place ≤ length c) → s ≡ option_map (put_at place bytes) o → last ≡ s
    → IfSome last (IsTornPut place (length bytes) o)
read_torn o s None place bytes within is same = tt
read_torn o s (Some image) place bytes within is same =
    torn_done o s place bytes within is image (sym same)

-- a write that was made, and a sync, however it ends
pub shows_put : (old mid new : DiskState) (place : ℕ) (bytes : List ℕ) → LiesWithin place old
    → mid.content ≡ option_map (put_at place bytes) old.content
    → ShowsOnly old mid (IsTornPut place (length bytes) old.content)
    → new.content ≡ mid.content → LeavesOnly mid new (λ image. new.content ≡ Some image)
    → mid.syncs ≤ new.syncs → ShowsOnly old new (IsTornPut place (length bytes) old.content)
shows_put old mid new place bytes within is write same leaves later = record {
  moments = then old mid new write.moments leaves
      (λ image e. torn_done old.content mid.content place bytes within is image (sym same ∙ e));
  shown = read_torn old.content mid.content new.content place bytes within is same;
  told = ap is_some same ∙ write.told;
  later = omega (arith, write.later, later);
}

-- ---- a gate, and what is put behind it

module _ (place : ℕ) (behind c : List ℕ) (within : place < length c) where
  abbrev staged : List ℕ
  staged = put_at (place + 1) behind c

  front_len : length (take (place + 1) c) ≡ place + 1
  front_len = length-take-le (place + 1) c (omega arith)

  take_staged : take place staged ≡ take place c
  take_staged =
      take-append-le place (take (place + 1) c) _ (omega (arith, front_len))
      ∙ take-take place (place + 1) c (omega arith)

  drop_staged : drop (place + 1) staged ≡ behind ++ drop (place + 1 + length behind) c
  drop_staged = drop_at (take (place + 1) c) _ (place + 1) front_len

  length_staged : place < length staged
  length_staged = omega (
    arith,
    front_len,
    length-append (take (place + 1) c) (behind ++ drop (place + 1 + length behind) c),
  )

  opened : (gate : ℕ) → put_at place (gate ∷ []) staged ≡ with_gate place gate behind c
  opened gate =
      ap (λ (l : List ℕ). l ++ (gate ∷ drop (place + 1) staged)) take_staged
      ∙ ap (λ (l : List ℕ). take place c ++ (gate ∷ l)) drop_staged

  torn_gate : (image : List ℕ) → Torn place 1 staged image
      → (gate : ℕ) × (image ≡ with_gate place gate behind c)
  torn_gate image torn =
      let longer = torn.no_shorter in
      let gate = get_or image place 0 in (
        gate,
        sym (take-append-drop place image)
            ∙ ap (λ (l : List ℕ). l ++ drop place image) (torn.before ∙ take_staged)
            ∙ ap (λ (l : List ℕ). take place c ++ l)
            (drop_more image place 0 (omega (arith, length_staged))
            ∙ ap (λ (l : List ℕ). gate ∷ l) (torn.behind ∙ drop_staged)),
      )

pub gate_opened : (o staged_content last : Option (List ℕ)) (place : ℕ) (behind : List ℕ)
    → IfSome o (λ c. place < length c)
    → staged_content ≡ option_map (put_at (place + 1) behind) o
    → last ≡ option_map (put_at place (1 ∷ [])) staged_content
    → last ≡ option_map (with_gate place 1 behind) o
gate_opened None s last place behind within is e =
    e ∙ ap (option_map (put_at place (1 ∷ []))) is
gate_opened (Some c) s last place behind within is e =
    e ∙ ap (option_map (put_at place (1 ∷ []))) is ∙ ap Some (opened place behind c within 1)

pub first_put : (o : Option (List ℕ)) (place : ℕ) (behind : List ℕ) (image : List ℕ)
    → IsTornPut (place + 1) (length behind) o image → IsBehindGate place behind o image
first_put None place behind image torn = tt
first_put (Some c) place behind image torn = inl torn

pub second_put : (o s : Option (List ℕ)) (place : ℕ) (behind : List ℕ)
    → IfSome o (λ c. place < length c) → s ≡ option_map (put_at (place + 1) behind) o
    → (image : List ℕ) → IsTornPut place 1 s image → IsBehindGate place behind o image
second_put None s place behind within is image torn = tt
second_put (Some c) s place behind within is image torn =
    inr (torn_gate place behind c within image
    (subst (λ (t : Option (List ℕ)). IsTornPut place 1 t image) is torn))
