-- What a file is while it is begun.
use Rattle.std.proofs.Common.{◌≡◌, inl, inr, ℕ, ◌≤◌, Bool, true, false, List, [], ◌∷◌, ◌++◌, length}
use Rattle.std.proofs.Common.{drop, Option, None, Some, IfSome, Result, Ok, Err, OnOk, ◌<◌, refl}
use Rattle.std.proofs.Common.{sym, ◌∙◌, ap, subst, arith}
use Rattle.std.specs.Prelude.{codes, not}
use Rattle.std.proofs.lemmas.Bool.{and_from, or_left, or_right, cases_eq, le-leb, ne_eqb}
use Rattle.std.proofs.lemmas.List.{drop_all}
use Rattle.std.specs.Option.{option_map}
use Rattle.reg_io.specs.Disks.{DiskState, IsSure, Torn, put_at}
use Rattle.post_journal.specs.Gates.{HasNoEntries, IsBehindGate, IsClosedFile, IsTornPut}
use Rattle.post_journal.specs.Journals.{RunsTo, Stands}
use Rattle.post_journal.specs.Images.{entries_held, fresh, holds, image_by, image_of, is_begun}
use Rattle.post_journal.specs.Images.{is_fresh, is_open, run_from, with_gate}
use Rattle.post_journal.proofs.Gates.{image_is, open_by}

-- what stands behind the gate byte of the first entry
abbrev pub first_behind : List ℕ
first_behind = 0 ∷ 0 ∷ 0 ∷ 17 ∷ (codes "regdesk journal 1" ++ 0 ∷ [])

pub fresh_by : (image : List ℕ) → is_fresh image ≡ true → image_of image ≡ fresh
fresh_by image is =
    image_is image
    ∙ ap (λ (b : Bool). image_by b (is_begun image) (run_from (length image) 22 (drop 22
    image))) is

pub small_fresh : (image : List ℕ) → length image ≤ 1 → image_of image ≡ fresh
small_fresh image small = fresh_by image (or_left _ _ (le-leb (length image) 1 small))

pub closed_fresh : (image : List ℕ) → length image ≤ 23 → is_open image ≡ false → image_of image
    ≡ fresh
closed_fresh image small shut =
    fresh_by image (or_right _ _ (and_from _ _ (le-leb (length image) 23 small) (ap not shut)))

pub torn_fresh : (c image : List ℕ) → 1 ≤ length c → length c ≤ 23 → is_open c ≡ false
    → Torn 1 22 c image → image_of image ≡ fresh
torn_fresh c image some small shut torn =
    let longer = torn.no_shorter in let limit = torn.no_longer in
    closed_fresh image (omega arith) (open_by image c torn.before ∙ shut)

begun_whole : image_of (1 ∷ first_behind) ≡ holds [] 22
unfolding image_of run_from
begun_whole = refl

with_first : (c : List ℕ) (gate : ℕ) → length c ≤ 23 → with_gate 0 gate first_behind c
    ≡ gate ∷ first_behind
with_first c gate small = ap (λ (l : List ℕ). gate ∷ (first_behind ++ l)) (drop_all 23 c small)

pub gate_begun : (c : List ℕ) → length c ≤ 23 → image_of (with_gate 0 1 first_behind c)
    ≡ holds [] 22
gate_begun c small = ap image_of (with_first c 1 small) ∙ begun_whole

pub gate_fresh : (c : List ℕ) (gate : ℕ) → length c ≤ 23
    → entries_held (image_of (with_gate 0 gate first_behind c)) ≡ Some []
gate_fresh c gate small = elim (cases_eq gate 1) [
  | inl opened ↦
      ap (λ (g : ℕ). entries_held (image_of (with_gate 0 g first_behind c))) opened
      ∙ ap entries_held (gate_begun c small)
  | inr shut ↦
      ap entries_held (ap image_of (with_first c gate small)
      ∙ closed_fresh (gate ∷ first_behind) (omega arith) (ne_eqb gate 1 shut))
]

-- whatever a crash leaves while the first entry is written is a journal without entries
pub begin_image : (o : Option (List ℕ)) → IfSome o IsClosedFile → (image : List ℕ)
    → IsBehindGate 0 first_behind o image → IfSome o (λ _. HasNoEntries image)
begin_image None closed image is = tt
begin_image (Some c) closed image (inl torn) =
    ap entries_held (torn_fresh c image closed.some closed.small closed.shut torn)
begin_image (Some c) closed image (inr gate) =
    ap (λ (i : List ℕ). entries_held (image_of i)) gate.1 ∙ gate_fresh c gate.0 closed.small

pub begin_run : (o new : Option (List ℕ)) → IfSome o IsClosedFile
    → new ≡ option_map (with_gate 0 1 first_behind) o → IfSome new (RunsTo 22)
begin_run None new closed e = subst (λ (n : Option (List ℕ)). IfSome n (RunsTo 22)) (sym e) tt
begin_run (Some c) new closed e =
    subst (λ (n : Option (List ℕ)). IfSome n (RunsTo 22)) (sym e)
    ([], gate_begun c closed.small)

pub closed_within : (o : Option (List ℕ)) → IfSome o IsClosedFile → IfSome o (λ c. 0 < length c)
closed_within None closed = tt
closed_within (Some c) closed = omega (arith, closed.some)

pub begin_stands : {T E : Type 0} (old new : DiskState) (result : Result T E)
    → IfSome old.content IsClosedFile
    → OnOk result (new.content ≡ option_map (with_gate 0 1 first_behind) old.content)
    → OnOk result (IsSure new) → OnOk result (Stands 22 new)
begin_stands old new (Ok x) closed ok sure =
    record { run = begin_run old.content new.content closed ok; sure = sure }
begin_stands old new (Err e) closed ok sure = tt

-- ---- a file of one byte at the most gets a closed gate

pub small_torn : (o : Option (List ℕ)) → IfSome o (λ c. length c ≤ 1) → (image : List ℕ)
    → IsTornPut 0 1 o image → IfSome o (λ _. HasNoEntries image)
small_torn None small image torn = tt
small_torn (Some c) small image torn =
    let limit = torn.no_longer in
    ap entries_held (small_fresh image (omega (arith, small, limit)))

closed_zero : (c : List ℕ) → length c ≤ 1 → put_at 0 (0 ∷ []) c ≡ 0 ∷ []
closed_zero c small = ap (λ (l : List ℕ). 0 ∷ l) (drop_all 1 c small)

pub empty_closed : (o s : Option (List ℕ)) → IfSome o (λ c. length c ≤ 1)
    → s ≡ option_map (put_at 0 (0 ∷ [])) o → IfSome s IsClosedFile
empty_closed None s small e = subst (λ (n : Option (List ℕ)). IfSome n IsClosedFile) (sym e) tt
empty_closed (Some c) s small e =
    subst (λ (n : Option (List ℕ)). IfSome n IsClosedFile) (sym (e ∙ ap Some (closed_zero c small)))
    (record { some = omega arith; small = omega arith; shut = refl })

-- what holds where the bytes behind a write are told, holds where they were told before it
pub told_before : (o s : Option (List ℕ)) (f : List ℕ → List ℕ) (P : Type 0) → s ≡ option_map f o
    → IfSome s (λ _. P) → IfSome o (λ _. P)
told_before None s f P e told = tt
told_before (Some c) s f P e told = subst (λ (n : Option (List ℕ)). IfSome n (λ _. P)) e told
