-- From what stands behind a gate to the entries of a journal.
use Rattle.std.proofs.Common.{◌≡◌, inl, inr, ⊎_elim, ℕ, ◌+◌, ◌<◌, List, [], ◌∷◌, ◌++◌, length}
use Rattle.std.proofs.Common.{Option, None, Some, IfSome, Result, Ok, Err, IsErrAnd, sym, ◌∙◌, ap}
use Rattle.std.proofs.Common.{subst, arith}
use Rattle.std.specs.Option.{option_map}
use Rattle.reg_io.specs.Disks.{DiskState, IsSure}
use Rattle.post_journal.specs.Gates.{IsBehindGate}
use Rattle.post_journal.specs.Images.{behind_gate, entries_held, image_of, with_gate}
use Rattle.post_journal.specs.Journals.{FitsBehind, Grows, GrowsBy, HasAll, HasSome, RunsTo}
use Rattle.post_journal.specs.Journals.{ShowsOnly, Stands}
use Rattle.post_journal.proofs.ForAbove.{none_more, grows_by}
use Rattle.post_journal.proofs.Gates.{ends_at, gate_image, opened_image, torn_behind}
use Rattle.post_journal.proofs.Shows.{shows_by}

-- the last gate byte stands in the file
pub gate_within : (o : Option (List ℕ)) (end : ℕ) → IfSome o (RunsTo end)
    → IfSome o (λ c. end < length c)
gate_within None end run = tt
gate_within (Some c) end run = (ends_at c run.0 end run.1).within

-- whatever a crash leaves of an append has the entries from before it, with the new one or without
new_or_not : (o : Option (List ℕ)) (end : ℕ) (payload : List ℕ) → IfSome o (RunsTo end)
    → FitsBehind end payload → (image : List ℕ) → IsBehindGate end (behind_gate payload) o image
    → HasSome o [] (payload ∷ []) image
new_or_not None end payload run fits image is = (0, omega arith, tt)
new_or_not (Some c) end payload run fits image (inl torn) = (
  0,
  omega arith,
  ap entries_held (torn_behind c image run.0 end _ run.1 torn) ∙ sym (ap entries_held run.1)
      ∙ none_more (entries_held (image_of c)),
)
new_or_not (Some c) end payload run fits image (inr gate) =
    let here = ap entries_held run.1 in
    ⊎_elim
    (λ old. (
      0,
      omega arith,
      ap (λ (i : List ℕ). entries_held (image_of i)) gate.1 ∙ old ∙ sym here
          ∙ none_more (entries_held (image_of c)),
    ))
    (λ new. (
      1,
      omega arith,
      ap (λ (i : List ℕ). entries_held (image_of i)) gate.1 ∙ new
          ∙ sym (ap (option_map (λ entries. entries ++ payload ∷ [])) here),
    ))
    (gate_image c payload run.0 end gate.0 run.1 fits.some fits.most fits.low)

-- and then it has the new one
one_more : (o new : Option (List ℕ)) (end : ℕ) (payload : List ℕ) → IfSome o (RunsTo end)
    → FitsBehind end payload → new ≡ option_map (with_gate end 1 (behind_gate payload)) o
    → IfSome new (HasAll o (payload ∷ [])) × IfSome new (RunsTo (end + (5 + length payload)))
one_more None new end payload run fits e =
    subst (λ (n : Option (List ℕ)). IfSome n (HasAll None (payload ∷ []))
    × IfSome n (RunsTo (end + (5 + length payload)))) (sym e) (tt, tt)
one_more (Some c) new end payload run fits e =
    let is = opened_image c payload run.0 end run.1 fits.some fits.most fits.low in
    subst (λ (n : Option (List ℕ)). IfSome n (HasAll (Some c) (payload ∷ []))
    × IfSome n (RunsTo (end + (5 + length payload)))) (sym e) (
      ap entries_held is
          ∙ sym (ap (option_map (λ entries. entries ++ payload ∷ [])) (ap entries_held run.1)),
      (run.0 ++ payload ∷ [], is),
    )

-- what an append shows at any moment
pub shows_append : (old new : DiskState) (end : ℕ) (payload behind : List ℕ) → Stands end old
    → FitsBehind end payload → behind ≡ behind_gate payload
    → ShowsOnly old new (IsBehindGate end behind old.content)
    → ShowsOnly old new (HasSome old.content [] (payload ∷ []))
shows_append old new end payload behind stands fits is shows =
    shows_by shows (λ image at. new_or_not old.content end payload stands.run fits image
    (subst (λ (b : List ℕ). IsBehindGate end b old.content image) is at))

-- an append that was made
pub grows_appended : (old new : DiskState) (end : ℕ) (payload behind : List ℕ) → Stands end old
    → FitsBehind end payload → behind ≡ behind_gate payload
    → ShowsOnly old new (IsBehindGate end behind old.content)
    → new.content ≡ option_map (with_gate end 1 behind) old.content → IsSure new
    → Grows old new (payload ∷ []) []
grows_appended old new end payload behind stands fits is shows ok sure =
    let all = one_more old.content new.content end payload stands.run fits
    (subst (λ (b : List ℕ). new.content ≡ option_map (with_gate end 1 b) old.content) is ok) in
    grows_by old new payload (shows_append old new end payload behind stands fits is shows) all.0
    sure

-- the journal behind it
pub stands_appended : (old new : DiskState) (end : ℕ) (payload behind : List ℕ) → Stands end old
    → FitsBehind end payload → behind ≡ behind_gate payload
    → new.content ≡ option_map (with_gate end 1 behind) old.content → IsSure new
    → Stands (end + (5 + length payload)) new
stands_appended old new end payload behind stands fits is ok sure = record {
  run = (one_more old.content new.content end payload stands.run fits
      (subst (λ (b : List ℕ). new.content ≡ option_map (with_gate end 1 b) old.content) is ok)).1;
  sure = sure;
}

-- an append that a fault cut off
pub cut_off : {E : Type 0} (P : E → Type 0) (old new : DiskState) (payload : List ℕ)
    (result : Result (Unit {0}) E) → IsErrAnd result P → Grows old new [] (payload ∷ [])
    → GrowsBy old new payload result
cut_off P old new payload (Ok done) is grows = absurd is
cut_off P old new payload (Err e) is grows = grows
