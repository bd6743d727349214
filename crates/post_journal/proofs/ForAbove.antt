-- What the crates above need: runs of a journal, one behind another.
use Rattle.std.proofs.Common.{◌≡◌, inl, ℕ, zero, suc, ◌+◌, List, [], ◌∷◌, ◌++◌, length, take}
use Rattle.std.proofs.Common.{Option, None, Some, IfSome, refl, sym, ◌∙◌, ap, subst, arith}
use Rattle.std.proofs.Common.{append_assoc, append-nil, length-append, ⊎_elim}
use Rattle.std.specs.Option.{is_some, option_map}
use Rattle.std.proofs.lemmas.Bool.{false≢true}
use Rattle.std.proofs.lemmas.Option.{same_Some}
use Rattle.std.proofs.Math.Seq.{take-append-add}
use Rattle.std.proofs.lemmas.List.{take-append-le}
use Rattle.reg_io.specs.Disks.{DiskState, IsSure, MayLeave, NoneIsLater}
use Rattle.post_journal.specs.Images.{entries_held, image_of}
use Rattle.post_journal.specs.Journals.{Grows, HasAll, HasSome, Keeps, ShowsOnly}
use Rattle.post_journal.proofs.Shows.{if_some, then, weaker}

-- ---- entries behind entries

more_entries : (o : Option (List (List ℕ))) (xs ys : List (List ℕ))
    → option_map (λ es. es ++ ys) (option_map (λ es. es ++ xs) o)
    ≡ option_map (λ es. es ++ (xs ++ ys)) o
more_entries None xs ys = refl
more_entries (Some es) xs ys = ap Some (append_assoc es xs ys)

pub none_more : (o : Option (List (List ℕ))) → o ≡ option_map (λ es. es ++ []) o
none_more None = refl
none_more (Some es) = ap Some (sym (append-nil es))

-- all of these, and behind them those
pub all_more : (first mid : Option (List ℕ)) (xs ys : List (List ℕ)) (image : List ℕ)
    → is_some mid ≡ is_some first → IfSome mid (HasAll first xs) → HasAll mid ys image
    → HasAll first (xs ++ ys) image
all_more None mid xs ys image told all more = tt
all_more (Some c) None xs ys image told all more = absurd (false≢true told)
all_more (Some c) (Some d) xs ys image told all more =
    more ∙ ap (option_map (λ es. es ++ ys)) all ∙ more_entries (entries_held (image_of c)) xs ys

-- what is read itself has the entries of what is read
pub all_same : (content : Option (List ℕ)) (image : List ℕ) → content ≡ Some image
    → HasAll content [] image
all_same None image is = tt
all_same (Some c) image is =
    subst (λ (i : List ℕ). entries_held (image_of i)
    ≡ option_map (λ es. es ++ []) (entries_held (image_of c))) (same_Some c image is)
    (none_more (entries_held (image_of c)))

-- a front of a list is one of the list with more behind it
pub some_wider : (content : Option (List ℕ)) (done xs more : List (List ℕ)) (image : List ℕ)
    → HasSome content done xs image → HasSome content done (xs ++ more) image
some_wider content done xs more image has = (
  has.0,
  omega (arith, has.1, length-append xs more),
  subst (λ l. HasAll content (done ++ l) image) (sym (take-append-le has.0 xs more has.1)) has.2,
)

abbrev no_entries : List (List ℕ)
no_entries = []

take-none : (n : ℕ) → take n no_entries ≡ no_entries
take-none zero = refl
take-none (suc n) = refl

-- all of the first, none of what is in flight
pub all_of_some : (content : Option (List ℕ)) (done : List (List ℕ)) (image : List ℕ)
    → HasSome content done [] image → HasAll content done image
all_of_some content done image has =
    subst (λ l. HasAll content l image) (ap (λ l. done ++ l) (take-none has.0)
    ∙ append-nil done) has.2

pub all_some : (content : Option (List ℕ)) (done : List (List ℕ)) (image : List ℕ)
    → HasAll content done image → HasSome content done [] image
all_some content done image has =
    (0, omega arith, subst (λ l. HasAll content l image) (sym (append-nil done)) has)

-- behind all of these, some of those
some_more : (first mid : Option (List ℕ)) (xs ys flight : List (List ℕ)) (image : List ℕ)
    → is_some mid ≡ is_some first → IfSome mid (HasAll first xs) → HasSome mid ys flight image
    → HasSome first (xs ++ ys) flight image
some_more first mid xs ys flight image told all has = (
  has.0,
  has.1,
  subst (λ l. HasAll first l image) (sym (append_assoc xs ys (take has.0 flight)))
      (all_more first mid xs (ys ++ take has.0 flight) image told all has.2),
)

-- behind all of these, a front of those: a front of both
front_more : (first mid : Option (List ℕ)) (xs ys : List (List ℕ)) (image : List ℕ)
    → is_some mid ≡ is_some first → IfSome mid (HasAll first xs) → HasSome mid [] ys image
    → HasSome first [] (xs ++ ys) image
front_more first mid xs ys image told all has = (
  length xs + has.0,
  omega (arith, has.1, length-append xs ys),
  subst (λ l. HasAll first l image) (sym (take-append-add xs ys has.0))
      (all_more first mid xs (take has.0 ys) image told all has.2),
)

-- ---- one run behind another

pub grows_more : (first mid now : DiskState) (xs ys flight : List (List ℕ))
    → Grows first mid xs [] → Grows mid now ys flight → Grows first now (xs ++ ys) flight
grows_more first mid now xs ys flight so next =
    let all : IfSome mid.content (HasAll first.content xs) =
    if_some mid.content (λ image has. all_of_some first.content xs image has) so.shown in
    let assoc = append_assoc xs ys flight in
    record {
      moments = then first mid now
          (weaker first mid so.moments (λ image has. subst (λ l. HasSome first.content [] l image)
          (sym assoc)
          (some_wider first.content [] xs (ys ++ flight) image
          (subst (λ l. HasSome first.content [] l image) (append-nil xs) has))))
          next.moments
          (λ image has. subst (λ l. HasSome first.content [] l image) (sym assoc)
          (front_more first.content mid.content xs (ys ++ flight) image so.told all has));
      shown = if_some now.content (λ image has. some_more first.content mid.content xs ys flight
          image so.told all has) next.shown;
      kept = λ image left. some_more first.content mid.content xs ys flight image so.told all
          (next.kept image left);
      told = next.told ∙ so.told;
      later = omega (arith, so.later, next.later);
    }

-- ---- where runs begin

shown_same : (content : Option (List ℕ)) → IfSome content (HasSome content [] [])
shown_same None = tt
shown_same (Some c) = all_some (Some c) [] c (all_same (Some c) c refl)

-- nothing was done
pub grows_none : (disk : DiskState) → IsSure disk → Grows disk disk [] []
grows_none disk sure = record {
  moments = λ k image left. inl left;
  shown = shown_same disk.content;
  kept = λ image left. all_some disk.content [] image (all_same disk.content image (sure image
      left));
  told = refl;
  later = omega arith;
}

at : (content : Option (List ℕ)) (P : List ℕ → Type 0) → IfSome content P → (image : List ℕ)
    → content ≡ Some image → P image
at None P has image is = cc
at (Some d) P has image is = subst P (same_Some d image is) has

-- an opening that ended well
pub grows_opening : (first now : DiskState) → Keeps first now → IsSure now → Grows first now [] []
grows_opening first now keeps sure = record {
  moments = weaker first now keeps.moments (λ image has. all_some first.content [] image has);
  shown = if_some now.content (λ image has. all_some first.content [] image has) keeps.shown;
  kept = λ image left. all_some first.content [] image
      (at now.content (HasAll first.content []) keeps.shown image (sure image left));
  told = keeps.told;
  later = keeps.later;
}

-- an append that was made
pub grows_by : (old now : DiskState) (payload : List ℕ)
    → ShowsOnly old now (HasSome old.content [] (payload ∷ []))
    → IfSome now.content (HasAll old.content (payload ∷ [])) → IsSure now
    → Grows old now (payload ∷ []) []
grows_by old now payload shows all sure = record {
  moments = shows.moments;
  shown = if_some now.content (λ image has. all_some old.content (payload ∷ []) image has) all;
  kept = λ image left. all_some old.content (payload ∷ []) image
      (at now.content (HasAll old.content (payload ∷ [])) all image (sure image left));
  told = shows.told;
  later = shows.later;
}

-- an append that a fault cut off
pub grows_cut : (old now : DiskState) (payload : List ℕ) → NoneIsLater old → IsSure old
    → ShowsOnly old now (HasSome old.content [] (payload ∷ [])) → Grows old now [] (payload ∷ [])
grows_cut old now payload no_later sure shows = record {
  moments = shows.moments;
  shown = shows.shown;
  kept = λ image left. ⊎_elim (was image) (λ has. has) (shows.moments now.syncs image left);
  told = shows.told;
  later = shows.later;
}
  where
    was : (image : List ℕ) → old.left_since now.syncs image
        → HasSome old.content [] (payload ∷ []) image
    was image left =
        let same : now.syncs ≡ old.syncs =
        omega (arith, no_later now.syncs image left, shows.later) in
        let here : MayLeave old image = subst (λ (k : ℕ). old.left_since k image) same left in
        (0, omega arith, all_same old.content image (sure image here))
