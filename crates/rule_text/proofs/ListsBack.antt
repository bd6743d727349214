-- Lists read back what was written, with a joint in front of each element but the first.
use Rattle.std.proofs.Common.{◌≡◌, ℕ, zero, suc, ◌+◌, ◌≤◌, Bool, true, List, [], ◌∷◌, ◌++◌, length}
use Rattle.std.proofs.Common.{Option, Some, None, arith, refl, append_assoc}
use Rattle.std.proofs.lemmas.Bool.{and_parts}
use Rattle.std.specs.List.{flat_map, list_all}
use Rattle.std.proofs.lemmas.List.{length-append}
use Rattle.rule_text.specs.Readers.{Reader, more_of, many, list_on, list_reader}
use Rattle.rule_text.proofs.TextTokens.{tokens_at}
use Rattle.rule_text.proofs.ReadBack.{ReadsBack, TakesToken, then_reads, then_gives, reads_nothing}

-- one more element is read back where it was written, and none where none follows
pub record ReadsMore {X : Type 0} (follows ends : List ℕ → Type 0) (next : Reader (Option X))
    (piece : X → List ℕ) (fits : X → Bool) : Type 0 where
  pub one : (x : X) → fits x ≡ true → ReadsBack follows next (piece x) (Some x)
  pub some : (x : X) → fits x ≡ true → TakesToken follows (piece x)
  pub goes_on : (x : X) (rest : List ℕ) → follows (piece x ++ rest)
  pub none : ReadsBack ends next [] None
  pub ended : (rest : List ℕ) → ends rest → follows rest

-- more elements, or none and what may follow them, may follow an element
pub may_follow : {X : Type 0} {follows ends : List ℕ → Type 0} {next : Reader (Option X)}
    → {piece : X → List ℕ} {fits : X → Bool} → ReadsMore follows ends next piece fits
    → (xs : List X) (rest : List ℕ) → ends rest → follows (flat_map piece xs ++ rest)
may_follow h [] rest end = h.ended rest end
may_follow {piece = piece} h (x ∷ xs) rest end =
    rw append_assoc (h.goes_on x (flat_map piece xs ++ rest))

-- all elements are read back, where at least as many may follow
reads_many : {X : Type 0} {follows ends : List ℕ → Type 0} {next : Reader (Option X)}
    → {piece : X → List ℕ} {fits : X → Bool} → ReadsMore follows ends next piece fits
    → (xs : List X) → list_all fits xs ≡ true → (most : ℕ) → length xs ≤ most
    → ReadsBack ends (many next most) (flat_map piece xs) xs
unfolding many
reads_many h [] fit zero enough = reads_nothing _ [] (λ place rest end. refl)
reads_many h [] fit (suc most) enough = then_gives _ h.none (λ tokens. refl)
reads_many h (x ∷ xs) fit zero enough = absurd (omega arith)
reads_many {next = next} {piece = piece} {fits = fits} h (x ∷ xs) fit (suc most) enough =
    let parts = and_parts (fits x) (list_all fits xs) fit in
    let more = reads_many h xs parts.1 most (omega arith) in
    then_reads (more_of (many next most)) (h.one x parts.0) (then_gives _ more (λ tokens. refl))
    (λ rest end. may_follow h xs rest end)

-- there are at least as many tokens as elements
count : {X : Type 0} {follows ends : List ℕ → Type 0} {next : Reader (Option X)}
    → {piece : X → List ℕ} {fits : X → Bool} → ReadsMore follows ends next piece fits
    → (xs : List X) → list_all fits xs ≡ true → (place : ℕ) (rest : List ℕ) → ends rest
    → length xs + length (tokens_at (place + length (flat_map piece xs)) rest)
    ≤ length (tokens_at place (flat_map piece xs ++ rest))
count h [] fit place rest end =
    let here : place + 0 ≡ place = omega arith in
    rw here (omega arith)
count {piece = piece} {fits = fits} h (x ∷ xs) fit place rest end =
    let parts = and_parts (fits x) (list_all fits xs) fit in
    let behind = flat_map piece xs ++ rest in
    let one = (h.some x parts.0).taken place behind (may_follow h xs rest end) in
    let more = count h xs parts.1 (place + length (piece x)) rest end in
    let far : place + length (piece x ++ flat_map piece xs)
    ≡ place + length (piece x) + length (flat_map piece xs) =
    simp length-append (omega arith) in
    rw (append_assoc, far) (omega arith)

-- behind those in front, all others
pub reads_list_on : {X : Type 0} {follows ends : List ℕ → Type 0} {next : Reader (Option X)}
    → {piece : X → List ℕ} {fits : X → Bool} → ReadsMore follows ends next piece fits
    → (former xs : List X) → list_all fits xs ≡ true
    → ReadsBack ends (list_on former next) (flat_map piece xs) (former ++ xs)
unfolding list_on
reads_list_on {piece = piece} h former xs fit = record {
  reads = λ place rest end.
      let enough = count h xs fit place rest end in
      let most = length (tokens_at place (flat_map piece xs ++ rest)) in
      rw ((reads_many h xs fit most (omega arith)).reads place rest end) refl;
  fewer = λ place rest end.
      let enough = count h xs fit place rest end in
      omega arith;
}

-- one element, and all others behind it
pub reads_list_of : {X : Type 0} {follows ends : List ℕ → Type 0} {read : Reader X}
    → {next : Reader (Option X)} {text : List ℕ} {piece : X → List ℕ} {fits : X → Bool} {x : X}
    → ReadsBack follows read text x → ReadsMore follows ends next piece fits
    → (xs : List X) → list_all fits xs ≡ true
    → ReadsBack ends (list_reader read next) (text ++ flat_map piece xs) (x ∷ xs)
unfolding list_reader
reads_list_of {next = next} {x = x} h more xs fit =
    then_reads _ h (reads_list_on more (x ∷ []) xs fit) (λ rest end. may_follow more xs rest end)
