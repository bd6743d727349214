-- Two lists whose elements stand to each other as what is written does to what is meant.
use Rattle.std.proofs.Common.{◌≡◌, ℕ, Bool, true, not, ◌&&◌, ◌||◌, List, [], ◌∷◌, ◌++◌, map, Ok}
use Rattle.std.proofs.Common.{Err, IfOk, refl, ap, ap₂, ◌∙◌}
use Rattle.std.specs.List.{AllZip, list_all, list_any, flat_map}
use Rattle.std.proofs.lemmas.Bool.{and_from, and_parts}
use Rattle.rule_text.specs.declared.token.Spelling.{Spelling}
use Rattle.rule_text.proofs.ForAbove.{joined}
use Rattle.rule_lang.specs.Binds.{same_name, none_twice}
use Rattle.rule_lang.specs.Least.{Checked, both, with_first, each_or_least}
use Rattle.rule_lang.specs.TermTexts.{list_text}
use Rattle.rule_lang.proofs.StepLemmas.{both-IfOk, AllZip-follows}

first-zip : {X Y : Type 0} (R : X → Y → Type 0) (x : X) (xs : List X) (p : Checked (Y × List Y))
    → IfOk p (λ q. R x q.0 × AllZip R xs q.1) → IfOk (with_first p) (AllZip R (x ∷ xs))
first-zip R x xs (Ok q) h = h
first-zip R x xs (Err why) h = tt

-- what holds of each that is checked and its value
pub each-zip : {X Y : Type 0} (check : X → Checked Y) (read : X → Bool) (R : X → Y → Type 0)
    → ((x : X) → read x ≡ true → IfOk (check x) (R x))
    → (xs : List X) → list_all read xs ≡ true → IfOk (each_or_least check xs) (AllZip R xs)
unfolding each_or_least
each-zip check read R holds [] all = tt
each-zip check read R holds (x ∷ xs) all =
    let parts = and_parts (read x) (list_all read xs) all in
    first-zip R x xs (both (check x) (each_or_least check xs))
    (both-IfOk (check x) (each_or_least check xs) (R x) (AllZip R xs) (holds x parts.0)
    (each-zip check read R holds xs parts.1))

-- elements that are each accepted are accepted together
pub zip-each : {X Y : Type 0} (check : X → Checked Y) (xs : List X) (ys : List Y)
    → AllZip (λ x y. check x ≡ Ok y) xs ys → each_or_least check xs ≡ Ok ys
unfolding each_or_least both
zip-each check [] [] h = refl
zip-each check [] (y ∷ ys) h = absurd h
zip-each check (x ∷ xs) [] h = absurd h
zip-each check (x ∷ xs) (y ∷ ys) h = rw (h.0, zip-each check xs ys h.1) refl

-- the same of elements that are each changed
pub zip-map : {X Y : Type 0} (change : X → X) (R : X → Y → Type 0) (xs : List X) (ys : List Y)
    → AllZip (λ x y. R (change x) y) xs ys → AllZip R (map change xs) ys
zip-map change R [] [] h = h
zip-map change R [] (y ∷ ys) h = h
zip-map change R (x ∷ xs) [] h = h
zip-map change R (x ∷ xs) (y ∷ ys) h = (h.0, zip-map change R xs ys h.1)

-- each passes the test
pub zip-all : {X Y : Type 0} (test : X → Bool) (xs : List X) (ys : List Y)
    → AllZip (λ x y. test x ≡ true) xs ys → list_all test xs ≡ true
zip-all test [] [] h = refl
zip-all test [] (y ∷ ys) h = refl
zip-all test (x ∷ xs) [] h = absurd h
zip-all test (x ∷ xs) (y ∷ ys) h = and_from _ _ h.0 (zip-all test xs ys h.1)

flat_map-zip : {X Y : Type 0} (written : X → List ℕ) (text : Y → List ℕ) (xs : List X) (ys : List Y)
    → AllZip (λ x y. text y ≡ written x) xs ys → flat_map text ys ≡ flat_map written xs
flat_map-zip written text [] [] h = refl
flat_map-zip written text [] (y ∷ ys) h = absurd h
flat_map-zip written text (x ∷ xs) [] h = absurd h
flat_map-zip written text (x ∷ xs) (y ∷ ys) h = ap₂ ◌++◌ h.0 (flat_map-zip written text xs ys h.1)

-- what is listed is written alike
pub list_text-zip : {X Y : Type 0} (between written : X → List ℕ) (joint text : Y
    → List ℕ) (xs : List X) (ys : List Y)
    → AllZip (λ x y. (joint y ≡ between x) × (text y ≡ written x)) xs ys
    → list_text joint text ys ≡ joined between written xs
list_text-zip between written joint text [] [] h = refl
list_text-zip between written joint text [] (y ∷ ys) h = absurd h
list_text-zip between written joint text (x ∷ xs) [] h = absurd h
list_text-zip between written joint text (x ∷ xs) (y ∷ ys) h = ap₂ ◌++◌ h.0.1
    (flat_map-zip (λ a. between a ++ written a) (λ b. joint b ++ text b) xs ys
    (AllZip-follows (λ a b. (joint b ≡ between a) × (text b ≡ written a)) (λ a b. joint b ++ text b
    ≡ between a ++ written a)
    (λ a b p. ap₂ ◌++◌ p.0 p.1) xs ys h.1))

any-map : {X : Type 0} (change : X → X) (test : X → Bool) (xs : List X)
    → ((x : X) → test (change x) ≡ test x)
    → list_any test (map change xs) ≡ list_any test xs
any-map change test [] same = refl
any-map change test (x ∷ xs) same = ap₂ ◌||◌ (same x) (any-map change test xs same)

-- a change that keeps the words keeps whether one stands twice
pub none_twice-map : {X : Type 0} (change : X → X) (word_of : X → Spelling) (xs : List X)
    → ((x : X) → word_of (change x) ≡ word_of x)
    → none_twice word_of (map change xs) ≡ none_twice word_of xs
unfolding none_twice
none_twice-map change word_of [] same = refl
none_twice-map change word_of (x ∷ xs) same = ap₂ (λ a b. not a && b)
    (ap (λ w. list_any (λ y. same_name w (word_of y)) (map change xs)) (same x)
    ∙ any-map change (λ y. same_name (word_of x) (word_of y)) xs (λ y. ap (same_name (word_of x))
    (same y)))
    (none_twice-map change word_of xs same)
