-- Reading a text for each part, one after another.
use Rattle.std.proofs.Common.{◌≡◌, ℕ, ◌+◌, ◌<◌, ◌≤◌, ◌≢◌, Option, Some, None, option_map, List, []}
use Rattle.std.proofs.Common.{◌∷◌, ◌++◌, length, drop, get_or, refl, ap, ◌∙◌, sym, suc, add-one}
use Rattle.std.proofs.Common.{drop-cons, append-nil, append_assoc}
use Rattle.std.proofs.lemmas.List.{drop_all}
use Rattle.desk_model.specs.GivenRecords.{values_for, with_front}

none-behind : {X : Type 0} (first : Option X) → with_front first None ≡ None
none-behind None = refl
none-behind (Some x) = refl

-- texts that are not as many as the parts are not read
pub values_for-differs : {P X : Type 0} (read : P → List ℕ → Option X) (parts : List P)
    (texts : List (List ℕ)) → length parts ≢ length texts → values_for read parts texts ≡ None
values_for-differs read [] [] differs = absurd (differs refl)
values_for-differs read [] (text ∷ texts) differs = refl
values_for-differs read (part ∷ parts) [] differs = refl
values_for-differs read (part ∷ parts) (text ∷ texts) differs =
    let others = values_for-differs read parts texts (λ same. differs (ap suc same)) in
    ap (with_front (read part text)) others ∙ none-behind (read part text)

-- what was read, and then what is left to be read
abbrev pub behind : {X : Type 0} → List X → Option (List X) → Option (List X)
behind front rest = option_map (λ xs. front ++ xs) rest

-- one more part and text
values_for-more : {P X : Type 0} (read : P → List ℕ → Option X) (parts : List P)
    (texts : List (List ℕ)) (i : ℕ) (part : P) (text : List ℕ) → i < length parts →
    i < length texts → part ≡ get_or parts i part → text ≡ get_or texts i text →
    values_for read (drop i parts) (drop i texts) ≡ with_front (read part text)
    (values_for read (drop (i + 1) parts) (drop (i + 1) texts))
values_for-more read parts texts i part text below_parts below_texts p t =
    let a : drop i parts ≡ part ∷ drop (i + 1) parts = from_place parts i part below_parts p in
    let b : drop i texts ≡ text ∷ drop (i + 1) texts = from_place texts i text below_texts t in
    rw (a, b) refl
  where
    from_place : {A : Type 0} (xs : List A) (i : ℕ) (x : A) → i < length xs → x ≡ get_or xs i x →
        drop i xs ≡ x ∷ drop (i + 1) xs
    from_place xs i x below is =
        rw add-one (drop-cons xs i x below ∙ ap (λ y. y ∷ drop (suc i) xs) (sym is))

behind-one : {X : Type 0} (front : List X) (x : X) (rest : Option (List X)) →
    behind front (with_front (Some x) rest) ≡ behind (front ++ x ∷ []) rest
behind-one front x None = refl
behind-one front x (Some xs) = ap Some (sym (append_assoc front (x ∷ []) xs))

-- one more part and text are read
pub behind-more : {P X : Type 0} (read : P → List ℕ → Option X) (parts : List P)
    (texts : List (List ℕ)) (i : ℕ) (part : P) (text : List ℕ) (front new : List X) (x : X)
    (all : Option (List X)) → i < length parts → i < length texts → part ≡ get_or parts i part →
    text ≡ get_or texts i text → Some x ≡ read part text → new ≡ front ++ x ∷ [] →
    behind front (values_for read (drop i parts) (drop i texts)) ≡ all →
    behind new (values_for read (drop (i + 1) parts) (drop (i + 1) texts)) ≡ all
behind-more read parts texts i part text front new x all below_parts below_texts p t read_is pushed
    so_far =
    ap (λ f. behind f (values_for read (drop (i + 1) parts) (drop (i + 1) texts))) pushed
    ∙ sym (behind-one front x (values_for read (drop (i + 1) parts) (drop (i + 1) texts)))
    ∙ ap (λ first. behind front
    (with_front first (values_for read (drop (i + 1) parts) (drop (i + 1) texts)))) read_is
    ∙ ap (behind front) (sym (values_for-more read parts texts i part text below_parts below_texts p
    t))
    ∙ so_far

-- a text that is not read
pub behind-unread : {P X : Type 0} (read : P → List ℕ → Option X) (parts : List P)
    (texts : List (List ℕ)) (i : ℕ) (part : P) (text : List ℕ) (front : List X)
    (all : Option (List X)) → i < length parts → i < length texts → part ≡ get_or parts i part →
    text ≡ get_or texts i text → None ≡ read part text →
    behind front (values_for read (drop i parts) (drop i texts)) ≡ all → None ≡ all
behind-unread read parts texts i part text front all below_parts below_texts p t read_is so_far =
    ap (λ first. behind front
    (with_front first (values_for read (drop (i + 1) parts) (drop (i + 1) texts)))) read_is
    ∙ ap (behind front) (sym (values_for-more read parts texts i part text below_parts below_texts p
    t))
    ∙ so_far

-- no part is left
pub behind-done : {P X : Type 0} (read : P → List ℕ → Option X) (parts : List P)
    (texts : List (List ℕ)) (i : ℕ) (front : List X) (all : Option (List X)) → length parts ≤ i →
    length texts ≤ i → behind front (values_for read (drop i parts) (drop i texts)) ≡ all →
    Some front ≡ all
behind-done read parts texts i front all no_parts no_texts so_far =
    ap Some (sym (append-nil front))
    ∙ (λ j. behind front (values_for read (sym (drop_all i parts no_parts) j)
    (sym (drop_all i texts no_texts) j)))
    ∙ so_far
