-- Binds and amounts of a register: each dimension that needs a value has one, and none has two.
use Rattle.std.proofs.Common.{◌≡◌, ◌≢◌, ℕ, zero, suc, arith, Bool, true, false, not, ◌&&◌, ◌||◌}
use Rattle.std.proofs.Common.{◌⊎◌, inl, inr, List, [], ◌∷◌, ◌++◌, map, Some, refl, ap, sym, ◌∙◌}
use Rattle.std.proofs.Common.{subst, slice_get, append_assoc}
use Rattle.std.proofs.lemmas.Bool.{and_from, and_parts, or_left, or_right}
use Rattle.std.proofs.lemmas.List.Folds.{list_any-append}
use Rattle.std.proofs.lemmas.List.Kept.{AllPairs-cons}
use Rattle.std.proofs.lemmas.List.Sums.{AllPass-from_list_all}
use Rattle.std.proofs.lemmas.Option.{same_Some}
use Rattle.std.proofs.lemmas.Slice.Eq.{bytes_eq-Decides}
use Rattle.std.specs.List.{All, AllZip, Any, list_any}
use Rattle.cfg_model.specs.declared.kind.Kind.{Kind}
use Rattle.cfg_model.specs.declared.register.Dimension.{Dimension}
use Rattle.cfg_model.specs.declared.register.Register.{Register}
use Rattle.rule_text.specs.Fronts.{is_spelt}
use Rattle.rule_text.specs.declared.plain.PlainBind.{PlainBind}
use Rattle.rule_text.specs.declared.token.Spelling.{Spelling}
use Rattle.rule_text.specs.declared.token.Spelling.TheVariants.{Named, Other}
use Rattle.rule_lang.specs.Binds.{is_bound, binds_each_dimension, same_name, none_twice}
use Rattle.rule_lang.specs.WriteOffs.{lot_bound}
use Rattle.rule_lang.specs.Resolved.{IsBind, AreDifferent, HasValue, IsNoLot}
use Rattle.rule_lang.specs.declared.statement.Bind.{Bind}
use Rattle.rule_lang.specs.declared.terms.Round.{Round}
use Rattle.rule_lang.proofs.ResolvedLemmas.{IsThere}
use Rattle.rule_lang.proofs.StepLemmas.{All-cons, All-follows}

-- a word spells one name
spelt-one : (first second : List ℕ) (word : Spelling) → is_spelt first word ≡ true
    → is_spelt second word ≡ true → first ≡ second
spelt-one first second Other a b = absurd (cc)
spelt-one first second (Named name) a b =
    sym ((bytes_eq-Decides name first).0 a) ∙ (bytes_eq-Decides name second).0 b

-- two words that spell one name are the same
one-spelt : (name : List ℕ) (first second : Spelling) → is_spelt name first ≡ true
    → is_spelt name second ≡ true → same_name first second ≡ true
one-spelt name Other second a b = absurd (cc)
one-spelt name (Named other) second a b =
    subst (λ n. is_spelt n second ≡ true) (sym ((bytes_eq-Decides other name).0 a)) b

-- what stands at equal places is named alike
pub apart : {X : Type 0} (name_of : X → List ℕ) (xs : List X) (first second : Spelling) (i j : ℕ)
    → IsThere name_of xs first i → IsThere name_of xs second j → same_name first second ≡ false
    → i ≢ j
apart name_of xs first second i j a b differ same = absurd (unlike (sym differ ∙ one))
  where
    x_same : a.0 ≡ b.0
    x_same = same_Some a.0 b.0 (sym a.1 ∙ ap (slice_get xs) same ∙ b.1)

    one : same_name first second ≡ true
    one = one-spelt (name_of b.0) first second
        (subst (λ x. is_spelt (name_of x) first ≡ true) x_same a.2) b.2

    unlike : false ≡ true → ⊥
    unlike f = cc

or-false : (a b : Bool) → (a || b) ≡ false → (a ≡ false) × (b ≡ false)
or-false true b e = absurd (cc)
or-false false b e = (refl, e)

pub not-true : (a : Bool) → not a ≡ true → a ≡ false
not-true true e = absurd (cc)
not-true false e = refl

apart-all : {P B X : Type 0} (name_of : X → List ℕ) (xs : List X) (word : P → Spelling)
    (place : B → ℕ) (R : P → B → Type 0)
    → ((p : P) (b : B) → R p b → IsThere name_of xs (word p) (place b))
    → (first : Spelling) (i : ℕ) → IsThere name_of xs first i → (ps : List P) (bs : List B)
    → AllZip R ps bs → list_any (λ p. same_name first (word p)) ps ≡ false
    → All (λ j. i ≢ j) (map place bs)
apart-all name_of xs word place R is first i at [] [] zip e = λ k d l. absurd (omega (arith, l))
apart-all name_of xs word place R is first i at [] (b ∷ bs) zip e = absurd zip
apart-all name_of xs word place R is first i at (p ∷ ps) [] zip e = absurd zip
apart-all name_of xs word place R is first i at (p ∷ ps) (b ∷ bs) zip e =
    let parts = or-false (same_name first (word p)) (list_any (λ q. same_name first (word q)) ps) e
    in
    All-cons (λ j. i ≢ j) (place b) (map place bs)
    (apart name_of xs first (word p) i (place b) at (is p b zip.0) parts.0)
    (apart-all name_of xs word place R is first i at ps bs zip.1 parts.1)

-- names none of which stands twice are different places
pub none_twice-different : {P B X : Type 0} (name_of : X → List ℕ) (xs : List X)
    (word : P → Spelling) (place : B → ℕ) (R : P → B → Type 0)
    → ((p : P) (b : B) → R p b → IsThere name_of xs (word p) (place b))
    → (ps : List P) (bs : List B) → AllZip R ps bs → none_twice word ps ≡ true
    → AreDifferent (map place bs)
unfolding none_twice
none_twice-different name_of xs word place R is [] [] zip e = λ i j d a b. absurd (omega (arith, b))
none_twice-different name_of xs word place R is [] (b ∷ bs) zip e = absurd zip
none_twice-different name_of xs word place R is (p ∷ ps) [] zip e = absurd zip
none_twice-different name_of xs word place R is (p ∷ ps) (b ∷ bs) zip e =
    let parts = and_parts (not (list_any (λ q. same_name (word p) (word q)) ps))
    (none_twice word ps) e in
    AllPairs-cons (λ i j. i ≢ j) (place b) (map place bs)
    (apart-all name_of xs word place R is (word p) (place b) (is p b zip.0) ps bs zip.1
    (not-true (list_any (λ q. same_name (word p) (word q)) ps) parts.0))
    (none_twice-different name_of xs word place R is ps bs zip.1 parts.1)

Any-later : {X : Type 0} (P : X → Type 0) (x : X) (xs : List X) → Any P xs → Any P (x ∷ xs)
Any-later P x xs a = (suc a.0, a.1, omega (arith, a.2), a.3, a.4)

-- what follows where a test held, and where it failed
by_test : {G : Type 0} (test : Bool) → (test ≡ true → G) → (test ≡ false → G) → G
by_test true holds fails = holds refl
by_test false holds fails = fails refl

or-later : (a b : Bool) → (a || b) ≡ true → a ≡ false → b ≡ true
or-later true b e is = absurd (cc)
or-later false b e is = e

-- a dimension whose name was written has a value
pub bound-value : (kind : Kind) (round : Round) (register : Register) (d : Dimension)
    (ps : List PlainBind) (bs : List Bind) → AllZip (IsBind kind round register) ps bs
    → is_bound ps d ≡ true → HasValue register bs d
bound-value kind round register d [] bs zip e = absurd (cc)
bound-value kind round register d (p ∷ ps) [] zip e = absurd zip
bound-value kind round register d (p ∷ ps) (b ∷ bs) zip e = by_test (is_spelt d.name p.dimension)
    (λ is. (
      zero,
      b,
      omega arith,
      refl,
      (zip.0.0, zip.0.1, spelt-one zip.0.0.name d.name p.dimension zip.0.2 is),
    ))
    (λ is. Any-later _ b bs (bound-value kind round register d ps bs zip.1
    (or-later (is_spelt d.name p.dimension) (is_bound ps d) e is)))

-- each dimension has a value, or is a lot where lots need none
pub each-bound : (kind : Kind) (round : Round) (register : Register) (lots_free : Bool)
    (ps : List PlainBind) (bs : List Bind) → AllZip (IsBind kind round register) ps bs
    → binds_each_dimension lots_free register ps ≡ true
    → All (λ d. ((lots_free ≡ true) × (d.lot ≡ true)) ⊎ HasValue register bs d) register.dimensions
each-bound kind round register lots_free ps bs zip e =
    All-follows (λ d. (lots_free && d.lot) || is_bound ps d ≡ true)
    (λ d. ((lots_free ≡ true) × (d.lot ≡ true)) ⊎ HasValue register bs d)
    (λ d h. by_test (lots_free && d.lot) (λ is. inl (and_parts lots_free d.lot is))
    (λ is. inr (bound-value kind round register d ps bs zip
    (or-later (lots_free && d.lot) (is_bound ps d) h is))))
    register.dimensions
    (AllPass-from_list_all (λ d. (lots_free && d.lot) || is_bound ps d) register.dimensions e)

never-free : (register : Register) (bs : List Bind) (d : Dimension)
    → (((false ≡ true) × (d.lot ≡ true)) ⊎ HasValue register bs d) → HasValue register bs d
never-free register bs d (inl h) = absurd (unlike h.0)
  where
    unlike : false ≡ true → ⊥
    unlike f = cc
never-free register bs d (inr h) = h

-- each dimension has a value, lots too
pub all-bound : (kind : Kind) (round : Round) (register : Register) (ps : List PlainBind)
    (bs : List Bind) → AllZip (IsBind kind round register) ps bs
    → binds_each_dimension false register ps ≡ true
    → All (HasValue register bs) register.dimensions
all-bound kind round register ps bs zip e =
    All-follows (λ d. ((false ≡ true) × (d.lot ≡ true)) ⊎ HasValue register bs d)
    (HasValue register bs) (never-free register bs) register.dimensions
    (each-bound kind round register false ps bs zip e)

-- something at a place passes
any-at : {X : Type 0} (test : X → Bool) (xs : List X) (place : ℕ) (x : X)
    → slice_get xs place ≡ Some x → test x ≡ true → list_any test xs ≡ true
any-at test [] place x at is = absurd (cc)
any-at test (y ∷ ys) zero x at is =
    or_left (test y) (list_any test ys) (ap test (same_Some y x at) ∙ is)
any-at test (y ∷ ys) (suc place) x at is =
    or_right (test y) (list_any test ys) (any-at test ys place x at is)

pub false-true : (a : Bool) → a ≡ false → a ≡ true → ⊥
false-true true e f = cc
false-true false e f = cc

is_bound-within : (front : List PlainBind) (p : PlainBind) (ps : List PlainBind) (d : Dimension)
    → is_spelt d.name p.dimension ≡ true → is_bound (front ++ p ∷ ps) d ≡ true
is_bound-within front p ps d is =
    list_any-append (λ b. is_spelt d.name b.dimension) front (p ∷ ps)
    ∙ or_right (is_bound front d) (is_bound (p ∷ ps) d)
    (or_left (is_spelt d.name p.dimension) (is_bound ps d) is)

no-lots : (kind : Kind) (round : Round) (register : Register) (front ps : List PlainBind)
    (bs : List Bind) → AllZip (IsBind kind round register) ps bs
    → lot_bound register (front ++ ps) ≡ false → All (IsNoLot register) bs
no-lots kind round register front [] [] zip e = λ k d l. absurd (omega (arith, l))
no-lots kind round register front [] (b ∷ bs) zip e = absurd zip
no-lots kind round register front (p ∷ ps) [] zip e = absurd zip
no-lots kind round register front (p ∷ ps) (b ∷ bs) zip e =
    All-cons (IsNoLot register) b bs (
      zip.0.0,
      zip.0.1,
      by_test zip.0.0.lot (λ is. absurd
          (false-true _ e (any-at (λ d. d.lot && is_bound (front ++ p ∷ ps) d) register.dimensions
          b.dimension zip.0.0 zip.0.1
          (and_from zip.0.0.lot (is_bound (front ++ p ∷ ps) zip.0.0) is
          (is_bound-within front p ps zip.0.0 zip.0.2))))) (λ is. is),
    )
    (no-lots kind round register (front ++ p ∷ []) ps bs zip.1
    (ap (lot_bound register) (append_assoc front (p ∷ []) ps) ∙ e))

-- no bind gives a lot a value
pub lots-free : (kind : Kind) (round : Round) (register : Register) (ps : List PlainBind)
    (bs : List Bind) → AllZip (IsBind kind round register) ps bs
    → lot_bound register ps ≡ false → All (IsNoLot register) bs
lots-free kind round register ps bs zip e = no-lots kind round register [] ps bs zip e
