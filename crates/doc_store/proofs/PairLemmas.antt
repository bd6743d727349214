-- Pairs of a key and a number, in order.
use Rattle.std.proofs.Common.{◌≡◌, ℕ, true, false, Option, List, refl}
use Rattle.std.proofs.Common.{ap, ◌∙◌, sym, true≢false, nat_eq, ⊎_elim}
use Rattle.std.specs.Cmp.Lexicographic.{slice_cmp, pointwise, nat_list_eq_equiv}
use Rattle.std.specs.Ordering.{nat_cmp, ordering_then, is_eq}
use Rattle.std.specs.declared.cmp.Ordering.{Ordering}
use Rattle.std.specs.declared.cmp.Ordering.TheVariants.{Less, Equal, Greater}
use Rattle.std.specs.BTreeMap.{is_at}
use Rattle.std.specs.BTreeSet.{BTreeSet, UpdatesBy}
use Rattle.std.proofs.lemmas.Bool.{cases_Bool}
use Rattle.reg_base.specs.Documents.{is_key}
use Rattle.doc_store.specs.Pairs.{KeepsPairs}
use Rattle.std.proofs.lemmas.Slice.Eq.{slice_eq-Decides}
use Rattle.std.proofs.lemmas.Bool.Decides.{Decides-eqb}
use Rattle.std.proofs.lemmas.Map.Lookups.{exact_unsigned, exact_bytes}
use Rattle.doc_store.specs.declared.index.KeyPlace.{KeyPlace}
use Rattle.doc_store.specs.contracts.index.KeyPlaceOrd.TheImpl.{ghosts}

-- pairs are in order of key, then number
pub derived-order : (p q : KeyPlace) →
    ghosts.cmp p q ≡ ordering_then (slice_cmp nat_cmp p.key q.key) (nat_cmp p.number q.number)
derived-order p q = refl

then-Equal : (r s : Ordering) → ordering_then r s ≡ Equal → (r ≡ Equal) × (s ≡ Equal)
then-Equal Less s h = absurd (true≢false (sym (ap is_eq h)))
then-Equal Equal s h = (refl, h)
then-Equal Greater s h = absurd (true≢false (sym (ap is_eq h)))

pub is_eq-Equal : (r : Ordering) → is_eq r ≡ true → r ≡ Equal
is_eq-Equal Less h = absurd (true≢false (sym h))
is_eq-Equal Equal h = refl
is_eq-Equal Greater h = absurd (true≢false (sym h))

-- a pair that a query finds is the one asked for
pub found-pair : (p q : KeyPlace) → is_at (ghosts.cmp p) q ≡ true →
    (p.key ≡ q.key) × (p.number ≡ q.number)
found-pair p q h =
    let both = then-Equal (slice_cmp nat_cmp p.key q.key) (nat_cmp p.number q.number)
    (sym (derived-order p q) ∙ is_eq-Equal (ghosts.cmp p q) h) in
    (exact_bytes p.key q.key both.0, exact_unsigned p.number q.number both.1)

-- bytes are equal to themselves
pub same-bytes : (xs : List ℕ) → pointwise nat_eq xs xs ≡ true
same-bytes xs = nat_list_eq_equiv.refl xs

-- what a look-up of one pair changed keeps all others
pub KeepsPairs-removed : (key : List ℕ) (number : ℕ) (stays : Option (List ℕ))
    (old new : BTreeSet KeyPlace) → is_key key stays ≡ false →
    UpdatesBy ghosts.cmp (ghosts.cmp (record { key = key; number = number })) old new false →
    KeepsPairs number stays old new
KeepsPairs-removed key number stays old new other updates k n stay had =
    let gone : KeyPlace = record { key = key; number = number } in
    let asked : KeyPlace = record { key = k; number = n } in
    ⊎_elim
    (λ found. let (same_key, same_number) = found-pair gone asked found in
    absurd (true≢false (sym (same-bytes k)
    ∙ ap (λ x. pointwise nat_eq k x) (sym same_key)
    ∙ sym (ap (is_key key) (stay (sym same_number))) ∙ other)))
    (λ apart. updates.2 asked apart ∙ had)
    (cases_Bool (is_at (ghosts.cmp gone) asked))

-- bytes that are told to be equal are
pub equal_bytes : (xs ys : List ℕ) → pointwise nat_eq xs ys ≡ true → xs ≡ ys
equal_bytes xs ys h = (slice_eq-Decides Decides-eqb xs ys (pointwise nat_eq xs ys) refl).0 h
