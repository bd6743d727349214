-- What a change of one place leaves sound.
use Rattle.std.proofs.Common.{◌≡◌, ◌≢◌, ℕ, ◌+◌, true, false, Option, Some}
use Rattle.std.proofs.Common.{None, List, refl, ap, ◌∙◌, sym, subst, arith, is_some, IsSome}
use Rattle.std.proofs.Common.{true≢false}
use Rattle.std.proofs.Common.{⊎_elim}
use Rattle.std.specs.Option.{IfSome, option_flatten, option_map, unwrap_or}
use Rattle.std.specs.List.{sum_by}
use Rattle.std.specs.Cmp.{nat_cmp_total, nat_cmp_is}
use Rattle.std.specs.Ordering.{nat_cmp, is_eq}
use Rattle.std.specs.declared.cmp.Ordering.TheVariants.{Equal}
use Rattle.std.specs.Map.{values_of, lookup, set_value, remove_entry}
use Rattle.std.specs.BTreeMap.{BTreeMap, is_at, get, insert_entry, Updates, UpdatesBy, IsOrdered}
use Rattle.std.specs.BTreeSet.{BTreeSet}
use Rattle.std.proofs.lemmas.Bool.{cases_Bool, cond-true, cond-false}
use Rattle.std.proofs.lemmas.Map.Entries.{sum_by-set_value, sum_by-remove_entry}
use Rattle.std.proofs.lemmas.Map.Entries.{sum_by-insert_entry}
use Rattle.std.proofs.lemmas.Map.Lookups.{exact_unsigned}
use Rattle.reg_base.specs.declared.records.Document.{Document}
use Rattle.doc_store.specs.declared.committed.Committed.{Committed}
use Rattle.doc_store.specs.declared.index.KeyPlace.{KeyPlace}
use Rattle.doc_store.specs.declared.staged.Staged.{Staged}
use Rattle.doc_store.specs.declared.staged.Staged.TheVariants.{Put, Removal}
use Rattle.doc_store.specs.Stores.{Room, room_of}
use Rattle.doc_store.specs.Kept.{IsSound, HasPair, AreNumbered, lack, HasRoom, KeepsRooms, CanKeep}
use Rattle.doc_store.specs.Kept.{IsRoomy}
use Rattle.doc_store.specs.Pairs.{HasKeyPlace, KeepsPairs}
use Rattle.doc_store.proofs.PairLemmas.{is_eq-Equal}
use Rattle.doc_store.proofs.PlaceLemmas.{AreNumbered-set_value, AreNumbered-remove_entry}
use Rattle.doc_store.proofs.PlaceLemmas.{AreNumbered-insert_entry}

-- ---- how many places are empty

-- the place of a number lacks a document
abbrev pub lack_at : Option (Option Document) → ℕ
lack_at o = unwrap_or (option_map lack o) 0

-- the key, or none, of the document that stands at a place
abbrev pub former_key : Option (Option Document) → Option (Option (List ℕ))
former_key o = option_map (λ d. d.doc.key) (option_flatten o)

pub lack_at-Some : (o : Option (Option Document)) (key : Option (List ℕ)) →
    former_key o ≡ Some key → lack_at o ≡ 0
lack_at-Some None key h = refl
lack_at-Some (Some None) key h = absurd (true≢false (sym (ap is_some h)))
lack_at-Some (Some (Some d)) key h = refl

pub lack_at-None : (o : Option (Option Document)) → IsSome o → former_key o ≡ None →
    lack_at o ≡ 1
lack_at-None None found h = absurd (true≢false (sym found))
lack_at-None (Some None) found h = refl
lack_at-None (Some (Some d)) found h = absurd (true≢false (ap is_some h))

pub lacks-put : (n : ℕ) (d : Document) (es : List (ℕ × Option Document))
    (o : Option (Option Document)) → o ≡ lookup (is_at (nat_cmp n)) es → IsSome o →
    sum_by lack (values_of (set_value (is_at (nat_cmp n)) es (Some d))) + lack_at o
    ≡ sum_by lack (values_of es)
lacks-put n d es None same found = absurd (true≢false (sym found))
lacks-put n d es (Some v) same found =
    let all = sum_by-set_value lack (is_at (nat_cmp n)) es v (Some d) (sym same) in
    omega (arith, all)

pub lacks-remove : (n : ℕ) (es : List (ℕ × Option Document)) →
    sum_by lack (values_of (remove_entry (is_at (nat_cmp n)) es))
    + lack_at (lookup (is_at (nat_cmp n)) es) ≡ sum_by lack (values_of es)
lacks-remove n es = sum_by-remove_entry lack (is_at (nat_cmp n)) es

pub is_none-absent : {X : Type 0} (o : Option X) → is_some o ≡ false → o ≡ None
is_none-absent None h = refl
is_none-absent (Some x) h = absurd (true≢false h)

-- ---- what stays in the index

module _ (n m : ℕ) (stays : Option (List ℕ)) (old new : BTreeSet KeyPlace)
    (keeps : KeepsPairs n stays old new) where
  keeps-pair : (key : Option (List ℕ)) → (m ≡ n → stays ≡ key) →
      IfSome key (λ k. HasKeyPlace old k m) → IfSome key (λ k. HasKeyPlace new k m)
  keeps-pair None stay had = tt
  keeps-pair (Some key) stay had = keeps key m stay had

  keeps-documents : (o : Option Document) → IfSome o (λ d. m ≡ n → stays ≡ d.doc.key) →
      IfSome o (λ d. IfSome d.doc.key (λ k. HasKeyPlace old k m)) →
      IfSome o (λ d. IfSome d.doc.key (λ k. HasKeyPlace new k m))
  keeps-documents None stay had = tt
  keeps-documents (Some d) stay had = keeps-pair d.doc.key stay had

-- a fact that needs two numbers to be equal, where they are not
apart : (n m : ℕ) (stays : Option (List ℕ)) → m ≢ n → (o : Option Document) →
    IfSome o (λ d. m ≡ n → stays ≡ d.doc.key)
apart n m stays other None = tt
apart n m stays other (Some d) = λ same. absurd (other same)

-- the look-up by key finds what it should after one place has changed
module _ (n : ℕ) (stays : Option (List ℕ)) (w : Option (Option Document))
    (before after : BTreeMap ℕ (Option Document)) (old new : BTreeSet KeyPlace) where
  pub indexed-updates : UpdatesBy nat_cmp (nat_cmp n) before after w → KeepsPairs n stays old new →
      ((m : ℕ) → IfSome (option_flatten (get nat_cmp before m))
      (λ d. IfSome d.doc.key (λ k. HasKeyPlace old k m))) →
      IfSome (option_flatten w) (λ d. IfSome d.doc.key (λ k. HasKeyPlace new k n)) →
      (m : ℕ) → IfSome (option_flatten (get nat_cmp after m))
      (λ d. IfSome d.doc.key (λ k. HasKeyPlace new k m))
  indexed-updates updates keeps had here m =
      let P : ℕ → Option (Option Document) → Type 0 = λ i o. IfSome (option_flatten o)
      (λ d. IfSome d.doc.key (λ k. HasKeyPlace new k i)) in
      subst (P m) (sym (updates.0 m)) (⊎_elim
      (λ found. let same : n ≡ m = exact_unsigned n m (is_eq-Equal (nat_cmp n m) found) in
      subst (P m) (sym (cond-true (is_at (nat_cmp n) m) w (get nat_cmp before m) found))
      (subst (λ i. P i w) same here))
      (λ other. let differs : m ≢ n = λ same. true≢false (sym (at-itself n)
      ∙ ap (is_at (nat_cmp n)) (sym same) ∙ other) in
      subst (P m) (sym (cond-false (is_at (nat_cmp n) m) w (get nat_cmp before m) other))
      (keeps-documents n m stays old new keeps (option_flatten (get nat_cmp before m))
      (apart n m stays differs (option_flatten (get nat_cmp before m))) (had m)))
      (cases_Bool (is_at (nat_cmp n) m)))
    where
      at-itself : (n : ℕ) → is_at (nat_cmp n) n ≡ true
      at-itself n = ap is_eq (sym (nat_cmp_is n n Equal refl))

-- ---- the changes

module _ (old : Committed) (sound : IsSound old) (keys : BTreeSet KeyPlace)
    (places : BTreeMap ℕ (Option Document)) (spare : ℕ) where
  pub sound-put : (d : Document) → IsOrdered nat_cmp places →
      places.entries ≡ set_value (is_at (nat_cmp d.doc.number)) old.places.entries (Some d) →
      Updates nat_cmp old.places places d.doc.number (Some (Some d)) →
      KeepsPairs d.doc.number d.doc.key old.keys keys → HasPair old d.doc.key d.doc.number →
      IsSome (get nat_cmp old.places d.doc.number) →
      spare + lack_at (get nat_cmp old.places d.doc.number) ≡ old.spare →
      IsSound (record { places = places; keys = keys; spare = spare })
  sound-put d ordered entries updates keeps pair found counted = record {
    ordered = ordered;
    numbered = subst AreNumbered (sym entries) (AreNumbered-set_value d _ sound.numbered);
    indexed = indexed-updates d.doc.number d.doc.key (Some (Some d)) old.places places old.keys keys
        updates keeps sound.indexed
        (keeps-pair d.doc.number d.doc.number d.doc.key old.keys keys keeps d.doc.key
        (λ _. refl) pair);
    counted =
        let all = lacks-put d.doc.number d old.places.entries
        (get nat_cmp old.places d.doc.number) refl found in
        let here = ap (λ es. sum_by lack (values_of es)) entries in
        let was = sound.counted in
        omega (arith, all, here, was, counted);
  }

  pub sound-remove : (n : ℕ) → IsOrdered nat_cmp places →
      places.entries ≡ remove_entry (is_at (nat_cmp n)) old.places.entries →
      UpdatesBy nat_cmp (nat_cmp n) old.places places None →
      KeepsPairs n None old.keys keys →
      spare + lack_at (get nat_cmp old.places n) ≡ old.spare →
      IsSound (record { places = places; keys = keys; spare = spare })
  sound-remove n ordered entries updates keeps counted = record {
    ordered = ordered;
    numbered = subst AreNumbered (sym entries) (AreNumbered-remove_entry n _ sound.numbered);
    indexed = indexed-updates n None None old.places places old.keys keys updates keeps
        sound.indexed tt;
    counted =
        let all = lacks-remove n old.places.entries in
        let here = ap (λ es. sum_by lack (values_of es)) entries in
        let was = sound.counted in
        omega (arith, all, here, was, counted);
  }

-- all pairs are kept where none is taken out
pub keeps-all : (n : ℕ) (stays : Option (List ℕ)) (keys : BTreeSet KeyPlace) →
    KeepsPairs n stays keys keys
keeps-all n stays keys = λ key m stay had. had

module _ (old : Committed) (sound : IsSound old) where
  pub sound-insert : (n : ℕ) (places : BTreeMap ℕ (Option Document)) (spare : ℕ) →
      IsOrdered nat_cmp places →
      places.entries ≡ insert_entry nat_cmp old.places.entries n None →
      Updates nat_cmp old.places places n (Some None) →
      get nat_cmp old.places n ≡ None → spare ≡ old.spare + 1 →
      IsSound (record { places = places; keys = old.keys; spare = spare })
  sound-insert n places spare ordered entries updates none counted = record {
    ordered = ordered;
    numbered = subst AreNumbered (sym entries) (AreNumbered-insert_entry n _ sound.numbered);
    indexed = indexed-updates n None (Some None) old.places places old.keys old.keys updates
        (keeps-all n None old.keys) sound.indexed tt;
    counted =
        let all = sum_by-insert_entry lack nat_cmp_total old.places.entries n None sound.ordered in
        let here = ap (λ es. sum_by lack (values_of es)) entries in
        let absent = ap lack_at none in
        let was = sound.counted in
        omega (arith, all, here, absent, was, counted);
  }

  -- the key of a document that does not have it any more is forgotten
  pub sound-forget : (n : ℕ) (stays : Option (List ℕ)) (keys : BTreeSet KeyPlace) →
      KeepsPairs n stays old.keys keys →
      IfSome (option_flatten (get nat_cmp old.places n)) (λ d. stays ≡ d.doc.key) →
      IsSound (record { places = old.places; keys = keys; spare = old.spare })
  sound-forget n stays keys keeps here = record {
    ordered = sound.ordered;
    numbered = sound.numbered;
    indexed = λ m. keeps-documents n m stays old.keys keys keeps
        (option_flatten (get nat_cmp old.places m))
        (at-number m (option_flatten (get nat_cmp old.places m)) refl) (sound.indexed m);
    counted = sound.counted;
  }
    where
      at-number : (m : ℕ) (o : Option Document) → o ≡ option_flatten (get nat_cmp old.places m) →
          IfSome o (λ d. m ≡ n → stays ≡ d.doc.key)
      at-number m None e = tt
      at-number m (Some d) e = λ same. subst (λ o. IfSome o (λ d. stays ≡ d.doc.key))
          (ap (λ i. option_flatten (get nat_cmp old.places i)) (sym same) ∙ sym e) here

-- the key of the document that stands at a number
pub key-stays : (o : Option Document) (stays : Option (List ℕ)) →
    option_map (λ d. d.doc.key) o ≡ Some stays → IfSome o (λ d. stays ≡ d.doc.key)
key-stays None stays h = tt
key-stays (Some d) stays h = sym (ap (λ x. unwrap_or x stays) h)

-- what is owed can still be kept where more room was made
pub HasRoom-more : (old new : Committed) (staged : Option Staged) (room : Option Room) →
    HasRoom old staged room → IsSound new → KeepsRooms old new → HasRoom new staged room
HasRoom-more old new staged room has sound rooms = record {
  sound = sound;
  can_keep = still staged has.can_keep;
  is_roomy = roomy room has.is_roomy;
}
  where
    still : (staged : Option Staged) → IfSome staged (CanKeep old) → IfSome staged (CanKeep new)
    still None h = tt
    still (Some (Put d)) h = rooms (room_of d.doc) h
    still (Some (Removal n)) h = tt

    roomy : (room : Option Room) → IfSome room (IsRoomy old) → IfSome room (IsRoomy new)
    roomy None h = tt
    roomy (Some r) h = rooms r h
