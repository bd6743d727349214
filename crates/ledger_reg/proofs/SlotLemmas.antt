-- Sums of sides by account, extras and slot: their order, one side more, and all sides of entries.
use Rattle.std.proofs.Common.{◌≡◌, ℕ, ◌+◌, ◌^◌, ◌≤◌, pos, ◌+ℤ◌, true, false, cond}
use Rattle.std.proofs.Common.{List, [], ◌∷◌, ◌++◌, map, refl, ap, ◌∙◌, sym}
use Rattle.std.proofs.Common.{subst, arith, append_assoc}
use Rattle.std.specs.Prelude.{unwrap_or, IsPermutation}
use Rattle.std.specs.List.{flat_map}
use Rattle.std.specs.List.Sorted.{IsStrictlySortedBy}
use Rattle.std.specs.Map.{lookup, keys_of}
use Rattle.std.specs.BTreeMap.{insert_entry}
use Rattle.std.specs.Cmp.{IsTotalOrder, on_total, then_total}
use Rattle.std.specs.Cmp.Lexicographic.{slice_cmp, nat_list_cmp_total}
use Rattle.std.specs.Ordering.{nat_cmp, ordering_then, is_eq}
use Rattle.std.specs.declared.cmp.Ordering.{Ordering}
use Rattle.std.specs.declared.cmp.Ordering.TheVariants.{Equal}
use Rattle.std.proofs.lemmas.Cmp.{lists_total, nat_cmp_total}
use Rattle.std.proofs.lemmas.List.{append-nil}
use Rattle.std.proofs.lemmas.List.Sorted.{IsPermutation-map, IsPermutation-append_comm}
use Rattle.std.proofs.lemmas.List.Sorted.{IsPermutation-append_left}
use Rattle.std.proofs.lemmas.Map.Lookups.{CmpEqualImpliesEq, exact_bytes}
use Rattle.reg_base.specs.BookedEntries.{BookedEntry}
use Rattle.reg_base.proofs.ForTables.{sum_over-permutation, in_order_once-permutation}
use Rattle.reg_base.proofs.ForTables.{value-permutation}
use Rattle.ledger_reg.specs.declared.sides.Amounts.{Amounts}
use Rattle.ledger_reg.specs.declared.slots.SlotKey.{SlotKey}
use Rattle.ledger_reg.specs.declared.slots.SlotSums.{SlotSums}
use Rattle.ledger_reg.specs.declared.walk.Span.{Span}
use Rattle.ledger_reg.specs.contracts.slots.SlotKeyOrd.TheImpl.{ghosts}
use Rattle.ledger_reg.specs.Sides.{no_amounts, amounts_size}
use Rattle.ledger_reg.specs.Slots.{SlotPlace, SlotAmounts, slot_cmp, slot_in, slots_in}
use Rattle.ledger_reg.specs.Slots.{plus_amounts, slot_amounts, add_slot, add_slots, slot_total}
use Rattle.ledger_reg.specs.Slots.{slot_sums, slots_of, slots_size, SumsSlots, AddsSlots}
use Rattle.ledger_reg.specs.Sizes.{total_size}
use Rattle.ledger_reg.specs.Walks.{Adds}
use Rattle.ledger_reg.proofs.MapLemmas.{added-totals, found-totals, lookup-seen, found-size}
use Rattle.ledger_reg.proofs.MapLemmas.{insert-seen, insert-size, size-seen}
use Rattle.ledger_reg.proofs.SideLemmas.{exact_lists, then-Equal, zero_first}
use Rattle.ledger_reg.proofs.SizeLemmas.{size-plus}

-- ---- the order of places

pub slot_cmp_total : IsTotalOrder slot_cmp
slot_cmp_total =
    then_total (on_total (λ (p : SlotPlace). p.account) nat_list_cmp_total)
    (then_total (on_total (λ (p : SlotPlace). p.extras) (lists_total nat_list_cmp_total))
    (on_total (λ (p : SlotPlace). p.slot) nat_cmp_total))

exact_number : (m n : ℕ) → nat_cmp m n ≡ Equal → m ≡ n
exact_number m n h = grind (arith, Rattle.std.proofs.lemmas.Bool.Decides.nat_tests)

pub slot_cmp_exact : CmpEqualImpliesEq slot_cmp
slot_cmp_exact p q h =
    let parts = then-Equal (slice_cmp nat_cmp p.account q.account)
    (ordering_then (slice_cmp (slice_cmp nat_cmp) p.extras q.extras) (nat_cmp p.slot q.slot)) h in
    let others = then-Equal (slice_cmp (slice_cmp nat_cmp) p.extras q.extras)
    (nat_cmp p.slot q.slot) parts.1 in
    let account = exact_bytes p.account q.account parts.0 in
    let extras = exact_lists (slice_cmp nat_cmp) exact_bytes p.extras q.extras others.0 in
    let slot = exact_number p.slot q.slot others.1 in
    λ i. record { account = account i; extras = extras i; slot = slot i }

-- the order that the code derives is that of places
pub derived-slot_cmp : (x y : SlotKey) → ghosts.cmp x y ≡ slot_cmp (slot_in x) (slot_in y)
derived-slot_cmp x y = refl

pub derived_total : IsTotalOrder ghosts.cmp
derived_total =
    subst (λ (R : SlotKey → SlotKey → Ordering). IsTotalOrder R)
    (sym (λ i. λ x y. derived-slot_cmp x y i)) (on_total slot_in slot_cmp_total)

-- ---- one side more

slot_total-own : (a : SlotAmounts) (more : List SlotAmounts) (p : SlotPlace)
    → is_eq (slot_cmp a.0 p) ≡ true
    → slot_total (a ∷ more) p ≡ plus_amounts a.1 (slot_total more p)
slot_total-own a more p e = λ i. record {
  debit = cond (e i) a.1.debit (pos 0) +ℤ (slot_total more p).debit;
  credit = cond (e i) a.1.credit (pos 0) +ℤ (slot_total more p).credit;
}

slot_total-other : (a : SlotAmounts) (more : List SlotAmounts) (p : SlotPlace)
    → is_eq (slot_cmp a.0 p) ≡ false → slot_total (a ∷ more) p ≡ slot_total more p
slot_total-other a more p e =
    (λ i. record {
      debit = cond (e i) a.1.debit (pos 0) +ℤ (slot_total more p).debit;
      credit = cond (e i) a.1.credit (pos 0) +ℤ (slot_total more p).credit;
    })
    ∙ (λ i. record {
      debit = zero_first (slot_total more p).debit i;
      credit = zero_first (slot_total more p).credit i;
    })

-- what a look-up finds is the sum of what is added there
pub slot_amounts-sums : (added : List SlotAmounts) (p : SlotPlace)
    → slot_amounts p (slot_sums added) ≡ slot_total added p
slot_amounts-sums added p =
    found-totals slot_cmp_total slot_cmp_exact (λ (a : SlotAmounts). a.0) no_amounts
    (λ (a : SlotAmounts). plus_amounts a.1) slot_total (λ q. refl) slot_total-own
    slot_total-other p added

-- the sums of the same amounts in another order
pub slot_sums-permutation : (xs ys : List SlotAmounts) → IsPermutation xs ys
    → slot_sums xs ≡ slot_sums ys
slot_sums-permutation xs ys same =
    λ i. map {B = SlotAmounts} (λ (p : SlotPlace). (p, sums p i))
    (in_order_once-permutation slot_cmp_total slot_cmp_exact (map (λ a. a.0) xs)
    (map (λ a. a.0) ys) (IsPermutation-map (λ (a : SlotAmounts). a.0) xs ys same) i)
  where
    sums : (p : SlotPlace) → slot_total xs p ≡ slot_total ys p
    sums p = λ i. record {
      debit = sum_over-permutation
          (λ (a : SlotAmounts). cond (is_eq (slot_cmp a.0 p)) a.1.debit (pos 0)) xs ys same i;
      credit = sum_over-permutation
          (λ (a : SlotAmounts). cond (is_eq (slot_cmp a.0 p)) a.1.credit (pos 0)) xs ys same i;
    }

pub slot_sums-more : (a : SlotAmounts) (added : List SlotAmounts)
    → add_slot (slot_sums added) a ≡ slot_sums (added ++ a ∷ [])
slot_sums-more a added =
    added-totals slot_cmp_total slot_cmp_exact (λ (x : SlotAmounts). x.0) no_amounts
    (λ (x : SlotAmounts). plus_amounts x.1) slot_total (λ p. refl) slot_total-own
    slot_total-other a added
    ∙ slot_sums-permutation (a ∷ added) (added ++ a ∷ [])
    (IsPermutation-append_comm (a ∷ []) added)

-- amounts added to sums are sums
pub add_slots-sums : (added more : List SlotAmounts)
    → add_slots (slot_sums added) more ≡ slot_sums (added ++ more)
add_slots-sums added [] = ap slot_sums (sym (append-nil added))
add_slots-sums added (a ∷ more) =
    ap (λ es. add_slots es more) (slot_sums-more a added)
    ∙ add_slots-sums (added ++ a ∷ []) more
    ∙ ap slot_sums (append_assoc added (a ∷ []) more)

pub add_slots-append : (es xs ys : List SlotAmounts)
    → add_slots es (xs ++ ys) ≡ add_slots (add_slots es xs) ys
add_slots-append es [] ys = refl
add_slots-append es (x ∷ xs) ys = add_slots-append (add_slot es x) xs ys

-- the sums of a place are no larger than all sums together
pub slot_amounts-size : (p : SlotPlace) (es : List (SlotKey × Amounts))
    → amounts_size (slot_amounts p (slots_in es)) ≤ total_size amounts_size es
slot_amounts-size p es = omega (
  arith,
  found-size slot_cmp_total amounts_size no_amounts (λ q. is_eq (slot_cmp p q)) (slots_in es)
      refl,
  size-seen slot_in (λ (v : Amounts). v) amounts_size amounts_size (λ v. refl) es,
)

-- what the code finds
pub found-seen : (key : SlotKey) (es : List (SlotKey × Amounts))
    → unwrap_or (lookup (λ x. is_eq (ghosts.cmp key x)) es) no_amounts
    ≡ slot_amounts (slot_in key) (slots_in es)
found-seen key es =
    lookup-seen slot_in (λ (v : Amounts). v) (λ x. is_eq (ghosts.cmp key x))
    (λ p. is_eq (slot_cmp (slot_in key) p)) (λ x. ap is_eq (derived-slot_cmp key x)) no_amounts es

-- a map with amounts added is no larger than by them
slots-grown : (key : SlotKey) (more : Amounts) (es : List (SlotKey × Amounts))
    → IsStrictlySortedBy ghosts.cmp (keys_of es)
    → total_size amounts_size (insert_entry ghosts.cmp es key
    (plus_amounts more (slot_amounts (slot_in key) (slots_in es))))
    ≤ total_size amounts_size es + amounts_size more
slots-grown key more es rise =
    let at : Amounts = slot_amounts (slot_in key) (slots_in es) in
    let debit = size-plus more.debit at.debit in
    let credit = size-plus more.credit at.credit in
    let same = ap amounts_size (found-seen key es) in
    insert-size derived_total amounts_size no_amounts key (plus_amounts more at)
    (amounts_size more) refl es rise
    (omega (arith, debit, credit, same))

-- amounts that the code adds
pub slot-added : (key : SlotKey) (more : Amounts) (old new : SlotSums)
    → IsStrictlySortedBy ghosts.cmp (keys_of old.sums.entries)
    → new.sums.entries ≡ insert_entry ghosts.cmp old.sums.entries key
    (plus_amounts more (slot_amounts (slot_in key) (slots_in old.sums.entries)))
    → AddsSlots ((slot_in key, more) ∷ []) (amounts_size more) old new
slot-added key more old new rise entries =
    let es : List (SlotKey × Amounts) = old.sums.entries in
    let at : Amounts = slot_amounts (slot_in key) (slots_in es) in
    record {
      value = ap slots_in entries
          ∙ insert-seen slot_in (λ (v : Amounts). v) ghosts.cmp slot_cmp derived-slot_cmp es key
          (plus_amounts more at);
      growth = subst (λ (ms : List (SlotKey × Amounts)). total_size amounts_size ms
          ≤ total_size amounts_size es + amounts_size more) (sym entries)
          (slots-grown key more es rise);
    }

-- no side
pub none-added : (most : ℕ) (s : SlotSums) → AddsSlots [] most s s
none-added most s = record { value = refl; growth = omega arith }

-- ---- all sides of entries

flat_map-push : (f : BookedEntry → List SlotAmounts) (bs : List BookedEntry) (b : BookedEntry)
    → flat_map f bs ++ f b ≡ flat_map f (bs ++ b ∷ [])
flat_map-push f [] b = sym (append-nil (f b))
flat_map-push f (x ∷ xs) b =
    append_assoc (f x) (flat_map f xs) (f b) ∙ ap (λ t. f x ++ t) (flat_map-push f xs b)

-- both sides of an entry
pub both-added : (span : Span) (b : BookedEntry) (xs ys : List SlotAmounts) (m n : ℕ)
    (old mid new : SlotSums) → slots_of span b ≡ xs ++ ys → m + n ≤ 2 ^ 64
    → AddsSlots xs m old mid → AddsSlots ys n mid new
    → Adds (SumsSlots span) slots_size (b ∷ []) old new
both-added span b xs ys m n old mid new same few h k = record {
  sums = λ bs e.
      k.value ∙ ap (λ es. add_slots es ys) h.value
      ∙ sym (add_slots-append (slots_in old.sums.entries) xs ys)
      ∙ ap (λ zs. add_slots (slots_in old.sums.entries) zs) (sym same)
      ∙ ap (λ es. add_slots es (slots_of span b)) e
      ∙ add_slots-sums (flat_map (slots_of span) bs) (slots_of span b)
      ∙ ap slot_sums (flat_map-push (slots_of span) bs b);
  growth = omega (arith, h.growth, k.growth, few);
}

-- the sums of entries in another order
pub sums-permutation : (f : BookedEntry → List SlotAmounts) (xs ys : List BookedEntry)
    → IsPermutation xs ys → slot_sums (flat_map f xs) ≡ slot_sums (flat_map f ys)
sums-permutation f =
    value-permutation (λ bs. slot_sums (flat_map f bs)) more swapped
  where
    behind : (xs ys : List SlotAmounts) → slot_sums (xs ++ ys) ≡ add_slots (slot_sums ys) xs
    behind xs ys =
        slot_sums-permutation (xs ++ ys) (ys ++ xs) (IsPermutation-append_comm xs ys)
        ∙ sym (add_slots-sums ys xs)

    more : (b : BookedEntry) (xs ys : List BookedEntry)
        → slot_sums (flat_map f xs) ≡ slot_sums (flat_map f ys)
        → slot_sums (f b ++ flat_map f xs) ≡ slot_sums (f b ++ flat_map f ys)
    more b xs ys h =
        behind (f b) (flat_map f xs) ∙ ap (λ es. add_slots es (f b)) h
        ∙ sym (behind (f b) (flat_map f ys))

    swapped : (a b : BookedEntry) (xs : List BookedEntry)
        → slot_sums (f a ++ (f b ++ flat_map f xs)) ≡ slot_sums (f b ++ (f a ++ flat_map f xs))
    swapped a b xs =
        ap slot_sums (sym (append_assoc (f a) (f b) (flat_map f xs)))
        ∙ slot_sums-permutation ((f a ++ f b) ++ flat_map f xs) ((f b ++ f a) ++ flat_map f xs)
        (IsPermutation-append_left (flat_map f xs) (f a ++ f b) (f b ++ f a)
        (IsPermutation-append_comm (f a) (f b)))
        ∙ ap slot_sums (append_assoc (f b) (f a) (flat_map f xs))
