-- What an account, or an account with extras, has in a slot is a sum over entries.
use Rattle.std.proofs.Common.{◌≡◌, ℕ, ◌≤◌, ℤ, pos, ◌+ℤ◌, Bool, true, false, cond, ◌&&◌, Option}
use Rattle.std.proofs.Common.{Some, None, List, [], ◌∷◌, ◌++◌, map, refl, ap, ◌∙◌, sym, arith}
use Rattle.std.specs.List.{flat_map}
use Rattle.std.specs.Cmp.{IsTotalOrder}
use Rattle.std.specs.Cmp.Lexicographic.{slice_cmp}
use Rattle.std.specs.Ordering.{nat_cmp, ordering_then, ordering_reverse, is_eq}
use Rattle.std.specs.Str.{bytes_eq}
use Rattle.std.specs.declared.cmp.Ordering.{Ordering}
use Rattle.std.specs.declared.cmp.Ordering.TheVariants.{Less, Equal, Greater}
use Rattle.std.proofs.lemmas.Int.{ints}
use Rattle.std.proofs.lemmas.Map.Text.{is_eq-slice_cmp}
use Rattle.reg_base.specs.declared.records.Side.{Side}
use Rattle.reg_base.specs.declared.tables.Range.{Range}
use Rattle.reg_base.specs.BookedEntries.{BookedEntry}
use Rattle.reg_base.specs.Sums.{sum_over, in_order_once}
use Rattle.reg_base.proofs.ForTables.{sum_over-append, sum_over-map, sum_over-same, sum_over-cond}
use Rattle.reg_base.proofs.ForTables.{sum_over-partition}
use Rattle.cfg_model.specs.declared.ledger.Chart.{Chart}
use Rattle.cfg_model.specs.AccountTables.{AccountKey, is_at_or_below, counts_at, side_amount}
use Rattle.ledger_reg.specs.declared.sides.Amounts.{Amounts}
use Rattle.ledger_reg.specs.declared.slots.SlotKey.{SlotKey}
use Rattle.ledger_reg.specs.Sides.{SidePlace, amounts_size}
use Rattle.ledger_reg.specs.Sizes.{total_size}
use Rattle.ledger_reg.specs.Slots.{SlotPlace, SlotAmounts, slot_cmp, slot_side, slots_in, slot_at}
use Rattle.ledger_reg.specs.Slots.{slot_total, slot_sums, amount_to, as_debit, as_credit}
use Rattle.ledger_reg.specs.UnitRows.{in_slot, rolled_at, own_sums}
use Rattle.ledger_reg.proofs.SideLemmas.{zero_first}
use Rattle.ledger_reg.proofs.SlotLemmas.{slot_amounts-size, slot_amounts-sums, slot_cmp_total}
use Rattle.ledger_reg.proofs.SlotLemmas.{slot_cmp_exact}

-- the sums in a slot are no larger than all together
pub in_slot-size : (place : SidePlace) (slot : ℕ) (es : List (SlotKey × Amounts))
    → amounts_size (in_slot (slots_in es) place slot) ≤ total_size amounts_size es
in_slot-size place slot es = slot_amounts-size
    (record { account = place.account; extras = place.extras; slot = slot }) es

-- what both sides of an entry add at the slot of its date in a range
abbrev pub range_slots : Range → BookedEntry → List SlotAmounts
range_slots range b = slot_side (slot_at range b.entry.period) b.entry.debit
    (as_debit (amount_to range b.entry.period b.entry.amount))
    ++ slot_side (slot_at range b.entry.period) b.entry.credit
    (as_credit (amount_to range b.entry.period b.entry.amount))

-- ---- tests

zero_last : (n : ℤ) → n +ℤ pos 0 ≡ n
zero_last n = omega (arith, ints)

is_eq-then : (a b : Ordering) → is_eq (ordering_then a b) ≡ (is_eq a && is_eq b)
is_eq-then Less b = refl
is_eq-then Equal b = refl
is_eq-then Greater b = refl

and-assoc : (a b c : Bool) → (a && (b && c)) ≡ ((a && b) && c)
and-assoc true b c = refl
and-assoc false b c = refl

pub cond-and : (a b : Bool) (x : ℤ) → cond a (cond b x (pos 0)) (pos 0) ≡ cond (a && b) x (pos 0)
cond-and true b x = refl
cond-and false b x = refl

cond-swap : (a b : Bool) (x : ℤ)
    → cond a (cond b x (pos 0)) (pos 0) ≡ cond b (cond a x (pos 0)) (pos 0)
cond-swap true b x = refl
cond-swap false true x = refl
cond-swap false false x = refl

cond-zero : (a : Bool) → cond a (pos 0) (pos 0) ≡ pos 0
cond-zero true = refl
cond-zero false = refl

turned-Equal : (r : Ordering) → r ≡ ordering_reverse r → is_eq r ≡ true
turned-Equal Less h = cc
turned-Equal Equal h = refl
turned-Equal Greater h = cc

self-Equal : {K : Type 0} {R : K → K → Ordering} → IsTotalOrder R → (k : K) → is_eq (R k k) ≡ true
self-Equal {K} {R} o k = turned-Equal (R k k) (o.antisymm k k)

pub sum_over-flat_map : {X Y : Type 0} (f : Y → ℤ) (g : X → List Y) (xs : List X)
    → sum_over f (flat_map g xs) ≡ sum_over (λ x. sum_over f (g x)) xs
sum_over-flat_map f g [] = refl
sum_over-flat_map f g (x ∷ xs) =
    sum_over-append f (g x) (flat_map g xs)
    ∙ ap (λ t. sum_over f (g x) +ℤ t) (sum_over-flat_map f g xs)

-- a place as a side
abbrev pub side_at : SlotPlace → Side
side_at q = record { account = q.account; extras = q.extras }

-- the same sum in each column
module _ (col : Amounts → ℤ) where
  -- what is added at a slot under a key
  abbrev pub added_at : Chart → AccountKey → ℕ → SlotAmounts → ℤ
  added_at chart key n a =
      cond (counts_at chart key (side_at a.0) && is_eq (nat_cmp a.0.slot n)) (col a.1) (pos 0)

  abbrev pub total_at : SlotPlace → List SlotAmounts → ℤ
  total_at q added = sum_over (λ a. cond (is_eq (slot_cmp a.0 q)) (col a.1) (pos 0)) added

  -- ---- an account with extras

  exact-test : (chart : Chart) (place : SidePlace) (n : ℕ) (q : SlotPlace)
      → is_eq (slot_cmp q (record { account = place.account; extras = place.extras; slot = n }))
      ≡ (counts_at chart (record { account = place.account; extras = Some place.extras })
      (side_at q) && is_eq (nat_cmp q.slot n))
  exact-test chart place n q =
      let account = slice_cmp nat_cmp q.account place.account in
      let extras = slice_cmp (slice_cmp nat_cmp) q.extras place.extras in
      let slot = nat_cmp q.slot n in
      is_eq-then account (ordering_then extras slot)
      ∙ ap (λ b. is_eq account && b) (is_eq-then extras slot)
      ∙ and-assoc (is_eq account) (is_eq extras) (is_eq slot)
      ∙ ap (λ b. (b && is_eq extras) && is_eq slot) (is_eq-slice_cmp q.account place.account)

  pub exact-total : (chart : Chart) (place : SidePlace) (n : ℕ) (added : List SlotAmounts)
      → total_at (record { account = place.account; extras = place.extras; slot = n }) added
      ≡ sum_over (added_at chart (record { account = place.account; extras = Some place.extras }) n)
      added
  exact-total chart place n added =
      λ i. sum_over (λ a. cond (exact-test chart place n a.0 i) (col a.1) (pos 0)) added

  -- ---- an account with those below it

  same-top : (top : List ℕ) (slot n : ℕ)
      → is_eq (slot_cmp (record { account = top; extras = []; slot = slot })
      (record { account = top; extras = []; slot = n })) ≡ is_eq (nat_cmp slot n)
  same-top top slot n =
      is_eq-then (slice_cmp nat_cmp top top) (nat_cmp slot n)
      ∙ ap (λ b. b && is_eq (nat_cmp slot n))
      (self-Equal Rattle.std.specs.Cmp.Lexicographic.nat_list_cmp_total top)

  rolled-one : (chart : Chart) (top : List ℕ) (n : ℕ) (e : SlotAmounts)
      → total_at (record { account = top; extras = []; slot = n }) (rolled_at chart top e)
      ≡ added_at chart (record { account = top; extras = None }) n e
  rolled-one chart top n e = at (is_at_or_below chart top e.0.account)
    where
      at : (b : Bool)
          → total_at (record { account = top; extras = []; slot = n })
          (cond {A = List SlotAmounts} b
          ((record { account = top; extras = []; slot = e.0.slot }, e.1) ∷ []) [])
          ≡ cond (b && is_eq (nat_cmp e.0.slot n)) (col e.1) (pos 0)
      at true = zero_last _ ∙ ap (λ b. cond b (col e.1) (pos 0)) (same-top top e.0.slot n)
      at false = refl

  pub rolled-total : (chart : Chart) (top : List ℕ) (n : ℕ) (es : List SlotAmounts)
      → total_at (record { account = top; extras = []; slot = n })
      (flat_map (rolled_at chart top) es)
      ≡ sum_over (added_at chart (record { account = top; extras = None }) n) es
  rolled-total chart top n es =
      sum_over-flat_map
      (λ (a : SlotAmounts). cond (is_eq (slot_cmp a.0
      (record { account = top; extras = []; slot = n }))) (col a.1) (pos 0))
      (rolled_at chart top) es
      ∙ (λ i. sum_over (λ e. rolled-one chart top n e i) es)

  -- sums by place come to what was added
  module _ (split : (added : List SlotAmounts) (q : SlotPlace)
      → col (slot_total added q) ≡ total_at q added) where
    pub grouped-total : (chart : Chart) (key : AccountKey) (n : ℕ) (added : List SlotAmounts)
        → sum_over (added_at chart key n) (slot_sums added) ≡ sum_over (added_at chart key n) added
    grouped-total chart key n added =
        sum_over-map (added_at chart key n) at (in_order_once slot_cmp (map (λ a. a.0) added))
        ∙ sum_over-same (λ q. cond (test q) (col (slot_total added q)) (pos 0))
        (λ q. sum_over (λ a. cond (is_eq (slot_cmp a.0 q)) (own a q) (pos 0)) added) each
        (in_order_once slot_cmp (map (λ a. a.0) added))
        ∙ sum_over-partition slot_cmp_total slot_cmp_exact (λ (a : SlotAmounts). a.0) own added
      where
        at : SlotPlace → SlotAmounts
        at q = (q, slot_total added q)

        test : SlotPlace → Bool
        test q = counts_at chart key (side_at q) && is_eq (nat_cmp q.slot n)

        own : SlotAmounts → SlotPlace → ℤ
        own a q = cond (test q) (col a.1) (pos 0)

        each : (q : SlotPlace) → cond (test q) (col (slot_total added q)) (pos 0)
            ≡ sum_over (λ a. cond (is_eq (slot_cmp a.0 q)) (own a q) (pos 0)) added
        each q =
            ap (λ t. cond (test q) t (pos 0)) (split added q)
            ∙ sum_over-cond (test q)
            (λ (a : SlotAmounts). cond (is_eq (slot_cmp a.0 q)) (col a.1) (pos 0)) added
            ∙ (λ i. sum_over
            (λ (a : SlotAmounts). cond-swap (test q) (is_eq (slot_cmp a.0 q)) (col a.1) i) added)

  -- ---- entries

  -- what a side adds
  side-part : (chart : Chart) (key : AccountKey) (n slot : ℕ) (side : Option Side) (a : Amounts)
      → sum_over (added_at chart key n) (slot_side slot side a)
      ≡ cond (is_eq (nat_cmp slot n)) (side_amount chart key side (col a)) (pos 0)
  side-part chart key n slot None a = sym (cond-zero (is_eq (nat_cmp slot n)))
  side-part chart key n slot (Some side) a =
      zero_last _
      ∙ sym (cond-and (counts_at chart key side) (is_eq (nat_cmp slot n)) (col a))
      ∙ cond-swap (counts_at chart key side) (is_eq (nat_cmp slot n)) (col a)

  abbrev pub parts_at : Chart → AccountKey → ℕ → Range → BookedEntry → ℤ
  parts_at chart key n range b =
      let here = is_eq (nat_cmp (slot_at range b.entry.period) n) in
      let amount = amount_to range b.entry.period b.entry.amount in
      cond here (side_amount chart key b.entry.debit (col (as_debit amount))) (pos 0)
      +ℤ cond here (side_amount chart key b.entry.credit (col (as_credit amount))) (pos 0)

  entry-part : (chart : Chart) (key : AccountKey) (n : ℕ) (range : Range) (b : BookedEntry)
      → sum_over (added_at chart key n) (range_slots range b) ≡ parts_at chart key n range b
  entry-part chart key n range b =
      let slot = slot_at range b.entry.period in
      let amount = amount_to range b.entry.period b.entry.amount in
      sum_over-append (added_at chart key n) (slot_side slot b.entry.debit (as_debit amount))
      (slot_side slot b.entry.credit (as_credit amount))
      ∙ (λ i. side-part chart key n slot b.entry.debit (as_debit amount) i
      +ℤ side-part chart key n slot b.entry.credit (as_credit amount) i)

  pub entries-part : (chart : Chart) (key : AccountKey) (n : ℕ) (range : Range)
      (bs : List BookedEntry)
      → sum_over (added_at chart key n) (flat_map (range_slots range) bs)
      ≡ sum_over (parts_at chart key n range) bs
  entries-part chart key n range bs =
      sum_over-flat_map (added_at chart key n) (range_slots range) bs
      ∙ (λ i. sum_over (λ b. entry-part chart key n range b i) bs)

-- a side that adds nothing
nothing : (chart : Chart) (key : AccountKey) (side : Option Side)
    → side_amount chart key side (pos 0) ≡ pos 0
nothing chart key None = refl
nothing chart key (Some side) = cond-zero (counts_at chart key side)

-- what an entry moves at a slot
abbrev pub debit_in : Chart → AccountKey → Range → BookedEntry → ℤ
debit_in chart key range b =
    side_amount chart key b.entry.debit (amount_to range b.entry.period b.entry.amount)

abbrev pub credit_in : Chart → AccountKey → Range → BookedEntry → ℤ
credit_in chart key range b =
    side_amount chart key b.entry.credit (amount_to range b.entry.period b.entry.amount)

abbrev pub moved_at : Chart → AccountKey → Range → List BookedEntry → ℕ → Amounts
moved_at chart key range bs n = record {
  debit = sum_over (λ b. cond (is_eq (nat_cmp (slot_at range b.entry.period) n))
      (debit_in chart key range b) (pos 0)) bs;
  credit = sum_over (λ b. cond (is_eq (nat_cmp (slot_at range b.entry.period) n))
      (credit_in chart key range b) (pos 0)) bs;
}

debit-parts : (chart : Chart) (key : AccountKey) (n : ℕ) (range : Range) (b : BookedEntry)
    → parts_at (λ a. a.debit) chart key n range b
    ≡ cond (is_eq (nat_cmp (slot_at range b.entry.period) n)) (debit_in chart key range b) (pos 0)
debit-parts chart key n range b =
    let here = is_eq (nat_cmp (slot_at range b.entry.period) n) in
    let own = cond here (debit_in chart key range b) (pos 0) in
    ap (λ t. own +ℤ cond here t (pos 0)) (nothing chart key b.entry.credit)
    ∙ ap (λ t. own +ℤ t) (cond-zero here) ∙ zero_last own

credit-parts : (chart : Chart) (key : AccountKey) (n : ℕ) (range : Range) (b : BookedEntry)
    → parts_at (λ a. a.credit) chart key n range b
    ≡ cond (is_eq (nat_cmp (slot_at range b.entry.period) n)) (credit_in chart key range b) (pos 0)
credit-parts chart key n range b =
    let here = is_eq (nat_cmp (slot_at range b.entry.period) n) in
    let own = cond here (credit_in chart key range b) (pos 0) in
    ap (λ t. cond here t (pos 0) +ℤ own) (nothing chart key b.entry.debit)
    ∙ ap (λ t. t +ℤ own) (cond-zero here) ∙ zero_first own

-- both columns
module _ (chart : Chart) (range : Range) (bs : List BookedEntry) where
  abbrev added : List SlotAmounts
  added = flat_map (range_slots range) bs

  both-columns : (key : AccountKey) (n : ℕ) (a : Amounts)
      → a.debit ≡ sum_over (added_at (λ x. x.debit) chart key n) added
      → a.credit ≡ sum_over (added_at (λ x. x.credit) chart key n) added
      → a ≡ moved_at chart key range bs n
  both-columns key n a d c =
      let debit = d ∙ entries-part (λ x. x.debit) chart key n range bs
      ∙ (λ i. sum_over (λ b. debit-parts chart key n range b i) bs) in
      let credit = c ∙ entries-part (λ x. x.credit) chart key n range bs
      ∙ (λ i. sum_over (λ b. credit-parts chart key n range b i) bs) in
      λ i. record { debit = debit i; credit = credit i }

  -- an account with extras
  pub exact-moved : (place : SidePlace) (n : ℕ)
      → in_slot (own_sums chart true (slot_sums added) place) place n
      ≡ moved_at chart (record { account = place.account; extras = Some place.extras }) range bs n
  exact-moved place n =
      slot_amounts-sums added
      (record { account = place.account; extras = place.extras; slot = n })
      ∙ both-columns (record { account = place.account; extras = Some place.extras }) n
      (slot_total added (record { account = place.account; extras = place.extras; slot = n }))
      (exact-total (λ x. x.debit) chart place n added)
      (exact-total (λ x. x.credit) chart place n added)

  -- an account with those below it
  pub rolled-moved : (top : List ℕ) (n : ℕ)
      → in_slot (own_sums chart false (slot_sums added) (record { account = top; extras = [] }))
      (record { account = top; extras = [] }) n
      ≡ moved_at chart (record { account = top; extras = None }) range bs n
  rolled-moved top n =
      let q : SlotPlace = record { account = top; extras = []; slot = n } in
      slot_amounts-sums (flat_map (rolled_at chart top) (slot_sums added)) q
      ∙ both-columns (record { account = top; extras = None }) n
      (slot_total (flat_map (rolled_at chart top) (slot_sums added)) q)
      (rolled-total (λ x. x.debit) chart top n (slot_sums added)
      ∙ grouped-total (λ x. x.debit) (λ xs p. refl) chart
      (record { account = top; extras = None }) n added)
      (rolled-total (λ x. x.credit) chart top n (slot_sums added)
      ∙ grouped-total (λ x. x.credit) (λ xs p. refl) chart
      (record { account = top; extras = None }) n added)
