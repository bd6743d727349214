-- Private: sums of the sides of entries by account, extras and unit, as a map holds them.
use Rattle.std.specs.Prelude.{◌≡◌, ℕ, ◌+◌, ◌≤◌, ◌||◌, nat_lt, nat_le, ℤ, pos, ◌+ℤ◌, Option}
use Rattle.std.specs.Prelude.{Some, None, if◌then◌else◌, List, [], ◌∷◌, ◌++◌, map, unwrap_or}
use Rattle.std.specs.List.{flat_map}
use Rattle.std.specs.Map.{lookup}
use Rattle.std.specs.BTreeMap.{insert_entry}
use Rattle.std.specs.Ordering.{nat_cmp, ordering_then, is_eq}
use Rattle.std.specs.Cmp.Lexicographic.{slice_cmp}
use Rattle.std.specs.declared.cmp.Ordering.{Ordering}
use Rattle.reg_base.specs.declared.records.Side.{Side}
use Rattle.reg_base.specs.declared.tables.Range.{Range}
use Rattle.reg_base.specs.BookedEntries.{BookedEntry}
use Rattle.reg_base.specs.Sums.{sum_over, in_order_once}
use Rattle.reg_base.specs.Units.{unit_start}
use Rattle.ledger_reg.specs.declared.sides.Amounts.{Amounts}
use Rattle.ledger_reg.specs.declared.slots.SlotKey.{SlotKey}
use Rattle.ledger_reg.specs.declared.slots.SlotSums.{SlotSums}
use Rattle.ledger_reg.specs.declared.walk.Span.{Span}
use Rattle.ledger_reg.specs.declared.walk.Span.TheVariants.{Inside, During, Through}
use Rattle.ledger_reg.specs.Sides.{no_amounts, amounts_size}
use Rattle.ledger_reg.specs.Sizes.{total_size}

-- an account with extras, and the slot of a unit
pub record SlotPlace : Type 0 where
  pub account : List ℕ
  pub extras : List (List ℕ)
  pub slot : ℕ

-- what is added at a place
abbrev pub SlotAmounts : Type 0
SlotAmounts = SlotPlace × Amounts

-- places are in order of account, then extras, then slot
abbrev pub slot_cmp : SlotPlace → SlotPlace → Ordering
slot_cmp p q = ordering_then (slice_cmp nat_cmp p.account q.account) (ordering_then
    (slice_cmp (slice_cmp nat_cmp) p.extras q.extras) (nat_cmp p.slot q.slot))

-- the slot of a date: one more than the start of its unit, and 0 out of the range
abbrev pub slot_at : Range → ℕ → ℕ
slot_at range date = if nat_lt date range.from || nat_lt range.to date then 0
    else unit_start range.by date + 1

-- the amount of an entry, and nothing behind the range
abbrev pub amount_to : Range → ℕ → ℤ → ℤ
amount_to range date amount =
    if nat_lt date range.from || nat_le date range.to then amount else pos 0

-- the slot of a date in a span
abbrev pub slot_of : Span → ℕ → ℕ
slot_of (Inside cut) date = 0
slot_of (During range) date = slot_at range date
slot_of (Through range) date = slot_at range date

-- the amount that an entry of a span adds
abbrev pub amount_in : Span → ℕ → ℤ → ℤ
amount_in (Inside cut) date amount = amount
amount_in (During range) date amount = amount_to range date amount
amount_in (Through range) date amount = amount_to range date amount

-- what a side adds at its slot, where it is there
abbrev pub slot_side : ℕ → Option Side → Amounts → List SlotAmounts
slot_side slot None amounts = []
slot_side slot (Some side) amounts =
    (record { account = side.account; extras = side.extras; slot = slot }, amounts) ∷ []

-- an amount as debit, and as credit
abbrev pub as_debit : ℤ → Amounts
as_debit amount = record { debit = amount; credit = pos 0 }

abbrev pub as_credit : ℤ → Amounts
as_credit amount = record { debit = pos 0; credit = amount }

-- what both sides of an entry add
abbrev pub slots_of : Span → BookedEntry → List SlotAmounts
slots_of span b = slot_side (slot_of span b.entry.period) b.entry.debit
    (as_debit (amount_in span b.entry.period b.entry.amount))
    ++ slot_side (slot_of span b.entry.period) b.entry.credit
    (as_credit (amount_in span b.entry.period b.entry.amount))

-- the place of a key
abbrev pub slot_in : SlotKey → SlotPlace
slot_in key = record { account = key.account; extras = key.extras.items; slot = key.slot }

-- the sums of a map, by place
abbrev pub slots_in : List (SlotKey × Amounts) → List SlotAmounts
slots_in es = map (λ e. (slot_in e.0, e.1)) es

-- amounts added to sums
abbrev pub plus_amounts : Amounts → Amounts → Amounts
plus_amounts a sums = record { debit = a.debit +ℤ sums.debit; credit = a.credit +ℤ sums.credit }

-- the sums of a place in a map, and zeros where none are there
abbrev pub slot_amounts : SlotPlace → List SlotAmounts → Amounts
slot_amounts place es = unwrap_or (lookup (λ p. is_eq (slot_cmp place p)) es) no_amounts

-- amounts added to the sums of their place, one after the other
abbrev pub add_slot : List SlotAmounts → SlotAmounts → List SlotAmounts
add_slot es a = insert_entry slot_cmp es a.0 (plus_amounts a.1 (slot_amounts a.0 es))

abbrev pub add_slots : List SlotAmounts → List SlotAmounts → List SlotAmounts
add_slots es [] = es
add_slots es (a ∷ more) = add_slots (add_slot es a) more

-- the sums at a place
abbrev pub slot_total : List SlotAmounts → SlotPlace → Amounts
slot_total added place = record {
  debit = sum_over (λ a. if is_eq (slot_cmp a.0 place) then a.1.debit else pos 0) added;
  credit = sum_over (λ a. if is_eq (slot_cmp a.0 place) then a.1.credit else pos 0) added;
}

-- the sums at all places, in order
abbrev pub slot_sums : List SlotAmounts → List SlotAmounts
slot_sums added =
    map (λ p. (p, slot_total added p)) (in_order_once slot_cmp (map (λ a. a.0) added))

-- the sums are those of the sides of the entries
abbrev pub SumsSlots : Span → List BookedEntry → SlotSums → Type 0
SumsSlots span entries s =
    slots_in s.sums.entries ≡ slot_sums (flat_map (slots_of span) entries)

-- how large the sums are, all together
abbrev pub slots_size : SlotSums → ℕ
slots_size s = total_size amounts_size s.sums.entries

-- amounts are added, and the sums are larger by so much at the most
pub record AddsSlots (added : List SlotAmounts) (most : ℕ) (old new : SlotSums) : Type 0 where
  pub value : slots_in new.sums.entries ≡ add_slots (slots_in old.sums.entries) added
  pub growth : slots_size new ≤ slots_size old + most
