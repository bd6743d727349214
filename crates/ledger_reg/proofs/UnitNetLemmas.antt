-- The net of an account before a unit, day by day, and what it moves in one.
use Rattle.std.proofs.Common.{◌≡◌, ℕ, ◌+◌, ◌*◌, ◌/◌, ◌<◌, ◌≤◌, ℤ, pos, ◌+ℤ◌, ◌-ℤ◌, Bool, true}
use Rattle.std.proofs.Common.{false}
use Rattle.std.proofs.Common.{cond, ◌&&◌, ◌||◌, nat_lt, nat_le, max, inl, inr, Option, Some, None}
use Rattle.std.proofs.Common.{List, refl, ap, ◌∙◌, sym, arith}
use Rattle.std.specs.Ordering.{nat_cmp, is_eq}
use Rattle.std.proofs.lemmas.Bool.{cases_lt}
use Rattle.std.proofs.lemmas.Bool.Decides.{nat_tests}
use Rattle.std.proofs.lemmas.Int.{ints}
use Rattle.reg_base.specs.declared.records.Side.{Side}
use Rattle.reg_base.specs.declared.tables.Periodicity.{Periodicity}
use Rattle.reg_base.specs.declared.tables.Range.{Range}
use Rattle.reg_base.specs.BookedEntries.{BookedEntry}
use Rattle.reg_base.specs.Sums.{sum_over}
use Rattle.reg_base.specs.Units.{starts_unit, start_day, unit_start, are_dates}
use Rattle.reg_base.proofs.ForAbove.{unit_start-is, unit_start-monotone}
use Rattle.reg_base.proofs.ForTables.{sum_over-plus}
use Rattle.cfg_model.specs.declared.ledger.Chart.{Chart}
use Rattle.cfg_model.specs.AccountTables.{AccountKey, counts_at, side_amount}
use Rattle.ledger_reg.specs.Slots.{slot_at}
use Rattle.ledger_reg.specs.UnitRows.{net_after, net_of}
use Rattle.ledger_reg.proofs.MovedLemmas.{debit_in, credit_in, moved_at}

-- ---- the slot of an entry, over plain numbers: its date d and the start u of its unit

module _ (d from to u : ℕ) where
  abbrev slot : ℕ
  slot = cond (nat_lt d from || nat_lt to d) 0 (u + 1)

  abbrev counted : Bool
  counted = nat_lt d from || nat_le d to

  pub same-unit : (s : ℕ) → ((nat_le from d && nat_le d to) && is_eq (nat_cmp u s))
      ≡ (is_eq (nat_cmp slot (s + 1)) && counted)
  same-unit s =
      elim (cases_lt d from) [
        | inl lt ↦ grind (arith, nat_tests)
        | inr ge ↦ elim (cases_lt to d) [
          | inl behind ↦ grind (arith, nat_tests)
          | inr within ↦ elim (cases_lt u s) [
            | inl below ↦ grind (arith, nat_tests)
            | inr above ↦ elim (cases_lt s u) [
              | inl over ↦ grind (arith, nat_tests)
              | inr same ↦ grind (arith, nat_tests)
            ]
          ]
        ]
      ]

  pub before-start : (s : ℕ) → s ≤ to → (u < s → d < s) → (d < s → u < s)
      → nat_lt d (max from s) ≡ (nat_lt slot (s + 1) && counted)
  before-start s last there back =
      elim (cases_lt d from) [
        | inl lt ↦ grind (arith, nat_tests)
        | inr ge ↦ elim (cases_lt to d) [
          | inl behind ↦ grind (arith, nat_tests)
          | inr within ↦ elim (cases_lt d s) [
            | inl lt ↦ let lower = back lt in grind (arith, nat_tests)
            | inr above ↦
                let higher : s ≤ u = elim (cases_lt u s) [
                  | inl lower ↦ absurd (omega (arith, there lower))
                  | inr le ↦ le
                ] in
                grind (arith, nat_tests)
          ]
        ]
      ]

  pub before-range : nat_lt d from ≡ (is_eq (nat_cmp slot 0) && counted)
  before-range =
      elim (cases_lt d from) [
        | inl lt ↦ grind (arith, nat_tests)
        | inr ge ↦ elim (cases_lt to d) [
          | inl behind ↦ grind (arith, nat_tests)
          | inr within ↦ grind (arith, nat_tests)
        ]
      ]

  pub first-slot : (m : ℕ) → (from ≤ d → m ≤ u)
      → is_eq (nat_cmp slot 0) ≡ nat_lt slot (m + 1)
  first-slot m above =
      elim (cases_lt d from) [
        | inl lt ↦ grind (arith, nat_tests)
        | inr ge ↦ let over = above ge in elim (cases_lt to d) [
          | inl behind ↦ grind (arith, nat_tests)
          | inr within ↦ grind (arith, nat_tests)
        ]
      ]

  -- a slot before the next day is one before this day, or that of this day
  pub next-day : (k day : ℕ) → u ≡ 86_400 * k
      → nat_lt slot (86_400 * (day + 1) + 1)
      ≡ (nat_lt slot (86_400 * day + 1) || is_eq (nat_cmp slot (86_400 * day + 1)))
  next-day k day is =
      at (nat_lt d from || nat_lt to d)
    where
      at : (b : Bool) → nat_lt (cond b 0 (u + 1)) (86_400 * (day + 1) + 1)
          ≡ (nat_lt (cond b 0 (u + 1)) (86_400 * day + 1)
          || is_eq (nat_cmp (cond b 0 (u + 1)) (86_400 * day + 1)))
      at true = grind (arith, nat_tests)
      at false = elim (cases_lt k day) [
        | inl below ↦ grind (arith, nat_tests)
        | inr above ↦ elim (cases_lt day k) [
          | inl over ↦ grind (arith, nat_tests)
          | inr same ↦ grind (arith, nat_tests)
        ]
      ]

  pub not-both : (n : ℕ) → nat_lt slot n ≡ true → is_eq (nat_cmp slot n) ≡ false
  not-both n lt = grind (arith, nat_tests)

  -- no slot is that of a day on which no unit starts
  pub other-day : (k day : ℕ) → u ≡ 86_400 * k → (k ≡ day → ⊥)
      → is_eq (nat_cmp slot (86_400 * day + 1)) ≡ false
  other-day k day is differ =
      at (nat_lt d from || nat_lt to d)
    where
      at : (b : Bool) → is_eq (nat_cmp (cond b 0 (u + 1)) (86_400 * day + 1)) ≡ false
      at true = grind (arith, nat_tests)
      at false = elim (cases_lt k day) [
        | inl below ↦ grind (arith, nat_tests)
        | inr above ↦ elim (cases_lt day k) [
          | inl over ↦ grind (arith, nat_tests)
          | inr same ↦ absurd (differ (omega (arith, above, same)))
        ]
      ]

-- ---- sums

split-sum : (a b c : Bool) (x : ℤ) → a ≡ (b || c) → (b ≡ true → c ≡ false)
    → cond a x (pos 0) ≡ cond b x (pos 0) +ℤ cond c x (pos 0)
split-sum a true true x is never = let bad : true ≡ false = never refl in cc
split-sum a true false x is never =
    ap (λ t. cond t x (pos 0)) is ∙ omega (arith, ints)
split-sum a false true x is never =
    ap (λ t. cond t x (pos 0)) is ∙ omega (arith, ints)
split-sum a false false x is never = ap (λ t. cond t x (pos 0)) is

or-false : (b : Bool) → (b || false) ≡ b
or-false true = refl
or-false false = refl

pub unit-midnight : (by : Periodicity) (date : ℕ)
    → unit_start by date ≡ 86_400 * start_day by (date / 86_400)
unfolding unit_start
unit-midnight by date = refl

-- a unit that is a date starts on a day of a start
unit-starts : (by : Periodicity) → are_dates by ≡ true → (date : ℕ)
    → starts_unit by (start_day by (date / 86_400)) ≡ true
unit-starts by dates date =
    let start = (unit_start-is by date dates).is_start in
    let number : unit_start by date / 86_400 ≡ start_day by (date / 86_400) =
    omega (arith, unit-midnight by date) in
    sym (ap (starts_unit by) number) ∙ start.starts

module _ (range : Range) (v : BookedEntry → ℤ) (bs : List BookedEntry) where
  -- the sum over what lies in slots below a number
  abbrev pub sum_below : ℕ → ℤ
  sum_below n = sum_over (λ b. cond (nat_lt (slot_at range b.entry.period) n) (v b) (pos 0)) bs

  -- the sum over what lies in a slot
  abbrev pub sum_in : ℕ → ℤ
  sum_in n =
      sum_over (λ b. cond (is_eq (nat_cmp (slot_at range b.entry.period) n)) (v b) (pos 0)) bs

  sum-next : (day : ℕ) → sum_below (86_400 * (day + 1) + 1)
      ≡ sum_below (86_400 * day + 1) +ℤ sum_in (86_400 * day + 1)
  sum-next day =
      (λ i. sum_over (λ b. split-sum
      (nat_lt (slot_at range b.entry.period) (86_400 * (day + 1) + 1))
      (nat_lt (slot_at range b.entry.period) (86_400 * day + 1))
      (is_eq (nat_cmp (slot_at range b.entry.period) (86_400 * day + 1))) (v b)
      (next-day b.entry.period range.from range.to (unit_start range.by b.entry.period)
      (start_day range.by (b.entry.period / 86_400)) day (unit-midnight range.by b.entry.period))
      (not-both b.entry.period range.from range.to (unit_start range.by b.entry.period)
      (86_400 * day + 1)) i) bs)
      ∙ sum_over-plus
      (λ b. cond (nat_lt (slot_at range b.entry.period) (86_400 * day + 1)) (v b) (pos 0))
      (λ b. cond (is_eq (nat_cmp (slot_at range b.entry.period) (86_400 * day + 1))) (v b) (pos 0))
      bs

  sum-skip : are_dates range.by ≡ true → (day : ℕ) → starts_unit range.by day ≡ false
      → sum_below (86_400 * day + 1) ≡ sum_below (86_400 * (day + 1) + 1)
  sum-skip dates day none =
      λ i. sum_over (λ b. cond (sym (same b) i) (v b) (pos 0)) bs
    where
      same : (b : BookedEntry) → nat_lt (slot_at range b.entry.period) (86_400 * (day + 1) + 1)
          ≡ nat_lt (slot_at range b.entry.period) (86_400 * day + 1)
      same b =
          let k = start_day range.by (b.entry.period / 86_400) in
          let u = unit_start range.by b.entry.period in
          let is = unit-midnight range.by b.entry.period in
          next-day b.entry.period range.from range.to u k day is
          ∙ ap (λ c. nat_lt (slot_at range b.entry.period) (86_400 * day + 1) || c)
          (other-day b.entry.period range.from range.to u k day is
          (λ e. let starts : true ≡ false = sym (unit-starts range.by dates b.entry.period)
          ∙ ap (starts_unit range.by) e ∙ none in absurd (cc)))
          ∙ or-false (nat_lt (slot_at range b.entry.period) (86_400 * day + 1))

  sum-first : (first : ℕ) → unit_start range.by range.from ≡ 86_400 * first
      → sum_in 0 ≡ sum_below (86_400 * first + 1)
  sum-first first is =
      λ i. sum_over (λ b. cond (same b i) (v b) (pos 0)) bs
    where
      same : (b : BookedEntry) → is_eq (nat_cmp (slot_at range b.entry.period) 0)
          ≡ nat_lt (slot_at range b.entry.period) (86_400 * first + 1)
      same b = first-slot b.entry.period range.from range.to (unit_start range.by b.entry.period)
          (86_400 * first) (λ le. omega (
            arith,
            is,
            unit_start-monotone range.by range.from b.entry.period le,
          ))

-- the net before a day
module _ (chart : Chart) (key : AccountKey) (range : Range) (bs : List BookedEntry) where
  abbrev pub net_below : ℕ → ℤ
  net_below day = sum_below range (debit_in chart key range) bs (86_400 * day + 1)
      -ℤ sum_below range (credit_in chart key range) bs (86_400 * day + 1)

  pub net-next : (day : ℕ)
      → net_after (net_below day) (moved_at chart key range bs (86_400 * day + 1))
      ≡ net_below (day + 1)
  net-next day =
      let debit = sum-next range (debit_in chart key range) bs day in
      let credit = sum-next range (credit_in chart key range) bs day in
      omega (arith, ints, debit, credit)

  pub net-skip : are_dates range.by ≡ true → (day : ℕ) → starts_unit range.by day ≡ false
      → net_below day ≡ net_below (day + 1)
  net-skip dates day none = λ i.
      sum-skip range (debit_in chart key range) bs dates day none i
      -ℤ sum-skip range (credit_in chart key range) bs dates day none i

  pub net-first : (first : ℕ) → unit_start range.by range.from ≡ 86_400 * first
      → net_of (moved_at chart key range bs 0) ≡ net_below first
  net-first first is = λ i.
      sum-first range (debit_in chart key range) bs first is i
      -ℤ sum-first range (credit_in chart key range) bs first is i

-- the amount of a side, where it counts
pub limited-side : (chart : Chart) (key : AccountKey) (side : Option Side) (t : Bool) (a : ℤ)
    → side_amount chart key side (cond t a (pos 0))
    ≡ cond t (side_amount chart key side a) (pos 0)
limited-side chart key None true a = refl
limited-side chart key None false a = refl
limited-side chart key (Some side) true a = refl
limited-side chart key (Some side) false a = at (counts_at chart key side)
  where
    at : (b : Bool) → cond b (pos 0) (pos 0) ≡ pos 0
    at true = refl
    at false = refl
