-- The starts between two dates, one after the other.
use Rattle.std.proofs.Common.{◌≡◌, ℕ, zero, suc, ◌+◌, ◌-◌, ◌*◌, ◌/◌, ◌<◌, ◌≤◌, Bool, true, false}
use Rattle.std.proofs.Common.{cond, inl, inr, Some, None, List, [], ◌∷◌, map, ap, sym, ◌∙◌}
use Rattle.std.proofs.Common.{arith}
use Rattle.std.specs.List.{filter, range_with_len}
use Rattle.std.proofs.lemmas.Bool.{cases_lt, false_from_ne_true}
use Rattle.reg_base.specs.declared.tables.Periodicity.{Periodicity}
use Rattle.reg_base.specs.Units.{midnight, starts_unit, start_day, unit_start, next_unit}
use Rattle.reg_base.specs.Units.{starts_between, are_dates, IsStart}
use Rattle.reg_base.proofs.UnitLemmas.{start_day-here, start_day-starts}
use Rattle.reg_base.proofs.UnitLaws.{whole_days, IsStart-midnight, next_unit-is, next_unit-None}

module _ (test : ℕ → Bool) where
  -- the numbers up to an end that pass
  abbrev passing : ℕ → ℕ → List ℕ
  passing end from = filter test (range_with_len from (end - from))

  passing-here : (end from : ℕ) → from < end → test from ≡ true
      → passing end from ≡ from ∷ passing end (from + 1)
  passing-here end from lt pass =
      let more : end - from ≡ suc (end - (from + 1)) = omega arith in
      ap (λ n. filter test (range_with_len from n)) more
      ∙ ap (λ b. cond b (from ∷ passing end (from + 1)) (passing end (from + 1))) pass

  passing-none : (end from : ℕ) → end ≤ from → passing end from ≡ []
  passing-none end from ge =
      let none : end - from ≡ 0 = omega arith in
      ap (λ n. filter test (range_with_len from n)) none

  -- where none of the next numbers passes, they may be left out
  passing-skip : (k end from to : ℕ) → to ≡ from + k
      → ((n : ℕ) → from ≤ n → n < to → test n ≡ false) → passing end from ≡ passing end to
  passing-skip zero end from to same none =
      let here : from ≡ to = omega arith in ap (passing end) here
  passing-skip (suc k) end from to same none =
      elim (cases_lt from end) [
        | inl lt ↦
            let more : end - from ≡ suc (end - (from + 1)) = omega arith in
            ap (λ n. filter test (range_with_len from n)) more
            ∙ ap (λ b. cond b (from ∷ passing end (from + 1)) (passing end (from + 1)))
            (none from (omega arith) (omega arith))
            ∙ passing-skip k end (from + 1) to (omega arith)
            (λ n ge lt. none n (omega arith) lt)
        | inr ge ↦ passing-none end from ge ∙ sym (passing-none end to (omega arith))
      ]

days_lt : (to start : ℕ) → 86_400 * (start / 86_400) ≡ start → to < start
    → to / 86_400 + 1 ≤ start / 86_400
days_lt to start whole lt = omega arith

days_le : (to start : ℕ) → 86_400 * (start / 86_400) ≡ start → start ≤ to
    → start / 86_400 < to / 86_400 + 1
days_le to start whole le = omega arith

above_start : (start day : ℕ) → 86_400 * (start / 86_400) ≡ start → start / 86_400 < day
    → start < 86_400 * day
above_start start day whole lt = omega arith

below_day : (next day : ℕ) → 86_400 * (next / 86_400) ≡ next → day < next / 86_400
    → 86_400 * day < next
below_day next day whole lt = omega arith

next_day_later : (start next : ℕ) → 86_400 * (start / 86_400) ≡ start
    → 86_400 * (next / 86_400) ≡ next → start < next → start / 86_400 + 1 ≤ next / 86_400
next_day_later start next whole_start whole_next lt = omega arith

before_end : (day to : ℕ) → to < 3_155_760_000 → day < to / 86_400 + 1
    → 3_155_760_000 ≤ 86_400 * day → ⊥
before_end day to within lt late = omega arith

module _ (by : Periodicity) where
  -- the starts from a start on are those of days
  starts_between-days : (start to : ℕ) → IsStart by start → starts_between by start to
      ≡ map midnight (passing (starts_unit by) (to / 86_400 + 1) (start / 86_400))
  unfolding starts_between
  starts_between-days start to is =
      ap (λ first. map midnight
      (filter (starts_unit by) (range_with_len first (to / 86_400 + 1 - first))))
      (start_day-here by (start / 86_400) is.starts)

  -- they are those from the start of the first date's unit on
  pub starts_between-first : (from to : ℕ) → are_dates by ≡ true
      → starts_between by from to ≡ starts_between by (unit_start by from) to
  unfolding starts_between unit_start
  starts_between-first from to dates =
      let day = start_day by (from / 86_400) in
      ap (λ first. map midnight
      (filter (starts_unit by) (range_with_len first (to / 86_400 + 1 - first))))
      (sym (ap (start_day by) (whole_days day)
      ∙ start_day-here by day (start_day-starts by dates (from / 86_400))))

  -- none behind the end
  pub starts_between-none : (start to : ℕ) → IsStart by start → to < start
      → starts_between by start to ≡ []
  starts_between-none start to is lt =
      starts_between-days start to is
      ∙ ap (map midnight)
      (passing-none (starts_unit by) (to / 86_400 + 1) (start / 86_400)
      (days_lt to start is.first_second lt))

  -- a start up to the end, and then those from the next one on
  pub starts_between-next : (start to next : ℕ) → IsStart by start → start ≤ to
      → next_unit by start ≡ Some next
      → starts_between by start to ≡ start ∷ starts_between by next to
  starts_between-next start to next is le found =
      let n = next_unit-is by start next found in
      let day = start / 86_400 in
      let end = to / 86_400 + 1 in
      let later : day + 1 ≤ next / 86_400 =
      next_day_later start next is.first_second n.is_start.first_second n.above in
      starts_between-days start to is
      ∙ ap (map midnight)
      (passing-here (starts_unit by) end day (days_le to start is.first_second le) is.starts
      ∙ ap (λ days. day ∷ days)
      (passing-skip (starts_unit by) (next / 86_400 - (day + 1)) end (day + 1) (next / 86_400)
      (omega arith)
      (λ other ge lt. false_from_ne_true (starts_unit by other) (λ starts.
      let least = n.least (midnight other) (IsStart-midnight by other starts)
      (above_start start other is.first_second (omega arith)) in
      absurd (omega (arith, below_day next other n.is_start.first_second lt))))))
      ∙ ap (λ date. date ∷ map midnight (passing (starts_unit by) end (next / 86_400)))
      is.first_second
      ∙ ap (λ dates. start ∷ dates) (sym (starts_between-days next to n.is_start))

  -- the last start before 2100
  pub starts_between-last : (start to : ℕ) → IsStart by start → start ≤ to
      → to < 3_155_760_000 → next_unit by start ≡ None
      → starts_between by start to ≡ start ∷ []
  starts_between-last start to is le within none =
      let last = (next_unit-None by start).0 none in
      let day = start / 86_400 in
      let end = to / 86_400 + 1 in
      let here = days_le to start is.first_second le in
      starts_between-days start to is
      ∙ ap (map midnight)
      (passing-here (starts_unit by) end day here is.starts
      ∙ ap (λ days. day ∷ days)
      (passing-skip (starts_unit by) (end - (day + 1)) end (day + 1) end (omega arith)
      (λ other ge lt. false_from_ne_true (starts_unit by other) (λ starts.
      let late = last (midnight other) (IsStart-midnight by other starts)
      (above_start start other is.first_second (omega arith)) in
      absurd (before_end other to within lt late)))
      ∙ passing-none (starts_unit by) end end (omega arith)))
      ∙ ap (λ date. date ∷ []) is.first_second
