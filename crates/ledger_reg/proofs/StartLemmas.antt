-- The starts of the units of a range, day by day.
use Rattle.std.proofs.Common.{◌≡◌, ℕ, zero, suc, ◌+◌, ◌-◌, ◌*◌, ◌/◌, ◌<◌, ◌≤◌, Bool, true, false}
use Rattle.std.proofs.Common.{cond, List, [], ◌∷◌, ◌++◌, map, length, refl, ap, sym, ◌∙◌, arith}
use Rattle.std.specs.List.{filter, range_with_len}
use Rattle.std.proofs.lemmas.List.{append-nil, length-map}
use Rattle.reg_base.specs.declared.tables.Periodicity.{Periodicity}
use Rattle.reg_base.specs.declared.tables.Periodicity.TheVariants.{Record, Recorder}
use Rattle.reg_base.specs.Units.{midnight, starts_unit, start_day, unit_start, starts_between}
use Rattle.reg_base.specs.Units.{are_dates, IsStart}
use Rattle.reg_base.proofs.ForAbove.{unit_start-is, unit_start-le, unit_start-greatest}

-- the days that pass a test, from a day to an end
abbrev pub days_to : (ℕ → Bool) → ℕ → ℕ → List ℕ
days_to test end day = filter test (range_with_len day (end - day))

days-step : (test : ℕ → Bool) (day count : ℕ)
    → filter test (range_with_len day (suc count))
    ≡ filter test (day ∷ []) ++ filter test (range_with_len (day + 1) count)
days-step test day count = at (test day)
  where
    at : (b : Bool) → cond b (day ∷ filter test (range_with_len (day + 1) count))
        (filter test (range_with_len (day + 1) count))
        ≡ cond b (day ∷ []) [] ++ filter test (range_with_len (day + 1) count)
    at true = refl
    at false = refl

pub days_to-next : (test : ℕ → Bool) (end day : ℕ) → day < end
    → days_to test end day ≡ filter test (day ∷ []) ++ days_to test end (day + 1)
days_to-next test end day lt =
    let more : end - day ≡ suc (end - (day + 1)) = omega arith in
    ap (λ n. filter test (range_with_len day n)) more ∙ days-step test day (end - (day + 1))

pub days_to-end : (test : ℕ → Bool) (end day : ℕ) → end ≤ day → days_to test end day ≡ []
days_to-end test end day ge =
    let none : end - day ≡ 0 = omega arith in
    ap (λ n. filter test (range_with_len day n)) none

-- the starts of a range are the days to its last one
pub starts-days : (by : Periodicity) (from to : ℕ)
    → starts_between by from to
    ≡ map midnight (days_to (starts_unit by) (to / 86_400 + 1) (unit_start by from / 86_400))
unfolding starts_between unit_start
starts-days by from to =
    let first : 86_400 * start_day by (from / 86_400) / 86_400 ≡ start_day by (from / 86_400) =
    omega arith in
    sym (ap (λ n. map midnight (days_to (starts_unit by) (to / 86_400 + 1) n)) first)

-- nothing is left of them behind the last day
pub starts-last : (by : Periodicity) (from to day : ℕ) (starts : List ℕ) → to / 86_400 + 1 ≤ day
    → starts ++ map midnight (days_to (starts_unit by) (to / 86_400 + 1) day)
    ≡ starts_between by from to
    → starts ≡ starts_between by from to
starts-last by from to day starts ge left =
    sym (append-nil starts)
    ∙ ap (λ ds. starts ++ map midnight ds)
    (sym (days_to-end (starts_unit by) (to / 86_400 + 1) day ge))
    ∙ left

short-filter : (test : ℕ → Bool) (xs : List ℕ) → length (filter test xs) ≤ length xs
short-filter test [] = omega arith
short-filter test (x ∷ xs) = at (test x) (short-filter test xs)
  where
    at : (b : Bool) → length (filter test xs) ≤ length xs
        → length (cond {A = List ℕ} b (x ∷ filter test xs) (filter test xs)) ≤ suc (length xs)
    at true h = omega (arith, h)
    at false h = omega (arith, h)

length-range : (day count : ℕ) → length (range_with_len day count) ≡ count
length-range day zero = refl
length-range day (suc count) = ap suc (length-range (day + 1) count)

-- there are no more starts than days
pub starts-few : (by : Periodicity) (from to : ℕ) → to < 3_155_760_000
    → length (starts_between by from to) ≤ 36_525
starts-few by from to within =
    let day = unit_start by from / 86_400 in
    let end = to / 86_400 + 1 in
    omega (
      arith,
      ap {B = ℕ} length (starts-days by from to),
      length-map (days_to (starts_unit by) end day) midnight,
      short-filter (starts_unit by) (range_with_len day (end - day)),
      length-range day (end - day),
    )

-- a day whose first second is the start of its own unit
pub starts-here : (by : Periodicity) (day date : ℕ) → date ≡ 86_400 * day → are_dates by ≡ true
    → unit_start by date ≡ date → starts_unit by day ≡ true
starts-here by day date is dates same =
    let start = (unit_start-is by date dates).is_start in
    let number : unit_start by date / 86_400 ≡ day = omega (arith, is, same) in
    sym (ap (starts_unit by) number) ∙ start.starts

-- a day on which a unit starts
pub starts-same : (by : Periodicity) (day date : ℕ) → date ≡ 86_400 * day
    → starts_unit by day ≡ true → unit_start by date ≡ date
starts-same by day date is starts =
    let number : date / 86_400 ≡ day = omega (arith, is) in
    let start : IsStart by date = record {
      first_second = omega (arith, is);
      starts = ap (starts_unit by) number ∙ starts;
    } in
    omega (
      arith,
      unit_start-le by date,
      unit_start-greatest by date date start (omega arith),
    )

never : (test : ℕ → Bool) → ((n : ℕ) → test n ≡ false) → (day count : ℕ)
    → filter test (range_with_len day count) ≡ []
never test none day zero = refl
never test none day (suc count) =
    ap (λ b. cond b (day ∷ filter test (range_with_len (day + 1) count))
    (filter test (range_with_len (day + 1) count))) (none day)
    ∙ never test none (day + 1) count

-- what has no units has no starts
pub starts-none : (by : Periodicity) → ((day : ℕ) → starts_unit by day ≡ false) → (from to : ℕ)
    → starts_between by from to ≡ []
unfolding starts_between
starts-none by none from to =
    let first = start_day by (from / 86_400) in
    ap (map midnight) (never (starts_unit by) none first (to / 86_400 + 1 - first))

pub starts-Record : (day : ℕ) → starts_unit Record day ≡ false
unfolding starts_unit
starts-Record day = refl

pub starts-Recorder : (day : ℕ) → starts_unit Recorder day ≡ false
unfolding starts_unit
starts-Recorder day = refl
