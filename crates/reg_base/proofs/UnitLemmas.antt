-- Where units start: what the search for the last start finds, and for the next one.
use Rattle.std.proofs.Common.{◌≡◌, ℕ, zero, suc, ◌+◌, ◌-◌, ◌<◌, ◌≤◌, Bool, true, false, cond}
use Rattle.std.proofs.Common.{Option, Some, None, refl, ap, sym, ◌∙◌, arith}
use Rattle.std.proofs.Common.{inl, inr}
use Rattle.std.specs.List.{find, range_with_len}
use Rattle.std.proofs.lemmas.Bool.{cases_lt, both_ways}
use Rattle.reg_base.specs.declared.tables.Periodicity.{Periodicity}
use Rattle.reg_base.specs.declared.tables.Periodicity.TheVariants.{Period, Record, Recorder, Day}
use Rattle.reg_base.specs.declared.tables.Periodicity.TheVariants.{Week, TenDays, Month, Quarter}
use Rattle.reg_base.specs.declared.tables.Periodicity.TheVariants.{HalfYear, Year}
use Rattle.reg_base.specs.Dates.{day_from_year, day_from_month}
use Rattle.reg_base.specs.Units.{starts_unit, start_day, are_dates}

-- on the first day units of each sort start
pub starts_unit-first : (by : Periodicity) → are_dates by ≡ true → starts_unit by 0 ≡ true
unfolding starts_unit day_from_year day_from_month
starts_unit-first Period h = h
starts_unit-first Record h = h
starts_unit-first Recorder h = h
starts_unit-first Day h = refl
starts_unit-first Week h = refl
starts_unit-first TenDays h = refl
starts_unit-first Month h = refl
starts_unit-first Quarter h = refl
starts_unit-first HalfYear h = refl
starts_unit-first Year h = refl

-- units that start are dates
pub starts_unit-are_dates : (by : Periodicity) (day : ℕ) → starts_unit by day ≡ true
    → are_dates by ≡ true
unfolding starts_unit
starts_unit-are_dates Period day h = h
starts_unit-are_dates Record day h = h
starts_unit-are_dates Recorder day h = h
starts_unit-are_dates Day day h = refl
starts_unit-are_dates Week day h = refl
starts_unit-are_dates TenDays day h = refl
starts_unit-are_dates Month day h = refl
starts_unit-are_dates Quarter day h = refl
starts_unit-are_dates HalfYear day h = refl
starts_unit-are_dates Year day h = refl

module _ (by : Periodicity) where
  -- a day on which a unit starts
  pub start_day-here : (day : ℕ) → starts_unit by day ≡ true → start_day by day ≡ day
  unfolding start_day
  start_day-here zero h = refl
  start_day-here (suc day) h = ap (λ b. cond b (suc day) (start_day by day)) h

  -- a day on which none does
  pub start_day-skip : (day : ℕ) → starts_unit by (suc day) ≡ false
      → start_day by (suc day) ≡ start_day by day
  unfolding start_day
  start_day-skip day h = ap (λ b. cond b (suc day) (start_day by day)) h

  pub start_day-le : (day : ℕ) → start_day by day ≤ day
  unfolding start_day
  start_day-le zero = omega arith
  start_day-le (suc day) = at (starts_unit by (suc day)) (start_day-le day)
    where
      at : (b : Bool) → start_day by day ≤ day → cond b (suc day) (start_day by day) ≤ suc day
      at true h = omega arith
      at false h = omega arith

  -- the first day
  pub start_day-first : (day : ℕ) → day ≡ 0 → start_day by day ≡ day
  unfolding start_day
  start_day-first zero none = refl
  start_day-first (suc day) none = absurd (omega arith)

  -- the day before one on which none starts
  pub start_day-before : (day : ℕ) → 0 < day → starts_unit by day ≡ false
      → start_day by (day - 1) ≡ start_day by day
  start_day-before zero some h = absurd (omega arith)
  start_day-before (suc day) some h =
      let same : suc day - 1 ≡ day = omega arith in
      ap (start_day by) same ∙ sym (start_day-skip day h)

  pub start_day-starts : are_dates by ≡ true → (day : ℕ) → starts_unit by (start_day by day) ≡ true
  unfolding start_day
  start_day-starts dates zero = starts_unit-first by dates
  start_day-starts dates (suc day) =
      at (starts_unit by (suc day)) (start_day-starts dates day) refl
    where
      at : (b : Bool) → starts_unit by (start_day by day) ≡ true → starts_unit by (suc day) ≡ b
          → starts_unit by (cond b (suc day) (start_day by day)) ≡ true
      at true h e = e
      at false h e = h

  pub start_day-greatest : (other day : ℕ) → starts_unit by other ≡ true → other ≤ day
      → other ≤ start_day by day
  unfolding start_day
  start_day-greatest other zero starts le = omega arith
  start_day-greatest other (suc day) starts le =
      at (starts_unit by (suc day)) (λ h. start_day-greatest other day starts h) refl
    where
      at : (b : Bool) → (other ≤ day → other ≤ start_day by day) → starts_unit by (suc day) ≡ b
          → other ≤ cond b (suc day) (start_day by day)
      at true h e = le
      at false h e =
          elim (cases_lt other (suc day)) [
            | inl lt ↦ h (omega arith)
            | inr ge ↦
                let same : other ≡ suc day = omega arith in
                absurd (both_ways (starts_unit by (suc day)) e (rw same at starts))
          ]

  pub start_day-monotone : (day later : ℕ) → day ≤ later → start_day by day ≤ start_day by later
  start_day-monotone day zero le = omega (arith, start_day-le day)
  start_day-monotone day (suc later) le =
      at (starts_unit by (suc later)) (λ h. start_day-monotone day later h) refl
    where
      at : (b : Bool) → (day ≤ later → start_day by day ≤ start_day by later)
          → starts_unit by (suc later) ≡ b → start_day by day ≤ start_day by (suc later)
      at true h e = omega (arith, start_day-le day, start_day-here (suc later) e)
      at false h e =
          elim (cases_lt day (suc later)) [
            | inl lt ↦ omega (arith, h (omega arith), start_day-skip later e)
            | inr ge ↦
                let same : day ≡ suc later = omega arith in omega (arith, ap (start_day by) same)
          ]

  -- the start behind which none comes up to the day
  pub start_day-unique : (start day : ℕ) → start ≤ day → starts_unit by start ≡ true
      → ((other : ℕ) → start < other → other ≤ day → starts_unit by other ≡ false)
      → start_day by day ≡ start
  start_day-unique start day le starts none =
      let least = start_day-greatest start day starts le in
      elim (cases_lt start (start_day by day)) [
        | inl lt ↦ absurd (both_ways (starts_unit by (start_day by day))
            (none (start_day by day) lt (start_day-le day))
            (start_day-starts (starts_unit-are_dates by start starts) day))
        | inr ge ↦ omega arith
      ]

  -- the search for the next start, from a day on which one does, and from one on which none does
  pub find-here : (day count : ℕ) → starts_unit by day ≡ true
      → find (starts_unit by) (range_with_len day (suc count)) ≡ Some day
  find-here day count h =
      ap (λ b. cond b (Some day) (find (starts_unit by) (range_with_len (day + 1) count))) h

  pub find-skip : (day count : ℕ) → starts_unit by day ≡ false
      → find (starts_unit by) (range_with_len day (suc count))
      ≡ find (starts_unit by) (range_with_len (day + 1) count)
  find-skip day count h =
      ap (λ b. cond b (Some day) (find (starts_unit by) (range_with_len (day + 1) count))) h

  -- the same up to an end
  abbrev pub find_to : ℕ → ℕ → Option ℕ
  find_to end day = find (starts_unit by) (range_with_len day (end - day))

  pub find_to-here : (end day : ℕ) → day < end → starts_unit by day ≡ true
      → find_to end day ≡ Some day
  find_to-here end day lt h =
      let more : end - day ≡ suc (end - (day + 1)) = omega arith in
      rw more (find-here day (end - (day + 1)) h)

  pub find_to-skip : (end day : ℕ) → day < end → starts_unit by day ≡ false
      → find_to end day ≡ find_to end (day + 1)
  find_to-skip end day lt h =
      let more : end - day ≡ suc (end - (day + 1)) = omega arith in
      rw more (find-skip day (end - (day + 1)) h)

  pub find_to-end : (end day : ℕ) → end ≤ day → find_to end day ≡ None
  find_to-end end day ge =
      let none : end - day ≡ 0 = omega arith in
      rw none refl

  -- what the search for the next start finds among so many days
  pub record IsFirstFrom (day count found : ℕ) : Type 0 where
    pub low : day ≤ found
    pub high : found < day + count
    pub starts : starts_unit by found ≡ true
    pub none : (other : ℕ) → day ≤ other → other < found → starts_unit by other ≡ false

  pub find-Some : (count day found : ℕ)
      → find (starts_unit by) (range_with_len day count) ≡ Some found
      → IsFirstFrom day count found
  find-Some zero day found h = cc
  find-Some (suc count) day found h =
      at (starts_unit by day) refl h (λ k. find-Some count (day + 1) found k)
    where
      at : (b : Bool) → starts_unit by day ≡ b
          → cond b (Some day) (find (starts_unit by) (range_with_len (day + 1) count)) ≡ Some found
          → (find (starts_unit by) (range_with_len (day + 1) count) ≡ Some found
          → IsFirstFrom (day + 1) count found) → IsFirstFrom day (suc count) found
      at true e k next =
          let same : day ≡ found = cc in
          record {
            low = omega arith;
            high = omega arith;
            starts = rw (← same) e;
            none = λ other ge lt. absurd (omega arith);
          }
      at false e k next =
          let f = next k in
          record {
            low = omega (arith, f.low);
            high = omega (arith, f.high);
            starts = f.starts;
            none = λ other ge lt. elim (cases_lt day other) [
              | inl above ↦ f.none other (omega arith) lt
              | inr le ↦ let same : other ≡ day = omega arith in rw same e
            ];
          }

  pub find-None : (count day : ℕ) → find (starts_unit by) (range_with_len day count) ≡ None
      → (other : ℕ) → day ≤ other → other < day + count → starts_unit by other ≡ false
  find-None zero day h other ge lt = absurd (omega arith)
  find-None (suc count) day h other ge lt =
      at (starts_unit by day) refl h (λ k g l. find-None count (day + 1) k other g l)
    where
      at : (b : Bool) → starts_unit by day ≡ b
          → cond b (Some day) (find (starts_unit by) (range_with_len (day + 1) count)) ≡ None
          → (find (starts_unit by) (range_with_len (day + 1) count) ≡ None
          → day + 1 ≤ other → other < day + 1 + count → starts_unit by other ≡ false)
          → starts_unit by other ≡ false
      at true e k next = cc
      at false e k next =
          elim (cases_lt day other) [
            | inl above ↦ next k (omega arith) (omega arith)
            | inr le ↦ let same : other ≡ day = omega arith in rw same e
          ]
