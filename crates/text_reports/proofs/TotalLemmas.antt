-- Sums of moderate numbers fit, as the code adds them up.
use Rattle.std.proofs.Common.{◌≡◌, ℕ, ◌+◌, ◌*◌, ◌^◌, ◌<◌, ◌≤◌, ℤ, pos, negsuc, neg_ℤ, ◌+ℤ◌, ◌≤ℤ◌}
use Rattle.std.proofs.Common.{List, ◌∷◌, map, ap, ◌∙◌, sym, subst, arith, drop, get_or, length}
use Rattle.std.proofs.Common.{SFits, to_z, of_z, drop-cons, suc, Bor}
use Rattle.std.specs.List.{All}
use Rattle.std.specs.Int.{w128}
use Rattle.std.proofs.Math.ListN.{get_or-map, length-map}
use Rattle.std.proofs.lemmas.Int.{ints, to_z-of_z}
use Rattle.std.proofs.lemmas.List.Elements.{All-filter}
use Rattle.std.proofs.lemmas.List.Sums.{length-filter, count_by-le-length}
use Rattle.reg_base.specs.declared.tables.AccountRow.{AccountRow}
use Rattle.reg_base.specs.Sums.{sum_over}
use Rattle.cfg_model.specs.declared.ledger.Chart.{Chart}
use Rattle.cfg_model.specs.LedgerLaws.{is_on_balance_leaf}
use Rattle.text_reports.specs.declared.totals.Amount.{Amount}
use Rattle.text_reports.specs.declared.totals.Amount.TheVariants.{OpenDr, OpenCr, TurnDr, TurnCr}
use Rattle.text_reports.specs.declared.totals.Amount.TheVariants.{CloseDr, CloseCr}
use Rattle.text_reports.specs.Amounts.{amount_of}
use Rattle.text_reports.specs.TrialBalances.{leaf_rows, IsModerate, HasModerateNumbers}

-- each number of a row of moderate numbers is moderate
IsModerate-amount : (amount : Amount) (row : AccountRow) → HasModerateNumbers row
    → IsModerate (amount_of amount row)
IsModerate-amount OpenDr row h = h.open_dr
IsModerate-amount OpenCr row h = h.open_cr
IsModerate-amount TurnDr row h = h.turn_dr
IsModerate-amount TurnCr row h = h.turn_cr
IsModerate-amount CloseDr row h = h.close_dr
IsModerate-amount CloseCr row h = h.close_cr

-- what a reference points to
abbrev pub pointed : Bor AccountRow → AccountRow
pointed row = row.now

-- so it is in a row of many
pub IsModerate-row : (amount : Amount) (rows : List (Bor AccountRow)) (i : ℕ) (row : Bor AccountRow)
    → i < length rows → row ≡ get_or rows i row → All HasModerateNumbers (map pointed rows)
    → IsModerate (amount_of amount row.now)
IsModerate-row amount rows i row below is all =
    IsModerate-amount amount row.now
    (subst HasModerateNumbers (get_or-map pointed rows i row ∙ ap pointed (sym is))
    (all i row.now (omega (arith, below, length-map rows pointed))))

-- the leaves are no more than the rows
pub few-leaves : (leaves : List (Bor AccountRow)) (chart : Chart) (rows : List AccountRow)
    → map pointed leaves ≡ leaf_rows chart rows → length rows ≤ 100_000 → length leaves ≤ 100_000
few-leaves leaves chart rows is few =
    let test = λ (row : AccountRow). is_on_balance_leaf chart row.account in omega (
      arith,
      few,
      length-map leaves pointed,
      ap length is,
      length-filter test rows,
      count_by-le-length test rows,
    )

-- their numbers are moderate where those of the rows are
pub moderate-leaves : (leaves : List (Bor AccountRow)) (chart : Chart) (rows : List AccountRow)
    → map pointed leaves ≡ leaf_rows chart rows → All HasModerateNumbers rows
    → All HasModerateNumbers (map pointed leaves)
moderate-leaves leaves chart rows is all =
    subst (All HasModerateNumbers) (sym is)
    (All-filter (λ row. is_on_balance_leaf chart row.account) HasModerateNumbers rows all)

-- a number of up to 2 ^ 126 either side of zero fits
fits-small : (n : ℤ) → neg_ℤ (pos (2 ^ 126)) ≤ℤ n → n ≤ℤ pos (2 ^ 126) → SFits w128 n
fits-small (pos n) low high = omega (arith, ints, low, high)
fits-small (negsuc n) low high = omega (arith, ints, low, high)

-- the sum so far of few moderate numbers, and one more
module _ (i : ℕ) (total part : ℤ) (few : i < 100_000)
    (low : neg_ℤ (pos (i * 10 ^ 32)) ≤ℤ total) (high : total ≤ℤ pos (i * 10 ^ 32))
    (moderate : IsModerate part) where
  pub total-low : neg_ℤ (pos ((i + 1) * 10 ^ 32)) ≤ℤ (total +ℤ part)
  total-low = omega (arith, ints, low, moderate.low)

  pub total-high : (total +ℤ part) ≤ℤ pos ((i + 1) * 10 ^ 32)
  total-high = omega (arith, ints, high, moderate.high)

  part-fits : SFits w128 part
  part-fits = fits-small part (omega (arith, ints, moderate.low))
      (omega (arith, ints, moderate.high))

  total-fits : SFits w128 (total +ℤ part)
  total-fits = fits-small (total +ℤ part) (omega (arith, ints, few, total-low))
      (omega (arith, ints, few, total-high))

  pub added-fits : SFits w128 (total +ℤ to_z w128 (of_z w128 part))
  added-fits = subst (SFits w128) (sym (λ i. total +ℤ to_z-of_z w128 part part-fits i)) total-fits

  pub added-value : to_z w128 (of_z w128 (total +ℤ to_z w128 (of_z w128 part))) ≡ total +ℤ part
  added-value =
      ap (λ n. to_z w128 (of_z w128 n)) (λ i. total +ℤ to_z-of_z w128 part part-fits i)
      ∙ to_z-of_z w128 (total +ℤ part) total-fits

-- the sum of the rows from one on: what it adds, and the sum of those behind it
pub sum_over-drop : (amount : Amount) (rows : List (Bor AccountRow)) (i : ℕ) (row : Bor AccountRow)
    → i < length rows → row ≡ get_or rows i row
    → sum_over (amount_of amount) (map pointed (drop i rows))
    ≡ amount_of amount row.now +ℤ sum_over (amount_of amount) (map pointed (drop (suc i) rows))
sum_over-drop amount rows i row below is =
    ap (λ rs. sum_over (amount_of amount) (map pointed rs))
    (drop-cons rows i row below ∙ ap (λ r. r ∷ drop (suc i) rows) (sym is))

-- a sum of three, from the left
pub plus-assoc : (a b c : ℤ) → (a +ℤ b) +ℤ c ≡ a +ℤ (b +ℤ c)
plus-assoc a b c = omega (arith, ints)
