-- Private: sums by pairs of accounts, as a map holds them.
use Rattle.std.specs.Prelude.{◌≡◌, ℕ, ◌+◌, ◌^◌, ◌≤◌, ℤ, pos, ◌+ℤ◌, if◌then◌else◌, not, ◌&&◌, List}
use Rattle.std.specs.Prelude.{[], ◌∷◌, map, Option, unwrap_or}
use Rattle.std.specs.Map.{lookup}
use Rattle.std.specs.BTreeMap.{insert_entry}
use Rattle.std.specs.Ordering.{is_eq, int_eq}
use Rattle.reg_base.specs.declared.tables.PairRow.{PairRow}
use Rattle.reg_base.specs.BookedEntries.{BookedEntry}
use Rattle.reg_base.specs.Sums.{sum_over, in_order_once}
use Rattle.cfg_model.specs.declared.ledger.Chart.{Chart}
use Rattle.cfg_model.specs.AccountTables.{Pair, pair_of, pair_cmp, joins_asked}
use Rattle.ledger_reg.specs.declared.pairs.PairKey.{PairKey}
use Rattle.ledger_reg.specs.declared.pairs.PairSums.{PairSums}
use Rattle.ledger_reg.specs.Sizes.{size_of, total_size}

-- the pair of a key
abbrev pub pair_in : PairKey → Pair
pair_in key = record { debit = key.debit; credit = key.credit }

-- the sums of a map, by pair
abbrev pub pairs_in : List (PairKey × ℤ) → List (Pair × ℤ)
pairs_in es = map (λ e. (pair_in e.0, e.1)) es

-- the sum of a pair in a map, and 0 where none is there
abbrev pub sum_at : Pair → List (Pair × ℤ) → ℤ
sum_at pair es = unwrap_or (lookup (λ p. is_eq (pair_cmp pair p)) es) (pos 0)

-- the sum of the entries of a pair
abbrev pub pair_sum : List BookedEntry → Pair → ℤ
pair_sum entries pair = sum_over
    (λ b. if is_eq (pair_cmp (pair_of b) pair) then b.entry.amount else pos 0) entries

-- the sums of all pairs that entries have, in order
abbrev pub pair_sums : List BookedEntry → List (Pair × ℤ)
pair_sums entries =
    map (λ p. (p, pair_sum entries p)) (in_order_once pair_cmp (map pair_of entries))

-- the sums are those of the entries
abbrev pub SumsPairs : List BookedEntry → PairSums → Type 0
SumsPairs entries s = pairs_in s.sums.entries ≡ pair_sums entries

-- how large the sums are, all together
abbrev pub pairs_size : PairSums → ℕ
pairs_size s = total_size size_of s.sums.entries

-- an amount is added to the sum of a pair
pub record RaisesPair (pair : Pair) (amount : ℤ) (old new : PairSums) : Type 0 where
  pub value : pairs_in new.sums.entries ≡ insert_entry pair_cmp (pairs_in old.sums.entries) pair
      (amount +ℤ sum_at pair (pairs_in old.sums.entries))
  pub growth : pairs_size new ≤ pairs_size old + 2 ^ 63

-- the row of a pair, where it is shown
abbrev pub shown_pair : Chart → Option (List ℕ) → Pair × ℤ → List PairRow
shown_pair chart asked e =
    if not (int_eq e.1 (pos 0)) && joins_asked chart asked e.0
    then record { debit = e.0.debit; credit = e.0.credit; amount = e.1 } ∷ []
    else []
