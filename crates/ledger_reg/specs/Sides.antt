-- Private: sums of the sides of entries, by account and extras, as a map holds them.
use Rattle.std.specs.Prelude.{◌≡◌, ℕ, ◌+◌, ◌≤◌, ℤ, pos, ◌+ℤ◌, if◌then◌else◌, not, ◌||◌}
use Rattle.std.specs.Prelude.{Bool, Option, Some, None, List, [], ◌∷◌, ◌++◌, map, filter, unwrap_or}
use Rattle.std.specs.List.{flat_map}
use Rattle.std.specs.Map.{lookup}
use Rattle.std.specs.BTreeMap.{insert_entry}
use Rattle.std.specs.Ordering.{nat_cmp, ordering_then, is_eq, int_eq}
use Rattle.std.specs.Cmp.Lexicographic.{slice_cmp}
use Rattle.std.specs.declared.cmp.Ordering.{Ordering}
use Rattle.reg_base.specs.declared.records.Side.{Side}
use Rattle.reg_base.specs.BookedEntries.{BookedEntry}
use Rattle.reg_base.specs.Sums.{sum_over, in_order_once}
use Rattle.ledger_reg.specs.declared.sides.SideKey.{SideKey}
use Rattle.ledger_reg.specs.declared.sides.Amounts.{Amounts}
use Rattle.ledger_reg.specs.declared.sides.SideSums.{SideSums}
use Rattle.ledger_reg.specs.declared.sides.AccountSum.{AccountSum}
use Rattle.ledger_reg.specs.Sizes.{size_of, total_size}

-- an account with extras
pub record SidePlace : Type 0 where
  pub account : List ℕ
  pub extras : List (List ℕ)

-- what a side of an entry adds at its account and extras
pub record SideAmounts : Type 0 where
  pub place : SidePlace
  pub debit : ℤ
  pub credit : ℤ

-- places are in order of account, then extras
abbrev pub place_cmp : SidePlace → SidePlace → Ordering
place_cmp p q = ordering_then (slice_cmp nat_cmp p.account q.account)
    (slice_cmp (slice_cmp nat_cmp) p.extras q.extras)

-- what a side adds, where it is there
abbrev pub amounts_of : Option Side → ℤ → ℤ → List SideAmounts
amounts_of None debit credit = []
amounts_of (Some side) debit credit = record {
  place = record { account = side.account; extras = side.extras };
  debit = debit;
  credit = credit;
} ∷ []

-- what both sides of an entry add
abbrev pub sides_of : BookedEntry → List SideAmounts
sides_of b = amounts_of b.entry.debit b.entry.amount (pos 0)
    ++ amounts_of b.entry.credit (pos 0) b.entry.amount

-- the place of a key
abbrev pub place_in : SideKey → SidePlace
place_in key = record { account = key.account; extras = key.extras.items }

-- the sums of a map, by place
abbrev pub sides_in : List (SideKey × Amounts) → List (SidePlace × Amounts)
sides_in es = map (λ e. (place_in e.0, e.1)) es

-- no amounts
abbrev pub no_amounts : Amounts
no_amounts = record { debit = pos 0; credit = pos 0 }

-- what a side adds, added to sums
abbrev pub plus_side : SideAmounts → Amounts → Amounts
plus_side s sums = record { debit = s.debit +ℤ sums.debit; credit = s.credit +ℤ sums.credit }

-- the sums at a place
abbrev pub place_sums : List SideAmounts → SidePlace → Amounts
place_sums sides place = record {
  debit = sum_over (λ s. if is_eq (place_cmp s.place place) then s.debit else pos 0) sides;
  credit = sum_over (λ s. if is_eq (place_cmp s.place place) then s.credit else pos 0) sides;
}

-- the sums at all places that sides have, in order
abbrev pub side_sums : List SideAmounts → List (SidePlace × Amounts)
side_sums sides = map (λ p. (p, place_sums sides p))
    (in_order_once place_cmp (map (λ s. s.place) sides))

-- the sums are those of the sides of the entries
abbrev pub SumsSides : List BookedEntry → SideSums → Type 0
SumsSides entries s = sides_in s.sums.entries ≡ side_sums (flat_map sides_of entries)

-- how large sums are
abbrev pub amounts_size : Amounts → ℕ
amounts_size sums = size_of sums.debit + size_of sums.credit

-- how large the sums are, all together
abbrev pub sides_size : SideSums → ℕ
sides_size s = total_size amounts_size s.sums.entries

-- the sums of a place in a map, and zeros where none are there
abbrev pub amounts_at : SidePlace → List (SidePlace × Amounts) → Amounts
amounts_at place es = unwrap_or (lookup (λ p. is_eq (place_cmp place p)) es) no_amounts

-- what a side adds is added to the sums of its place
pub record RaisesSide (side : SideAmounts) (old new : SideSums) : Type 0 where
  pub value : sides_in new.sums.entries ≡ insert_entry place_cmp (sides_in old.sums.entries)
      side.place (plus_side side (amounts_at side.place (sides_in old.sums.entries)))
  pub growth : sides_size new ≤ sides_size old + (size_of side.debit + size_of side.credit)

-- sides are added, and the sums are larger by so much at the most
pub record AddsSide (sides : List SideAmounts) (most : ℕ) (old new : SideSums) : Type 0 where
  pub sums : (ds : List SideAmounts) → sides_in old.sums.entries ≡ side_sums ds
      → sides_in new.sums.entries ≡ side_sums (ds ++ sides)
  pub growth : sides_size new ≤ sides_size old + most

-- a place with its sums
abbrev pub account_sum : SidePlace × Amounts → AccountSum
account_sum e = record {
  account = e.0.account;
  extras = e.0.extras;
  debit = e.1.debit;
  credit = e.1.credit;
}

-- whether not both sums are zero
abbrev pub is_moved : AccountSum → Bool
is_moved s = not (int_eq s.debit (pos 0)) || not (int_eq s.credit (pos 0))

-- the sums of the sides of entries, in order of account and extras
abbrev pub account_sums : List BookedEntry → List AccountSum
account_sums entries =
    filter is_moved (map account_sum (side_sums (flat_map sides_of entries)))
