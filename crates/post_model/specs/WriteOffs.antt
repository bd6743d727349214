-- Write-offs: what is taken from the lots in their order, or from all that is left.
use Rattle.std.specs.Prelude.{ℕ, ℤ, pos, ◌+ℤ◌, ◌-ℤ◌, int_lt, int_le, List, [], ◌∷◌, unwrap_or}
use Rattle.std.specs.Prelude.{slice_get, Result, Ok, if◌then◌else◌}
use Rattle.std.specs.Int.{int_max, int_min}
use Rattle.std.specs.Ordering.{int_eq}
use Rattle.reg_base.specs.Results.{◌>>=◌, unless}
use Rattle.reg_base.specs.declared.fault.PostFault.{PostFault}
use Rattle.reg_base.specs.declared.fault.PostFault.TheVariants.{Shortage, Negative}
use Rattle.reg_base.specs.declared.records.SumRow.{SumRow}
use Rattle.reg_base.specs.Shares.{share}
use Rattle.post_model.specs.declared.holding.Holding.{Holding}
use Rattle.post_model.specs.Scenes.{Scene}

-- the sum of a row at a resource
abbrev pub sum_in : SumRow → ℕ → ℤ
sum_in row resource = unwrap_or (slice_get row.sums resource) (pos 0)

-- what a row tells of a lot: its quantity and its amount at these resources
abbrev pub holding_of : ℕ → ℕ → SumRow → Holding
holding_of quantity amount row =
    record {
      lot = slice_get row.group 0;
      quantity = sum_in row quantity;
      amount = sum_in row amount;
    }

-- how much there is to take from a holding: nothing where its quantity is not above zero
abbrev pub in_stock : Holding → ℤ
in_stock h = int_max (pos 0) h.quantity

-- how much there is to take from all
unfoldable pub all_in_stock : List Holding → ℤ
all_in_stock [] = pos 0
all_in_stock (h ∷ hs) = in_stock h +ℤ all_in_stock hs

-- what is taken from a holding, for its amount: the whole amount with the whole quantity, and else
-- the share of it
abbrev pub taken_from : ℤ → Holding → Holding
taken_from quantity h = record {
  lot = h.lot;
  quantity = quantity;
  amount = if int_eq quantity h.quantity then h.amount else share h.amount quantity h.quantity;
}

-- what is taken from a holding, in front of what is taken from others, where it is something
abbrev pub with_taken : ℤ → Holding → List Holding → List Holding
with_taken quantity h more =
    if int_lt (pos 0) quantity then taken_from quantity h ∷ more else more

-- what is taken for a quantity from holdings in order: from each as much as there is, until the
-- quantity is reached
unfoldable pub taken : ℤ → List Holding → List Holding
taken wanted [] = []
taken wanted (h ∷ hs) = with_taken (int_min wanted (in_stock h)) h
    (taken (wanted -ℤ int_min wanted (in_stock h)) hs)

-- a write-off of a quantity: it is not below zero, and not more than there is
unfoldable pub write_off : Scene → ℤ → List Holding → Result (List Holding) PostFault
write_off scene wanted holdings = do
  _ ← unless (int_le (pos 0) wanted) (Negative scene.rule scene.line)
  _ ← unless (int_le wanted (all_in_stock holdings))
      (Shortage scene.rule scene.line (wanted -ℤ all_in_stock holdings))
  Ok (taken wanted holdings)

-- the amount of all that is taken
unfoldable pub cost_of : List Holding → ℤ
cost_of [] = pos 0
cost_of (h ∷ hs) = h.amount +ℤ cost_of hs
