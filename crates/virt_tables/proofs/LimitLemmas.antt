-- Tables that are refused, and rows put behind others.
use Rattle.std.proofs.Common.{◌≡◌, ℕ, ◌≤◌, Bool, true, false, cond, List, [], ◌∷◌, ◌++◌, length}
use Rattle.std.proofs.Common.{Ok, Err, nat_le, refl, ap, arith, length-append}
use Rattle.reg_base.specs.declared.fault.TableFault.{TableFault}
use Rattle.reg_base.specs.declared.fault.TableFault.TheVariants.{BadRange, TooManyRows}
use Rattle.reg_base.specs.declared.tables.Range.{Range}
use Rattle.reg_base.specs.Results.{◌>>=◌, unless}
use Rattle.reg_base.specs.Turnovers.{row_limit, table_of, has_movement}
use Rattle.reg_base.specs.declared.tables.Row.{Row}
use Rattle.std.specs.List.{filter}
use Rattle.virt_tables.specs.Limits.{room_for, limited}

-- a table whose range is one
pub table_of-range : {R : Type 0} (range : Range) (rows : List R)
    → unless (nat_le range.from range.to) (BadRange range.from range.to) ≡ Ok tt
    → table_of range rows ≡ limited rows
table_of-range range rows h = ap (λ r. r >>= λ _. limited rows) h

-- such a range begins before its end
pub range-le : (from to : ℕ) (fault : TableFault) → unless (nat_le from to) fault ≡ Ok tt
    → from ≤ to
range-le from to fault h = at (nat_le from to) refl h
  where
    at : (b : Bool) → nat_le from to ≡ b → unless b fault ≡ Ok tt → from ≤ to
    at true e h = grind (arith, e)
    at false e h = absurd (cc)

-- a table whose range is none
pub table_of-fault : {R : Type 0} (range : Range) (rows : List R) (fault : TableFault)
    → unless (nat_le range.from range.to) (BadRange range.from range.to) ≡ Err fault
    → table_of range rows ≡ Err fault
table_of-fault range rows fault h = ap (λ r. r >>= λ _. limited rows) h

-- so many rows have room, where they are no more than a table may have
pub room-le : (count : ℕ) → count ≤ row_limit → room_for count ≡ Ok tt
room-le count h = ap (λ b. unless b (TooManyRows row_limit)) (le-true count h)
  where
    le-true : (n : ℕ) → n ≤ row_limit → nat_le n row_limit ≡ true
    le-true n h = grind (arith, h)

pub le-room : (count : ℕ) → room_for count ≡ Ok tt → count ≤ row_limit
le-room count h = at (nat_le count row_limit) refl h
  where
    at : (b : Bool) → nat_le count row_limit ≡ b → unless b (TooManyRows row_limit) ≡ Ok tt
        → count ≤ row_limit
    at true e h = grind (arith, e)
    at false e h = absurd (cc)

-- where so many rows have no room, more have none
pub no-room : (count more : ℕ) (fault : TableFault) → room_for count ≡ Err fault → count ≤ more
    → room_for more ≡ Err fault
no-room count more fault h l = at (nat_le more row_limit) refl (nat_le count row_limit) refl h
  where
    at : (b : Bool) → nat_le more row_limit ≡ b → (c : Bool) → nat_le count row_limit ≡ c
        → unless c (TooManyRows row_limit) ≡ Err fault
        → unless b (TooManyRows row_limit) ≡ Err fault
    at b e true d h = absurd (cc)
    at true e false d h = absurd (grind (arith, e, d, l))
    at false e false d h = h

-- whether the row of one is shown
pub shown-none : (row : Row) → has_movement row ≡ false → filter has_movement (row ∷ []) ≡ []
shown-none row h = ap (λ (b : Bool). cond b (row ∷ []) []) h

pub shown-one : (row : Row) → has_movement row ≡ true → filter has_movement (row ∷ []) ≡ row ∷ []
shown-one row h = ap (λ (b : Bool). cond b (row ∷ []) []) h

-- rows that have room are a table's
pub limited-Ok : {R : Type 0} (rows : List R) → length rows ≤ row_limit → limited rows ≡ Ok rows
limited-Ok rows h = ap (λ r. r >>= λ _. Ok rows) (room-le (length rows) h)

-- where rows have no room, they have none with others behind them
pub limited-fault : {R : Type 0} (rows front rest : List R) (fault : TableFault)
    → rows ≡ front ++ rest → room_for (length front) ≡ Err fault → limited rows ≡ Err fault
limited-fault rows front rest fault e h =
    ap (λ r. r >>= λ _. Ok rows)
    (no-room (length front) (length rows) fault h
    (omega (arith, ap length e, length-append front rest)))
