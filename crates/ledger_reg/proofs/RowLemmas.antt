-- Rows that are put one behind another, and what is told where there are too many.
use Rattle.std.proofs.Common.{◌≡◌, ◌≤◌, Bool, true, false, nat_le, List, [], ◌∷◌, ◌++◌, length}
use Rattle.std.proofs.Common.{Result}
use Rattle.std.proofs.Common.{Ok, Err, IsErr, refl, ap, ◌∙◌, sym, subst, append_assoc, arith}
use Rattle.std.specs.Prelude.{IsErrAnd}
use Rattle.std.specs.List.{flat_map}
use Rattle.std.proofs.lemmas.List.{append-nil}
use Rattle.std.proofs.lemmas.Bool.Decides.{nat_tests}
use Rattle.reg_base.specs.declared.fault.TableFault.{TableFault}
use Rattle.reg_base.specs.declared.fault.TableFault.TheVariants.{TooManyRows, BadRange}
use Rattle.reg_base.specs.declared.tables.Range.{Range}
use Rattle.reg_base.specs.declared.tried.Fault.{Fault}
use Rattle.reg_base.specs.declared.tried.Fault.TheVariants.{Refused, Memory}
use Rattle.reg_base.specs.Results.{◌>>=◌, unless}
use Rattle.reg_base.specs.Tries.{Tries}
use Rattle.reg_base.specs.Turnovers.{row_limit, limited_rows, table_of}
use Rattle.ledger_reg.specs.RowLists.{Puts}

-- a fault that a call hands on
pub is_fault : {X F : Type 0} (r : Result X F) (x : F) → IsErr r × IsErrAnd r (λ e. e ≡ x)
    → r ≡ Err x
is_fault (Ok y) x h = absurd (let q = h.0 in cc)
is_fault (Err e) x h = ap Err h.1

-- a fault at some rows is one of the table that goes on behind them
pub stopped : {R : Type 0} (result : Result (List R) (Fault TableFault)) (e : Fault TableFault)
    (more old new rest all : List R) → Puts (Err e) more old new → result ≡ Err e
    → all ≡ old ++ (more ++ rest) → Tries result (limited_rows all)
stopped result (Refused x) more old new rest all puts is e =
    subst (λ (r : Result _ (Fault TableFault)). Tries r (limited_rows all)) (sym is)
    (ap limited_rows e ∙ puts rest)
stopped result Memory more old new rest all puts is e =
    subst (λ (r : Result _ (Fault TableFault)). Tries r (limited_rows all)) (sym is) tt

-- a table that is not too long
pub not_too_many : {R : Type 0} (rows : List R) → length rows ≤ row_limit
    → limited_rows rows ≡ Ok rows
not_too_many rows few = at (nat_le (length rows) row_limit) refl
  where
    le : nat_le (length rows) row_limit ≡ true
    le = grind (arith, nat_tests)

    at : (b : Bool) → nat_le (length rows) row_limit ≡ b
        → (unless b (TooManyRows row_limit) >>= (λ _. Ok rows)) ≡ Ok rows
    at true e = refl
    at false e = absurd (let h : false ≡ true = sym e ∙ le in cc)

-- rows put, in a walk over elements of which each has its rows
pub put-more : {X R : Type 0} (f : X → List R) (rows more new all : List R) (x : X)
    (left rest : List X)
    → rows ++ flat_map f left ≡ all → left ≡ x ∷ rest → f x ≡ more → new ≡ rows ++ more
    → new ++ flat_map f rest ≡ all
put-more f rows more new all x left rest h e same n =
    ap (λ t. t ++ flat_map f rest) (n ∙ ap (λ t. rows ++ t) (sym same))
    ∙ append_assoc rows (f x) (flat_map f rest)
    ∙ ap (λ t. rows ++ flat_map f t) (sym e) ∙ h

pub put-left : {X R : Type 0} (f : X → List R) (rows more all : List R) (x : X) (left rest : List X)
    → rows ++ flat_map f left ≡ all → left ≡ x ∷ rest → f x ≡ more
    → all ≡ rows ++ (more ++ flat_map f rest)
put-left f rows more all x left rest h e same =
    sym h ∙ ap (λ t. rows ++ flat_map f t) e ∙ ap (λ t. rows ++ (t ++ flat_map f rest)) same

-- nothing left
pub put-end : {X R : Type 0} (f : X → List R) (rows all : List R) (left : List X)
    → rows ++ flat_map f left ≡ all → left ≡ [] → rows ≡ all
put-end f rows all left h e =
    sym (append-nil rows) ∙ ap (λ t. rows ++ flat_map f t) (sym e) ∙ h

-- all rows are put
pub finished : {R : Type 0} (rows all : List R) → rows ≡ all → length rows ≤ row_limit
    → Tries {X = List R} {R = TableFault} (Ok rows) (limited_rows all)
finished rows all e few = ap limited_rows (sym e) ∙ not_too_many rows few

-- where its range is right, a table is its rows, if there are not too many
pub table-limited : {R : Type 0} (range : Range) (rows : List R) (u : Unit {0})
    → unless (nat_le range.from range.to) (BadRange range.from range.to) ≡ Ok u
    → limited_rows rows ≡ table_of range rows
table-limited range rows u e = sym (ap (λ r. r >>= (λ _. limited_rows rows)) e)

-- a fault at some rows is one of all that are put, whatever comes behind them
pub puts-stopped : {R : Type 0} (result : Result (Unit {0}) (Fault TableFault))
    (e : Fault TableFault) (more all old rows others new last : List R)
    → rows ++ (more ++ others) ≡ old ++ all → Puts (Err e) more rows new → result ≡ Err e
    → Puts result all old last
puts-stopped {R} result (Refused x) more all old rows others new last same puts is =
    subst (λ (r : Result (Unit {0}) (Fault TableFault)). Puts r all old last) (sym is)
    (λ rest. ap limited_rows (sym (append_assoc old all rest) ∙ ap (λ t. t ++ rest) (sym same)
    ∙ append_assoc rows (more ++ others) rest ∙ ap (λ t. rows ++ t) (append_assoc more others rest))
    ∙ puts (others ++ rest))
puts-stopped {R} result Memory more all old rows others new last same puts is =
    subst (λ (r : Result (Unit {0}) (Fault TableFault)). Puts r all old last) (sym is) tt
