-- One more type, and one more statement of a type.
use Rattle.std.proofs.Common.{◌≡◌, ℕ, suc, ◌+◌, ◌<◌, ◌≤◌, List, [], ◌∷◌, ◌++◌, drop, length, get_or}
use Rattle.std.proofs.Common.{Result, Ok, Err, refl, ap, sym, ◌∙◌, append_assoc, append-nil}
use Rattle.std.proofs.Common.{add-one, drop-cons}
use Rattle.reg_base.specs.Results.{◌>>=◌}
use Rattle.cfg_model.proofs.ForAbove.{result_front}
use Rattle.cfg_model.specs.declared.config.Config.{Config}
use Rattle.cfg_model.specs.declared.kind.Kind.{Kind}
use Rattle.rule_text.specs.declared.plain.PlainStatement.{PlainStatement}
use Rattle.rule_lang.proofs.LeastLemmas.{drop-past}
use Rattle.rule_lang.specs.Rules.{fault_in_kind, resolved_statement, statements_from, kind_rules}
use Rattle.rule_lang.specs.Rules.{each_kind}
use Rattle.rule_lang.specs.Costs.{costs_after}
use Rattle.rule_lang.specs.declared.costs.Costs.{Costs}
use Rattle.rule_lang.specs.declared.fault.RuleFault.{RuleFault}
use Rattle.rule_lang.specs.declared.statement.Statement.{Statement}

one_in_front : {X F : Type 0} (front : List X) (x : X) (rest : Result (List X) F)
    → result_front front (rest >>= (λ xs. Ok (x ∷ xs))) ≡ result_front (front ++ x ∷ []) rest
one_in_front front x (Ok xs) = ap Ok (sym (append_assoc front (x ∷ []) xs))
one_in_front front x (Err fault) = refl

-- from a place on there is what stands at it, and then the others
pub from_place : {A : Type 0} (xs : List A) (i : ℕ) (x : A) → i < length xs → x ≡ get_or xs i x
    → drop i xs ≡ x ∷ drop (i + 1) xs
from_place xs i x below is = rw add-one (drop-cons xs i x below ∙ ap (λ y. y ∷ drop (suc i) xs)
    (sym is))

kinds-first : (config : Config) (front : List (List Statement)) (kind : Kind) (kinds : List Kind)
    (statements : List Statement)
    → kind_rules config kind ≡ Ok statements
    → result_front front (each_kind config (kind ∷ kinds)) ≡ result_front (front ++ statements ∷ [])
    (each_kind config kinds)
unfolding each_kind
kinds-first config front kind kinds statements read = rw read (one_in_front front statements
    (each_kind config kinds))

fault-first : (config : Config) (front : List (List Statement)) (kind : Kind) (kinds : List Kind)
    (fault : RuleFault)
    → kind_rules config kind ≡ Err fault
    → result_front front (each_kind config (kind ∷ kinds)) ≡ Err fault
unfolding each_kind
fault-first config front kind kinds fault read = rw read refl

-- a type that is read stands behind those in front
pub kinds-more : (config : Config) (front : List (List Statement)) (kinds : List Kind) (i : ℕ)
    (kind : Kind) (statements : List Statement)
    → i < length kinds → kind ≡ get_or kinds i kind → kind_rules config kind ≡ Ok statements
    → result_front front (each_kind config (drop i kinds)) ≡ result_front (front ++ statements ∷ [])
    (each_kind config (drop (i + 1) kinds))
kinds-more config front kinds i kind statements below is read =
    rw (from_place kinds i kind below is) (kinds-first config front kind (drop (i + 1) kinds)
    statements read)

-- the fault of a type is that of all
pub kinds-fault : (config : Config) (front : List (List Statement)) (kinds : List Kind) (i : ℕ)
    (kind : Kind) (fault : RuleFault)
    → i < length kinds → kind ≡ get_or kinds i kind → kind_rules config kind ≡ Err fault
    → result_front front (each_kind config (drop i kinds)) ≡ Err fault
kinds-fault config front kinds i kind fault below is read =
    rw (from_place kinds i kind below is) (fault-first config front kind (drop (i + 1) kinds) fault
    read)

-- behind the last type stand those in front
pub kinds-done : (config : Config) (front : List (List Statement)) (kinds : List Kind) (i : ℕ)
    → length kinds ≤ i → result_front front (each_kind config (drop i kinds)) ≡ Ok front
unfolding each_kind
kinds-done config front kinds i past = rw (drop-past kinds i past) (ap Ok (append-nil front))

statement-first : (config : Config) (kind : Kind) (costs : Costs) (before : ℕ)
    (front : List Statement) (plain : PlainStatement) (plains : List PlainStatement)
    (statement : Statement)
    → fault_in_kind kind plain.place (resolved_statement config kind costs before plain)
    ≡ Ok statement
    → result_front front (statements_from config kind costs before (plain ∷ plains))
    ≡ result_front (front ++ statement ∷ []) (statements_from config kind
    (costs_after config costs statement.each statement.act) (before + 1) plains)
unfolding statements_from
statement-first config kind costs before front plain plains statement read =
    rw read (one_in_front front statement (statements_from config kind
    (costs_after config costs statement.each statement.act) (before + 1) plains))

wrong-first : (config : Config) (kind : Kind) (costs : Costs) (before : ℕ) (front : List Statement)
    (plain : PlainStatement) (plains : List PlainStatement) (fault : RuleFault)
    → fault_in_kind kind plain.place (resolved_statement config kind costs before plain) ≡ Err fault
    → result_front front (statements_from config kind costs before (plain ∷ plains)) ≡ Err fault
unfolding statements_from
wrong-first config kind costs before front plain plains fault read = rw read refl

-- a statement that is right stands behind those in front, and its cost is the latest
pub statements-more : (config : Config) (kind : Kind) (costs : Costs) (before : ℕ)
    (front : List Statement) (plains : List PlainStatement) (plain : PlainStatement)
    (statement : Statement)
    → before < length plains → plain ≡ get_or plains before plain
    → fault_in_kind kind plain.place (resolved_statement config kind costs before plain)
    ≡ Ok statement
    → result_front front (statements_from config kind costs before (drop before plains))
    ≡ result_front (front ++ statement ∷ []) (statements_from config kind
    (costs_after config costs statement.each statement.act) (before + 1)
    (drop (before + 1) plains))
statements-more config kind costs before front plains plain statement below is read =
    rw (from_place plains before plain below is) (statement-first config kind costs before front
    plain (drop (before + 1) plains) statement read)

-- the fault of a statement is that of its type
pub statements-fault : (config : Config) (kind : Kind) (costs : Costs) (before : ℕ)
    (front : List Statement) (plains : List PlainStatement) (plain : PlainStatement)
    (fault : RuleFault)
    → before < length plains → plain ≡ get_or plains before plain
    → fault_in_kind kind plain.place (resolved_statement config kind costs before plain) ≡ Err fault
    → result_front front (statements_from config kind costs before (drop before plains)) ≡ Err fault
statements-fault config kind costs before front plains plain fault below is read =
    rw (from_place plains before plain below is) (wrong-first config kind costs before front plain
    (drop (before + 1) plains) fault read)

-- behind the last statement stand those in front
pub statements-done : (config : Config) (kind : Kind) (costs : Costs) (before : ℕ)
    (front : List Statement) (plains : List PlainStatement)
    → length plains ≤ before
    → result_front front (statements_from config kind costs before (drop before plains))
    ≡ Ok front
unfolding statements_from
statements-done config kind costs before front plains past = rw (drop-past plains before past)
    (ap Ok (append-nil front))

pub ruleset kinds = (kinds-more, kinds-fault, kinds-done)

pub ruleset statements = (statements-more, statements-fault, statements-done)
