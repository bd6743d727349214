-- What statements make stays small.
use Rattle.std.proofs.Common.{◌≡◌, ℕ, ◌*◌, ◌≤◌, ℤ, pos, ◌-ℤ◌, unsigned_abs, Bool}
use Rattle.std.proofs.Common.{true, false, ◌&&◌, Option, None, Some, List, [], ◌∷◌, ◌++◌, length}
use Rattle.std.proofs.Common.{Result, Ok, Err, IfOk, refl, sym, subst, arith}
use Rattle.std.proofs.Common.{length-append, set, int_le}
use Rattle.std.specs.Prelude.{All, unwrap_or, slice_get, nat_lt, option_map}
use Rattle.std.specs.Ordering.{int_eq}
use Rattle.std.specs.List.{list_all, range_with_len}
use Rattle.std.proofs.lemmas.Int.{ints}
use Rattle.std.proofs.lemmas.List.Elements.{All-nil, All-cons, All-head, All-tail}
use Rattle.std.proofs.lemmas.List.Elements.{All-set, All-push}
use Rattle.reg_base.specs.declared.fault.PostFault.{PostFault}
use Rattle.reg_base.specs.declared.fault.PostFault.TheVariants.{Negative, Shortage, Broken}
use Rattle.reg_base.specs.declared.fault.PostFault.TheVariants.{TooManyRecords}
use Rattle.reg_base.specs.declared.records.Item.{Item}
use Rattle.reg_base.specs.declared.records.Mark.{Mark}
use Rattle.reg_base.specs.declared.records.Mark.TheVariants.{Expense}
use Rattle.reg_base.specs.declared.records.Rec.{Rec}
use Rattle.reg_base.specs.declared.records.Side.{Side}
use Rattle.reg_base.specs.declared.value.Value.{Value}
use Rattle.reg_base.specs.Numbers.{largest_units}
use Rattle.reg_base.specs.Records.{Booked}
use Rattle.reg_base.proofs.ForAbove.{IfOk-then, IfOk-next, IfOk-unless}
use Rattle.cfg_model.specs.declared.config.Config.{Config}
use Rattle.cfg_model.specs.declared.ledger.Chart.{Chart}
use Rattle.rule_lang.specs.declared.statement.Act.{Act}
use Rattle.rule_lang.specs.declared.statement.Act.TheVariants.{Make, WriteOff, Require, Control}
use Rattle.rule_lang.specs.declared.statement.Act.TheVariants.{Entry}
use Rattle.post_model.specs.Scenes.{Scene, is_number, overflow, sum_value}
use Rattle.post_model.specs.declared.holding.Holding.{Holding}
use Rattle.post_model.specs.declared.made.Made.{Made}
use Rattle.post_model.specs.Lefts.{read_of, found_by}
use Rattle.post_model.specs.WriteOffs.{all_in_stock, write_off, taken, cost_of}
use Rattle.post_model.specs.Makes.{most_records, behind, at_place, record_behind, are_zero}
use Rattle.post_model.specs.Makes.{unless_zero, with_registers, with_ledgers, record_made}
use Rattle.post_model.specs.Makes.{expenses_made, entry_made, numbers_for, mark_of, values_with}
use Rattle.post_model.specs.Makes.{taken_numbers, checked, entry_behind, side_value}
use Rattle.post_model.specs.Yields.{width_of, depth_of, holdings_of, written_off, left_sum, act_on}
use Rattle.post_model.specs.Yields.{noted, act_run}
use Rattle.reg_base.specs.declared.tried.Fault.{Fault}
use Rattle.post_rules.specs.Sheets.{HasNumbers, IsSheet}
use Rattle.post_rules.specs.Bounds.{largest_sum, IsSmallHolding, AreSmallHoldings}
use Rattle.post_rules.specs.Bounds.{IsSmallSet, IsSmallMade, IsReadable}
use Rattle.reg_base.specs.Tries.{Tries}
use Rattle.post_rules.proofs.LeftLemmas.{sum-within}
use Rattle.post_rules.proofs.LeftLemmas.{small-place, IsReadable-left_of, AreSmall-holdings_of}
use Rattle.post_rules.proofs.SmallTakes.{AreSmall-taken}

-- ---- records

both-true : (a b : Bool) → (a && b) ≡ true → (a ≡ true) × (b ≡ true)
both-true true b e = (refl, e)
both-true false b e = absurd (cc)

numbers-within : (numbers : List ℤ) → list_all is_number numbers ≡ true
    → All (λ n. unsigned_abs n ≤ largest_units) numbers
numbers-within [] all = All-nil _
numbers-within (n ∷ ns) all =
    let parts : (is_number n ≡ true) × (list_all is_number ns ≡ true) =
    both-true (is_number n) (list_all is_number ns) all in
    All-cons (λ n. unsigned_abs n ≤ largest_units) n ns (grind (arith, parts.0))
    (numbers-within ns parts.1)

small-behind : (recs : List Rec) (rec : Rec) → IsSmallSet recs → HasNumbers rec
    → IfOk (behind recs rec) IsSmallSet
small-behind recs rec small has =
    IfOk-unless IsSmallSet (nat_lt (length recs) most_records) TooManyRecords
    (λ _. Ok (recs ++ rec ∷ []))
    (λ room. record {
      few = grind (arith, room, length-append recs (rec ∷ []));
      small = All-push HasNumbers recs rec small.small has;
    })

small-at_place : (place : ℕ) (sets : List (List Rec))
    (change : List Rec → Result (List Rec) PostFault) → All IsSmallSet sets
    → ((recs : List Rec) → IsSmallSet recs → IfOk (change recs) IsSmallSet)
    → IfOk (at_place place sets change) (All IsSmallSet)
unfolding at_place
small-at_place place sets change small each =
    IfOk-then IsSmallSet (All IsSmallSet) (change (unwrap_or (slice_get sets place) []))
    (λ recs. Ok (set sets place recs)) (each _ (small-place sets place small))
    (λ recs is. All-set IsSmallSet sets place recs is small)

small-unless_zero : (zeros : Bool) (made : Made) (next : Result Made PostFault) → IsSmallMade made
    → IfOk next IsSmallMade → IfOk (unless_zero zeros made next) IsSmallMade
small-unless_zero true made next small later = small
small-unless_zero false made next small later = later

small-record_made : (scene : Scene) (register : ℕ) (mark : Mark) (values : List Value)
    (numbers : List ℤ) (made : Made) → IsSmallMade made
    → IfOk (record_made scene register mark values numbers made) IsSmallMade
unfolding record_made
small-record_made scene register mark values numbers made small =
    IfOk-unless IsSmallMade (list_all is_number numbers) (overflow scene) _
    (λ all. small-unless_zero (are_zero numbers) made _ small
    (IfOk-then (All IsSmallSet) IsSmallMade
    (at_place register made.sets.registers (record_behind scene mark values numbers))
    (λ registers. Ok (with_registers made registers))
    (small-at_place register made.sets.registers (record_behind scene mark values numbers)
    small.sets_within (λ recs is. small-behind recs _ is (numbers-within numbers all)))
    (λ registers is. record { sets_within = is; cost_within = small.cost_within })))

small-expenses_made : (scene : Scene) (register : ℕ) (values : Holding → List Value)
    (numbers : Holding → List ℤ) (takes : List Holding) (made : Made) → IsSmallMade made
    → IfOk (expenses_made scene register values numbers takes made) IsSmallMade
unfolding expenses_made
small-expenses_made scene register values numbers [] made small = small
small-expenses_made scene register values numbers (h ∷ hs) made small =
    IfOk-then IsSmallMade IsSmallMade
    (record_made scene register Expense (values h) (numbers h) made)
    (expenses_made scene register values numbers hs)
    (small-record_made scene register Expense (values h) (numbers h) made small)
    (λ m is. small-expenses_made scene register values numbers hs m is)

small-entry_made : (scene : Scene) (chart : Option Chart) (ledger : ℕ) (debit credit : Option Side)
    (amount : ℤ) (made : Made) → IsSmallMade made
    → IfOk (entry_made scene chart ledger debit credit amount made) IsSmallMade
unfolding entry_made
small-entry_made scene chart ledger debit credit amount made small =
    small-unless_zero (int_eq amount (pos 0)) made _ small
    (IfOk-next IsSmallMade (checked scene chart debit credit) _
    (λ accepted. IfOk-next IsSmallMade
    (at_place ledger made.sets.ledgers (entry_behind scene debit credit amount))
    (λ ledgers. Ok (with_ledgers made ledgers))
    (λ ledgers. record { sets_within = small.sets_within; cost_within = small.cost_within })))

-- ---- write-offs

small-write_off : (scene : Scene) (wanted : ℤ) (holdings : List Holding)
    → AreSmallHoldings holdings → IfOk (write_off scene wanted holdings) AreSmallHoldings
unfolding write_off
small-write_off scene wanted holdings small =
    IfOk-unless AreSmallHoldings (int_le (pos 0) wanted) (Negative scene.rule scene.line) _
    (λ above. IfOk-unless AreSmallHoldings (int_le wanted (all_in_stock holdings))
    (Shortage scene.rule scene.line (wanted -ℤ all_in_stock holdings))
    (λ _. Ok (taken wanted holdings))
    (λ within. AreSmall-taken wanted holdings (grind (arith, ints, above)) small))

cost-within : (takes : List Holding) → All IsSmallHolding takes
    → unsigned_abs (cost_of takes) ≤ length takes * largest_sum
unfolding cost_of
cost-within [] small = omega arith
cost-within (h ∷ hs) small =
    let first : IsSmallHolding h = All-head IsSmallHolding h hs small in
    let rest : unsigned_abs (cost_of hs) ≤ length hs * largest_sum =
    cost-within hs (All-tail IsSmallHolding h hs small) in
    omega (
      arith,
      sum-within h.amount (cost_of hs) largest_sum (length hs * largest_sum)
          first.amount_within rest,
    )

-- ---- acts

small-act_on : (config : Config) (scene : Scene) (act : Act) (left : List Booked) (made : Made)
    → IsReadable left → IsSmallMade made
    → IfOk (act_on config scene act left made) IsSmallMade
unfolding act_on written_off
small-act_on config scene (Make verb register binds sums) left made readable small =
    IfOk-next IsSmallMade
    (numbers_for scene sums (range_with_len 0 (depth_of config register))) _
    (λ numbers. small-record_made scene register (mark_of verb)
    (values_with scene binds None (width_of config register)) numbers made small)
small-act_on config scene (WriteOff fifo register binds quantity wanted amount) left made readable
    small =
    let holdings : List Holding = holdings_of config fifo register quantity amount left in
    IfOk-next IsSmallMade (sum_value scene wanted) _
    (λ n. IfOk-then AreSmallHoldings IsSmallMade (write_off scene n holdings) _
    (small-write_off scene n holdings
    (AreSmall-holdings_of config fifo register quantity amount left readable))
    (λ takes is. small-expenses_made scene register
    (λ (h : Holding). values_with scene binds h.lot (width_of config register))
    (λ (h : Holding). taken_numbers quantity amount h (depth_of config register)) takes
    (record made { cost = cost_of takes })
    (record {
      sets_within = small.sets_within;
      cost_within = omega (arith, cost-within takes is.small, is.few);
    })))
small-act_on config scene (Require register binds resource least code) left made readable small =
    IfOk-next IsSmallMade (sum_value scene least) _
    (λ n. IfOk-unless IsSmallMade (int_le n (left_sum (depth_of config register) resource left))
    (Broken scene.rule scene.line code) (λ _. Ok made) (λ _. small))
small-act_on config scene (Control register resource) left made readable small =
    record { sets_within = small.sets_within; cost_within = small.cost_within }
small-act_on config scene (Entry ledger debit credit amount) left made readable small =
    IfOk-next IsSmallMade (sum_value scene amount) _
    (λ n. small-entry_made scene (slice_get config.ledgers ledger) ledger
    (option_map (side_value scene) debit) (option_map (side_value scene) credit) n made small)

-- what a read finds can be read
IsReadable-found_by : (books : ℕ → List Booked) (scene : Scene) (made : Made) (read : Option Item)
    → ((register : ℕ) → IsSheet (books register)) → IsSmallMade made
    → IsReadable (found_by books scene.doc made.sets read)
IsReadable-found_by books scene made None sheets small =
    record { few = omega arith; small = All-nil _ }
IsReadable-found_by books scene made (Some item) sheets small =
    IsReadable-left_of books scene.doc made.sets item (sheets item.space) small.sets_within

small-noted : (read : Option Item) (made : Made) → IsSmallMade made
    → IsSmallMade (noted read made)
small-noted None made small = small
small-noted (Some item) made small =
    record { sets_within = small.sets_within; cost_within = small.cost_within }

-- what an act makes stays small
pub small-act_run : (config : Config) (books : ℕ → List Booked) (scene : Scene) (act : Act)
    (made : Made) → ((register : ℕ) → IsSheet (books register)) → IsSmallMade made
    → IfOk (act_run config books scene act made) IsSmallMade
unfolding act_run
small-act_run config books scene act made sheets small =
    small-act_on config scene act (found_by books scene.doc made.sets (read_of config scene act))
    (noted (read_of config scene act) made)
    (IsReadable-found_by books scene made (read_of config scene act) sheets small)
    (small-noted (read_of config scene act) made small)

-- what holds of the value of a definition holds of what a call makes
pub kept-by : {X : Type 0} (P : X → Type 0) (result : Result X (Fault PostFault))
    (definition : Result X PostFault) → Tries result definition → IfOk definition P
    → IfOk result P
kept-by P (Ok x) definition is of = subst (λ r. IfOk r P) is of
kept-by P (Err fault) definition is of = tt

-- what a value is known to be has P
pub IfOk-same : {F X : Type 0} (P : X → Type 0) (r : Result X F) (x : X) → IfOk r (λ y. y ≡ x)
    → P x → IfOk r P
IfOk-same P (Ok y) x is of = subst P (sym is) of
IfOk-same P (Err fault) x is of = tt
