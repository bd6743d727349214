-- A yield rests on what its reads name.
use Rattle.std.proofs.Common.{◌≡◌, ℕ, ℤ, pos, int_le, Bool, true, false, List, [], ◌∷◌, ◌++◌, map}
use Rattle.std.proofs.Common.{Option, Some, Result, Ok, Err, IfOk, refl, ap, ◌∙◌, sym, subst}
use Rattle.std.proofs.Common.{int_eq}
use Rattle.std.specs.List.{All, list_all, range_with_len}
use Rattle.std.proofs.lemmas.List.Elements.{All-pop}
use Rattle.std.proofs.lemmas.Result.{IfOk-weaker, IfOk-at_ok}
use Rattle.reg_base.specs.Balances.{sum_rows}
use Rattle.reg_base.specs.Records.{Booked}
use Rattle.reg_base.specs.Results.{◌>>=◌, unless}
use Rattle.reg_base.specs.declared.fault.PostFault.{PostFault}
use Rattle.reg_base.specs.declared.fault.PostFault.TheVariants.{Broken}
use Rattle.reg_base.specs.declared.records.Doc.{Doc}
use Rattle.reg_base.specs.declared.records.Item.{Item}
use Rattle.reg_base.specs.declared.records.Mark.{Mark}
use Rattle.reg_base.specs.declared.records.Mark.TheVariants.{Expense}
use Rattle.reg_base.specs.declared.records.Side.{Side}
use Rattle.reg_base.specs.declared.value.Cell.{Cell}
use Rattle.reg_base.specs.declared.value.Value.{Value}
use Rattle.cfg_model.specs.declared.config.Config.{Config}
use Rattle.cfg_model.specs.declared.ledger.Chart.{Chart}
use Rattle.rule_lang.specs.declared.rules.Rules.{Rules}
use Rattle.rule_lang.specs.declared.statement.Act.{Act}
use Rattle.rule_lang.specs.declared.statement.Act.TheVariants.{Make, WriteOff, Require, Control}
use Rattle.rule_lang.specs.declared.statement.Act.TheVariants.{Entry}
use Rattle.rule_lang.specs.declared.statement.Bind.{Bind}
use Rattle.rule_lang.specs.declared.statement.Sum.{Sum}
use Rattle.post_model.specs.Scenes.{Scene, sum_value, overflow, is_number}
use Rattle.post_model.specs.Lefts.{read_item, left_of}
use Rattle.post_model.specs.WriteOffs.{holding_of, write_off, cost_of}
use Rattle.post_model.specs.Makes.{unless_zero, at_place, record_made, expenses_made, checked}
use Rattle.post_model.specs.Makes.{entry_made, record_behind, entry_behind, are_zero, numbers_for}
use Rattle.post_model.specs.Yields.{told_apart, holdings_of, first_sum, left_sum, written_off}
use Rattle.post_model.specs.Yields.{act_on, noted, act_run, depth_of, yield_of}
use Rattle.post_model.specs.Laws.{AgreeOn}
use Rattle.post_model.specs.declared.holding.Holding.{Holding}
use Rattle.post_model.specs.declared.made.Made.{Made}
use Rattle.post_model.specs.declared.made.Yield.{Yield}
use Rattle.reg_base.proofs.ForAbove.{IfOk-then, IfOk-next, IfOk-unless}
use Rattle.post_model.proofs.WalkLemmas.{Carries, Relation, at_cost, scene_of, all_made, told}
use Rattle.post_model.proofs.WalkLemmas.{yield_of-all_made, all_made-carries}

-- ---- an act notes no read itself

-- what was made has these reads
abbrev HasReads : List Item → Made → Type 0
HasReads reads made = made.reads ≡ reads

unless_zero-reads : (reads : List Item) (zero : Bool) (made : Made) (next : Result Made PostFault)
    → HasReads reads made → IfOk next (HasReads reads)
    → IfOk (unless_zero zero made next) (HasReads reads)
unless_zero-reads reads true made next has later = has
unless_zero-reads reads false made next has later = later

record_made-reads : (scene : Scene) (register : ℕ) (mark : Mark) (values : List Value)
    (numbers : List ℤ) (reads : List Item) (made : Made) → HasReads reads made
    → IfOk (record_made scene register mark values numbers made) (HasReads reads)
unfolding record_made
record_made-reads scene register mark values numbers reads made has =
    IfOk-unless (HasReads reads) (list_all is_number numbers) (overflow scene) _ (λ small.
    unless_zero-reads reads (are_zero numbers) made _ has
    (IfOk-next (HasReads reads)
    (at_place register made.sets.registers (record_behind scene mark values numbers)) _ (λ sets.
    has)))

expenses_made-reads : (scene : Scene) (register : ℕ) (values : Holding → List Value)
    (numbers : Holding → List ℤ) (reads : List Item) (takes : List Holding) (made : Made)
    → HasReads reads made
    → IfOk (expenses_made scene register values numbers takes made) (HasReads reads)
unfolding expenses_made
expenses_made-reads scene register values numbers reads [] made has = has
expenses_made-reads scene register values numbers reads (h ∷ hs) made has =
    IfOk-then (HasReads reads) (HasReads reads)
    (record_made scene register Expense (values h) (numbers h) made) _
    (record_made-reads scene register Expense (values h) (numbers h) reads made has)
    (expenses_made-reads scene register values numbers reads hs)

entry_made-reads : (scene : Scene) (chart : Option Chart) (ledger : ℕ)
    (debit credit : Option Side) (amount : ℤ) (reads : List Item) (made : Made)
    → HasReads reads made
    → IfOk (entry_made scene chart ledger debit credit amount made) (HasReads reads)
unfolding entry_made
entry_made-reads scene chart ledger debit credit amount reads made has =
    unless_zero-reads reads (int_eq amount (pos 0)) made _ has
    (IfOk-next (HasReads reads) (checked scene chart debit credit) _ (λ accepted.
    IfOk-next (HasReads reads)
    (at_place ledger made.sets.ledgers (entry_behind scene debit credit amount)) _ (λ sets. has)))

act_on-reads : (config : Config) (scene : Scene) (act : Act) (left : List Booked) (made : Made)
    → IfOk (act_on config scene act left made) (HasReads made.reads)
unfolding act_on written_off
act_on-reads config scene (Make verb register binds sums) left made =
    IfOk-next (HasReads made.reads)
    (numbers_for scene sums (range_with_len 0 (depth_of config register))) _ (λ numbers.
    record_made-reads scene register _ _ numbers made.reads made refl)
act_on-reads config scene (WriteOff fifo register binds quantity wanted amount) left made =
    IfOk-next (HasReads made.reads) (sum_value scene wanted) _ (λ n.
    IfOk-next (HasReads made.reads)
    (write_off scene n (holdings_of config fifo register quantity amount left)) _ (λ takes.
    expenses_made-reads scene register _ _ made.reads takes (at_cost (cost_of takes) made) refl))
act_on-reads config scene (Require register binds resource least code) left made =
    IfOk-next (HasReads made.reads) (sum_value scene least) _ (λ n.
    IfOk-unless (HasReads made.reads)
    (int_le n (left_sum (depth_of config register) resource left))
    (Broken scene.rule scene.line code) _ (λ enough. refl))
act_on-reads config scene (Control register resource) left made = refl
act_on-reads config scene (Entry ledger debit credit amount) left made =
    IfOk-next (HasReads made.reads) (sum_value scene amount) _ (λ n.
    entry_made-reads scene _ ledger _ _ n made.reads made refl)

-- ---- an act looks at the sums of what is left, and at nothing else of it

module _ (config : Config) (scene : Scene) (made : Made) (left other : List Booked) where
  write_off-same : (fifo : Bool) (register : ℕ) (binds : List Bind) (quantity : ℕ) (wanted : Sum)
      (amount : ℕ)
      → ((by : Option (List ℕ)) → sum_rows (depth_of config register) by left
      ≡ sum_rows (depth_of config register) by other)
      → act_on config scene (WriteOff fifo register binds quantity wanted amount) left made
      ≡ act_on config scene (WriteOff fifo register binds quantity wanted amount) other made
  unfolding act_on
  write_off-same fifo register binds quantity wanted amount same =
      λ i. sum_value scene wanted >>= λ n.
      write_off scene n (map (holding_of quantity amount)
      (same (Some (told_apart config register fifo)) i)) >>= λ takes.
      written_off config scene register binds quantity amount made takes

  require-same : (register : ℕ) (binds : List Bind) (resource : ℕ) (least : Sum) (code : List ℕ)
      → ((by : Option (List ℕ)) → sum_rows (depth_of config register) by left
      ≡ sum_rows (depth_of config register) by other)
      → act_on config scene (Require register binds resource least code) left made
      ≡ act_on config scene (Require register binds resource least code) other made
  unfolding act_on
  require-same register binds resource least code same =
      λ i. sum_value scene least >>= λ n.
      unless (int_le n (first_sum resource (same (Some []) i)))
      (Broken scene.rule scene.line code) >>= λ _.
      Ok made

-- ---- the other books make the same

-- what was read before is among what is read, and where the books agree on all of it, the other
-- books make the same
record RestsOn (A : Item → Type 0) (before after : Made) (other : Result Made PostFault)
    : Type 0 where
  kept : All A after.reads → All A before.reads
  same : All A after.reads → other ≡ Ok after

abbrev Rests : (Item → Type 0) → Relation
Rests A made one other = IfOk one (λ after. RestsOn A made after other)

IfOk-self : {F X : Type 0} (r : Result X F) → IfOk r (λ x. r ≡ Ok x)
IfOk-self (Ok x) = refl
IfOk-self (Err fault) = tt

IfOk-both : {F X : Type 0} (P Q : X → Type 0) (r : Result X F) → IfOk r P → IfOk r Q
    → IfOk r (λ x. P x × Q x)
IfOk-both P Q (Ok x) p q = (p, q)
IfOk-both P Q (Err fault) p q = tt

goes_on-same : (A : Item → Type 0) (made : Made) (one other : Result Made PostFault)
    (next another : Made → Result Made PostFault) → Rests A made one other
    → ((after : Made) → Rests A after (next after) (another after))
    → Rests A made (one >>= next) (other >>= another)
goes_on-same A made (Ok after) other next another first later =
    IfOk-weaker (next after) _ _ (λ last rests. record {
      kept = λ all. first.kept (rests.kept all);
      same = λ all. ap (λ t. t >>= another) (first.same (rests.kept all)) ∙ rests.same all;
    }) (later after)
goes_on-same A made (Err fault) other next another first later = tt

-- an act that reads nothing, and one that reads an item
module _ (A : Item → Type 0) (made : Made) (one other : Result Made PostFault) where
  reads_nothing : IfOk one (HasReads made.reads) → one ≡ other → Rests A made one other
  reads_nothing reads same =
      IfOk-weaker one _ _ (λ after both. record {
        kept = λ all. subst (All A) both.0 all;
        same = λ all. sym same ∙ both.1;
      })
      (IfOk-both _ _ one reads (IfOk-self one))

  reads_one : (item : Item) → IfOk one (HasReads (made.reads ++ item ∷ []))
      → (A item → one ≡ other) → Rests A made one other
  reads_one item reads same =
      IfOk-weaker one _ _ (λ after both. record {
        kept = λ all. (parts (subst (All A) both.0 all)).0;
        same = λ all. sym (same (parts (subst (All A) both.0 all)).1) ∙ both.1;
      })
      (IfOk-both _ _ one reads (IfOk-self one))
    where
      parts : All A (made.reads ++ item ∷ []) → All A made.reads × A item
      parts all = All-pop A (made.reads ++ item ∷ []) made.reads (Some item) refl all

module _ (config : Config) (doc : Doc) (books others : ℕ → List Booked) where
  abbrev Agree : Item → Type 0
  Agree = AgreeOn config doc books others

  act_run-same : (rule line : ℕ) (cells : List Cell) (cost : ℤ) (act : Act) (made : Made)
      → Rests Agree made (act_run config books (scene_of doc rule line cells cost) act made)
      (act_run config others (scene_of doc rule line cells cost) act made)
  unfolding act_run left_of read_item
  act_run-same rule line cells cost (Make verb register binds sums) made =
      reads_nothing Agree made _ _
      (act_on-reads config (scene_of doc rule line cells cost) (Make verb register binds sums) []
      made) refl
  act_run-same rule line cells cost (WriteOff fifo register binds quantity wanted amount) made =
      reads_one Agree made _ _ item
      (act_on-reads config scene (WriteOff fifo register binds quantity wanted amount)
      (left_of books doc made.sets item) (noted (Some item) made))
      (λ agree. write_off-same config scene (noted (Some item) made)
      (left_of books doc made.sets item) (left_of others doc made.sets item)
      fifo register binds quantity wanted amount (λ by. agree by _))
    where
      scene : Scene
      scene = scene_of doc rule line cells cost

      item : Item
      item = read_item config scene register binds
  act_run-same rule line cells cost (Require register binds resource least code) made =
      reads_one Agree made _ _ item
      (act_on-reads config scene (Require register binds resource least code)
      (left_of books doc made.sets item) (noted (Some item) made))
      (λ agree. require-same config scene (noted (Some item) made)
      (left_of books doc made.sets item) (left_of others doc made.sets item)
      register binds resource least code (λ by. agree by _))
    where
      scene : Scene
      scene = scene_of doc rule line cells cost

      item : Item
      item = read_item config scene register binds
  act_run-same rule line cells cost (Control register resource) made =
      reads_nothing Agree made _ _
      (act_on-reads config (scene_of doc rule line cells cost) (Control register resource) []
      made) refl
  act_run-same rule line cells cost (Entry ledger debit credit amount) made =
      reads_nothing Agree made _ _
      (act_on-reads config (scene_of doc rule line cells cost) (Entry ledger debit credit amount) []
      made) refl

  agree-carries : Carries config doc books others (Rests Agree)
  agree-carries = record {
    costs = λ made cost. record { kept = λ all. all; same = λ all. refl };
    stops = λ made fault. tt;
    goes_on = goes_on-same Agree;
    acts = act_run-same;
  }

  -- what these books make, the others make too, where they agree on what was read
  pub yield-same : (rules : Rules) (y : Yield) → yield_of config rules doc books ≡ Ok y
      → All (AgreeOn config doc books others) y.reads → yield_of config rules doc others ≡ Ok y
  yield-same rules y makes agree =
      IfOk-at_ok (λ x. All Agree x.reads → yield_of config rules doc others ≡ Ok x) makes
      (subst (λ r. IfOk r (λ x. All Agree x.reads → yield_of config rules doc others ≡ Ok x))
      (sym (yield_of-all_made config rules doc books))
      (IfOk-then _ _ (all_made config rules doc books) (λ made. Ok (told made))
      (all_made-carries config doc books others (Rests Agree) agree-carries rules)
      (λ made rests all. yield_of-all_made config rules doc others
      ∙ ap (λ t. t >>= λ m. Ok (told m)) (rests.same all)))) agree
