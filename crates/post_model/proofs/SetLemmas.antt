-- The sets that are made are within their limits.
use Rattle.std.proofs.Common.{◌≡◌, ℕ, ℤ, pos, zero, suc, ◌+◌, ◌≤◌, nat_lt, int_eq, int_le, Bool}
use Rattle.std.proofs.Common.{true, false, List, [], ◌∷◌, ◌++◌, map, length, set, replicate, Option}
use Rattle.std.proofs.Common.{Some, None, unwrap_or, Result, Ok, Err, IfOk, refl, ap, ◌∙◌, sym}
use Rattle.std.proofs.Common.{subst, arith}
use Rattle.std.specs.Prelude.{slice_get}
use Rattle.std.specs.List.{All, AllZip, list_all, range_with_len}
use Rattle.std.proofs.lemmas.List.{length-append, map-append}
use Rattle.std.proofs.lemmas.List.Elements.{All-nil, All-push}
use Rattle.std.proofs.lemmas.List.FromFn.{length-range_with_len, length-map-range_with_len}
use Rattle.std.proofs.lemmas.List.FromFn.{map-range_with_len_more}
use Rattle.std.proofs.lemmas.List.Folds.{map_fixed}
use Rattle.std.proofs.lemmas.List.Sums.{AllPass-from_list_all}
use Rattle.std.proofs.lemmas.Option.{none-some, same_Some}
use Rattle.reg_base.specs.Records.{Booked}
use Rattle.reg_base.specs.Results.{◌>>=◌}
use Rattle.reg_base.specs.declared.fault.PostFault.{PostFault}
use Rattle.reg_base.specs.declared.fault.PostFault.TheVariants.{Broken, TooManyRecords}
use Rattle.reg_base.specs.declared.records.Doc.{Doc}
use Rattle.reg_base.specs.declared.records.Item.{Item}
use Rattle.reg_base.specs.declared.records.Mark.{Mark}
use Rattle.reg_base.specs.declared.records.Mark.TheVariants.{Expense}
use Rattle.reg_base.specs.declared.records.Posting.{Posting}
use Rattle.reg_base.specs.declared.records.Rec.{Rec}
use Rattle.reg_base.specs.declared.records.Side.{Side}
use Rattle.reg_base.specs.declared.value.Value.{Value}
use Rattle.cfg_model.specs.declared.config.Config.{Config}
use Rattle.cfg_model.specs.declared.ledger.Chart.{Chart}
use Rattle.cfg_model.specs.declared.register.Register.{Register}
use Rattle.rule_lang.specs.declared.rules.Rules.{Rules}
use Rattle.rule_lang.specs.declared.statement.Act.{Act}
use Rattle.rule_lang.specs.declared.statement.Act.TheVariants.{Make, WriteOff, Require, Control}
use Rattle.rule_lang.specs.declared.statement.Act.TheVariants.{Entry}
use Rattle.rule_lang.specs.declared.statement.Sum.{Sum}
use Rattle.post_model.specs.Scenes.{Scene, sum_value, overflow, is_number, terms_value}
use Rattle.post_model.specs.Lefts.{read_of, resource_count}
use Rattle.post_model.specs.WriteOffs.{write_off, cost_of}
use Rattle.post_model.specs.Makes.{most_records, numbers_for, number_for}
use Rattle.post_model.specs.Makes.{at_place, record_behind, are_zero, unless_zero, record_made}
use Rattle.post_model.specs.Makes.{with_registers, with_ledgers, expenses_made, checked}
use Rattle.post_model.specs.Makes.{entry_behind, entry_made}
use Rattle.post_model.specs.Yields.{depth_of, holdings_of, written_off, left_sum, act_on, noted}
use Rattle.post_model.specs.Yields.{act_run, yield_of}
use Rattle.post_model.specs.Laws.{AreRecordsOf, AreEntries, AreSetsOf}
use Rattle.post_model.specs.declared.holding.Holding.{Holding}
use Rattle.post_model.specs.declared.made.Made.{Made}
use Rattle.reg_base.proofs.ForAbove.{IfOk-then, IfOk-next, IfOk-unless}
use Rattle.post_model.proofs.WalkLemmas.{Carries, Relation, scene_of, all_made, told}
use Rattle.post_model.proofs.WalkLemmas.{yield_of-all_made, all_made-carries}

-- ---- lists of lists, each of which goes with an element of another list

module _ {C X : Type 0} (R : C → List X → Type 0) where
  -- a list at a place goes with the element there
  zip-at : (cs : List C) (lists : List (List X)) (place : ℕ) (c : C) → AllZip R cs lists
      → slice_get cs place ≡ Some c → R c (unwrap_or (slice_get lists place) [])
  zip-at [] lists place c all is = absurd (none-some c is)
  zip-at (c ∷ cs) [] place d all is = absurd all
  zip-at (c ∷ cs) (xs ∷ lists) zero d all is = subst (λ e. R e xs) (same_Some c d is) all.0
  zip-at (c ∷ cs) (xs ∷ lists) (suc place) d all is = zip-at cs lists place d all.1 is

  zip-set : (cs : List C) (lists : List (List X)) (place : ℕ) (xs : List X) → AllZip R cs lists
      → ((c : C) → slice_get cs place ≡ Some c → R c xs) → AllZip R cs (set lists place xs)
  zip-set [] [] place xs all is = all
  zip-set [] (ys ∷ lists) place xs all is = absurd all
  zip-set (c ∷ cs) [] place xs all is = absurd all
  zip-set (c ∷ cs) (ys ∷ lists) zero xs all is = (is c refl, all.1)
  zip-set (c ∷ cs) (ys ∷ lists) (suc place) xs all is =
      (all.0, zip-set cs lists place xs all.1 is)

  zip-none : (cs : List C) → ((c : C) → R c []) → AllZip R cs (replicate (length cs) [])
  zip-none [] none = tt
  zip-none (c ∷ cs) none = (none c, zip-none cs none)

  -- one of them changed
  at_place-zip : (cs : List C) (place : ℕ) (lists : List (List X))
      (change : List X → Result (List X) PostFault) → AllZip R cs lists
      → ((c : C) (xs : List X) → slice_get cs place ≡ Some c → R c xs → IfOk (change xs) (R c))
      → IfOk (at_place place lists change) (AllZip R cs)
  unfolding at_place
  at_place-zip cs place lists change all kept =
      IfOk-then (λ xs. (c : C) → slice_get cs place ≡ Some c → R c xs) (AllZip R cs)
      (change old) (λ xs. Ok (set lists place xs))
      (for_each (change old) (λ c is. kept c old is (zip-at cs lists place c all is)))
      (λ xs is. zip-set cs lists place xs all is)
    where
      old : List X
      old = unwrap_or (slice_get lists place) []

      for_each : (r : Result (List X) PostFault)
          → ((c : C) → slice_get cs place ≡ Some c → IfOk r (R c))
          → IfOk r (λ xs. (c : C) → slice_get cs place ≡ Some c → R c xs)
      for_each (Ok xs) each = each
      for_each (Err fault) each = tt

-- ---- line numbers

range_with_len-more : (a n j : ℕ) → a + n ≡ j
    → range_with_len a (n + 1) ≡ range_with_len a n ++ j ∷ []
range_with_len-more a n j is =
    sym (as_it_is (range_with_len a (n + 1))) ∙ map-range_with_len_more (λ k. k) a n j is
    ∙ ap (λ ks. ks ++ j ∷ []) (as_it_is (range_with_len a n))
  where
    as_it_is : (ks : List ℕ) → map (λ k. k) ks ≡ ks
    as_it_is ks = map_fixed (λ k. k) ks (λ k d within. refl)

module _ {X : Type 0} (line : X → ℕ) where
  -- one more under the next number
  numbered-more : (xs : List X) (x : X) → map line xs ≡ range_with_len 1 (length xs)
      → line x ≡ length xs + 1 → map line (xs ++ x ∷ []) ≡ range_with_len 1 (length (xs ++ x ∷ []))
  numbered-more xs x numbered is =
      map-append line xs (x ∷ [])
      ∙ (λ i. numbered i ++ is i ∷ [])
      ∙ sym (range_with_len-more 1 (length xs) (length xs + 1) (omega arith))
      ∙ ap (range_with_len 1) (sym (length-append xs (x ∷ [])))

few-more : {X : Type 0} (xs : List X) (x : X) → nat_lt (length xs) most_records ≡ true
    → length (xs ++ x ∷ []) ≤ most_records
few-more xs x room = let more = length-append xs (x ∷ []) in grind arith

-- ---- records

record_behind-kept : (scene : Scene) (mark : Mark) (values : List Value) (numbers : List ℤ)
    (register : Register) (recs : List Rec) → length numbers ≡ length register.resources
    → All (λ n. is_number n ≡ true) numbers → AreRecordsOf register recs
    → IfOk (record_behind scene mark values numbers recs) (AreRecordsOf register)
record_behind-kept scene mark values numbers register recs complete small kept =
    IfOk-unless (AreRecordsOf register) (nat_lt (length recs) most_records) TooManyRecords
    (λ _. Ok (recs ++ rec ∷ [])) (λ room. record {
      few = few-more recs rec room;
      numbered = numbered-more (λ r. r.line) recs rec kept.numbered refl;
      complete = All-push (λ r. length r.sums ≡ length register.resources) recs rec kept.complete
          complete;
      small = All-push (λ r. All (λ n. is_number n ≡ true) r.sums) recs rec kept.small small;
    })
  where
    rec : Rec
    rec = record {
      line = length recs + 1;
      period = scene.doc.date;
      mark = mark;
      values = values;
      sums = numbers;
    }

entry_behind-kept : (scene : Scene) (debit credit : Option Side) (amount : ℤ)
    (entries : List Posting) → is_number amount ≡ true → AreEntries entries
    → IfOk (entry_behind scene debit credit amount entries) AreEntries
entry_behind-kept scene debit credit amount entries small kept =
    IfOk-unless AreEntries (nat_lt (length entries) most_records) TooManyRecords
    (λ _. Ok (entries ++ entry ∷ [])) (λ room. record {
      few = few-more entries entry room;
      numbered = numbered-more (λ e. e.line) entries entry kept.numbered refl;
      small = All-push (λ e. is_number e.amount ≡ true) entries entry kept.small small;
    })
  where
    entry : Posting
    entry = record {
      line = length entries + 1;
      period = scene.doc.date;
      debit = debit;
      credit = credit;
      amount = amount;
    }

-- ---- what is made

module _ (config : Config) where
  abbrev IsMade : Made → Type 0
  IsMade made = AreSetsOf config made.sets

  unless_zero-kept : (zero : Bool) (made : Made) (next : Result Made PostFault) → IsMade made
      → IfOk next IsMade → IfOk (unless_zero zero made next) IsMade
  unless_zero-kept true made next is later = is
  unless_zero-kept false made next is later = later

  record_made-kept : (scene : Scene) (register : ℕ) (mark : Mark) (values : List Value)
      (numbers : List ℤ) (made : Made) → length numbers ≡ depth_of config register → IsMade made
      → IfOk (record_made scene register mark values numbers made) IsMade
  unfolding record_made
  record_made-kept scene register mark values numbers made complete is =
      IfOk-unless IsMade (list_all is_number numbers) (overflow scene) _ (λ small.
      unless_zero-kept (are_zero numbers) made _ is
      (IfOk-then (AllZip AreRecordsOf config.registers) IsMade
      (at_place register made.sets.registers (record_behind scene mark values numbers))
      (λ registers. Ok (with_registers made registers))
      (at_place-zip AreRecordsOf config.registers register made.sets.registers
      (record_behind scene mark values numbers) is.registers (λ r recs found kept.
      record_behind-kept scene mark values numbers r recs (complete ∙ ap resource_count found)
      (AllPass-from_list_all is_number numbers small) kept))
      (λ registers all. record { registers = all; ledgers = is.ledgers })))

  expenses_made-kept : (scene : Scene) (register : ℕ) (values : Holding → List Value)
      (numbers : Holding → List ℤ) (takes : List Holding) (made : Made)
      → ((h : Holding) → length (numbers h) ≡ depth_of config register) → IsMade made
      → IfOk (expenses_made scene register values numbers takes made) IsMade
  unfolding expenses_made
  expenses_made-kept scene register values numbers [] made complete is = is
  expenses_made-kept scene register values numbers (h ∷ hs) made complete is =
      IfOk-then IsMade IsMade (record_made scene register Expense (values h) (numbers h) made) _
      (record_made-kept scene register Expense (values h) (numbers h) made (complete h) is)
      (λ after kept. expenses_made-kept scene register values numbers hs after complete kept)

  entry_made-kept : (scene : Scene) (chart : Option Chart) (ledger : ℕ)
      (debit credit : Option Side) (amount : ℤ) (made : Made) → is_number amount ≡ true
      → IsMade made → IfOk (entry_made scene chart ledger debit credit amount made) IsMade
  unfolding entry_made
  entry_made-kept scene chart ledger debit credit amount made small is =
      unless_zero-kept (int_eq amount (pos 0)) made _ is
      (IfOk-next IsMade (checked scene chart debit credit) _ (λ accepted.
      IfOk-then (AllZip (λ c entries. AreEntries entries) config.ledgers) IsMade
      (at_place ledger made.sets.ledgers (entry_behind scene debit credit amount))
      (λ ledgers. Ok (with_ledgers made ledgers))
      (at_place-zip (λ c entries. AreEntries entries) config.ledgers ledger made.sets.ledgers
      (entry_behind scene debit credit amount) is.ledgers (λ c entries found kept.
      entry_behind-kept scene debit credit amount entries small kept))
      (λ ledgers all. record { registers = is.registers; ledgers = all })))

  -- a sum is a number
  sum_value-small : (scene : Scene) (sum : Sum)
      → IfOk (sum_value scene sum) (λ n. is_number n ≡ true)
  unfolding sum_value
  sum_value-small scene sum =
      IfOk-unless (λ n. is_number n ≡ true) (is_number (terms_value scene sum.terms))
      (overflow scene) (λ _. Ok (terms_value scene sum.terms)) (λ small. small)

  numbers_for-length : (scene : Scene) (sums : List (ℕ × Sum)) (rs : List ℕ)
      → IfOk (numbers_for scene sums rs) (λ numbers. length numbers ≡ length rs)
  unfolding numbers_for
  numbers_for-length scene sums [] = refl
  numbers_for-length scene sums (r ∷ rs) =
      IfOk-next _ (number_for scene sums r) _ (λ number.
      IfOk-then (λ numbers. length numbers ≡ length rs) _ (numbers_for scene sums rs)
      (λ numbers. Ok (number ∷ numbers)) (numbers_for-length scene sums rs)
      (λ numbers same. ap suc same))

  act_on-kept : (scene : Scene) (act : Act) (left : List Booked) (made : Made) → IsMade made
      → IfOk (act_on config scene act left made) IsMade
  unfolding act_on written_off
  act_on-kept scene (Make verb register binds sums) left made is =
      IfOk-then (λ numbers. length numbers ≡ length (range_with_len 0 (depth_of config register)))
      IsMade (numbers_for scene sums (range_with_len 0 (depth_of config register))) _
      (numbers_for-length scene sums (range_with_len 0 (depth_of config register)))
      (λ numbers same. record_made-kept scene register _ _ numbers made
      (same ∙ length-range_with_len 0 (depth_of config register)) is)
  act_on-kept scene (WriteOff fifo register binds quantity wanted amount) left made is =
      IfOk-next IsMade (sum_value scene wanted) _ (λ n.
      IfOk-next IsMade (write_off scene n (holdings_of config fifo register quantity amount left)) _
      (λ takes. expenses_made-kept scene register _ _ takes (record made { cost = cost_of takes })
      (λ h. length-map-range_with_len _ 0 (depth_of config register)) is))
  act_on-kept scene (Require register binds resource least code) left made is =
      IfOk-next IsMade (sum_value scene least) _ (λ n.
      IfOk-unless IsMade (int_le n (left_sum (depth_of config register) resource left))
      (Broken scene.rule scene.line code) _ (λ enough. is))
  act_on-kept scene (Control register resource) left made is = is
  act_on-kept scene (Entry ledger debit credit amount) left made is =
      IfOk-then (λ n. is_number n ≡ true) IsMade (sum_value scene amount) _
      (sum_value-small scene amount)
      (λ n small. entry_made-kept scene _ ledger _ _ n made small is)

  -- what is read changes no set
  noted-kept : (read : Option Item) (made : Made) → IsMade made → IsMade (noted read made)
  noted-kept None made is = is
  noted-kept (Some item) made is = is

  -- where sets are within their limits before, they are so behind
  abbrev Keeps : Relation
  Keeps made one other = IsMade made → IfOk one IsMade

  goes_on-keeps : (made : Made) (one other : Result Made PostFault)
      (next another : Made → Result Made PostFault) → Keeps made one other
      → ((after : Made) → Keeps after (next after) (another after))
      → Keeps made (one >>= next) (other >>= another)
  goes_on-keeps made one other next another first later is =
      IfOk-then IsMade IsMade one next (first is) later

  keeps-carries : (doc : Doc) (books : ℕ → List Booked) → Carries config doc books books Keeps
  unfolding act_run
  keeps-carries doc books = record {
    costs = λ made cost is. is;
    stops = λ made fault is. tt;
    goes_on = goes_on-keeps;
    acts = λ rule line cells cost act made is.
        act_on-kept (scene_of doc rule line cells cost) act _ _
        (noted-kept (read_of config (scene_of doc rule line cells cost) act) made is);
  }

  no_records : (register : Register) → AreRecordsOf register []
  no_records register = record {
    few = omega arith;
    numbered = refl;
    complete = All-nil (λ r. length r.sums ≡ length register.resources);
    small = All-nil (λ r. All (λ n. is_number n ≡ true) r.sums);
  }

  no_entries : AreEntries []
  no_entries = record {
    few = omega arith;
    numbered = refl;
    small = All-nil (λ e. is_number e.amount ≡ true);
  }

  -- the sets of a yield are within their limits
  pub yield-within : (rules : Rules) (doc : Doc) (books : ℕ → List Booked)
      → IfOk (yield_of config rules doc books) (λ y. AreSetsOf config y.sets)
  yield-within rules doc books =
      subst (λ r. IfOk r (λ y. AreSetsOf config y.sets))
      (sym (yield_of-all_made config rules doc books))
      (IfOk-then IsMade (λ y. AreSetsOf config y.sets) (all_made config rules doc books)
      (λ made. Ok (told made))
      (all_made-carries config doc books books Keeps (keeps-carries doc books) rules
      (record {
        registers = zip-none AreRecordsOf config.registers no_records;
        ledgers = zip-none (λ c entries. AreEntries entries) config.ledgers (λ c. no_entries);
      }))
      (λ made is. is))
