-- No number that is read by hand is past the largest one.
use Rattle.std.proofs.Common.{◌≡◌, ℕ, ℤ, true, ◌≤◌, unsigned_abs, option_map, Option, Some, None}
use Rattle.std.proofs.Common.{IfSome, List, [], ◌∷◌, slice_get, Result, Ok, Err, IfOk}
use Rattle.std.specs.Prelude.{All}
use Rattle.std.specs.Result.{result_ok}
use Rattle.std.proofs.lemmas.Bool.{le-leb}
use Rattle.std.proofs.lemmas.List.Elements.{All-nil, All-cons}
use Rattle.reg_base.specs.declared.num.Num.{Num}
use Rattle.reg_base.specs.declared.num.NumFault.{NumFault}
use Rattle.reg_base.specs.Numbers.{largest_units, parse_num}
use Rattle.reg_base.specs.Results.{◌>>=◌, some_or, each}
use Rattle.reg_base.proofs.ForAbove.{IfOk-then, IfOk-next, IfOk-unless, IfOk-some_or}
use Rattle.cfg_model.specs.declared.config.Config.{Config}
use Rattle.cfg_model.specs.declared.register.Register.{Register}
use Rattle.cfg_model.specs.declared.register.Resource.{Resource}
use Rattle.post_model.specs.Scenes.{is_number}
use Rattle.desk_words.specs.declared.reply.Refusal.TheVariants.{BadField}
use Rattle.desk_words.specs.declared.reply.Field.TheVariants.{Space as SpaceField, Values, Sums}
use Rattle.desk_words.specs.declared.reply.Field.TheVariants.{Kind}
use Rattle.desk_words.specs.declared.request.RecordText.{RecordText}
use Rattle.desk_words.specs.declared.request.RecordText.TheVariants.{Register as InRegister}
use Rattle.desk_words.specs.declared.request.RecordText.TheVariants.{Ledger as InLedger}
use Rattle.desk_words.specs.declared.request.RegisterText.{RegisterText}
use Rattle.desk_words.specs.declared.request.SetText.{SetText}
use Rattle.desk_model.specs.declared.plan.Given.{Given}
use Rattle.desk_model.specs.declared.plan.GivenSet.TheVariants.{Records, Entries}
use Rattle.desk_model.specs.declared.plan.Space.{Space}
use Rattle.desk_model.specs.declared.plan.Space.TheVariants.{Register as RegisterSpace}
use Rattle.desk_model.specs.declared.plan.Space.TheVariants.{Ledger as LedgerSpace}
use Rattle.desk_model.specs.GivenRecords.{value_in, units_in, amount_in, with_front, values_for}
use Rattle.desk_model.specs.GivenRecords.{takes_mark, record_in_register, given_record, given_entry}
use Rattle.desk_model.specs.Manuals.{given_set, sets_in}
use Rattle.desk_plans.specs.Bounds.{AreNumbers, GivesNumbersIn}

-- what holds of all that can be read holds of each that is
each-All : {F A X : Type 0} (P : X → Type 0) (read : A → Result X F) →
    ((x : A) → IfOk (read x) P) → (xs : List A) → IfOk (each read xs) (All P)
each-All P read is [] = All-nil P
each-All P read is (x ∷ xs) =
    IfOk-then P (All P) (read x) (λ y. each read xs >>= λ ys. Ok (y ∷ ys)) (is x)
    (λ y holds. IfOk-then (All P) (All P) (each read xs) (λ ys. Ok (y ∷ ys))
    (each-All P read is xs) (λ ys all. All-cons P y ys holds all))

-- the number is not past the largest one
abbrev IsNumber : ℤ → Type 0
IsNumber n = is_number n ≡ true

-- the numbers of what is given for a register
abbrev HasSums : Given → Type 0
HasSums given = AreNumbers given.sums

with_front-numbers : (number : Option ℤ) (others : Option (List ℤ)) → IfSome number IsNumber →
    IfSome others AreNumbers → IfSome (with_front number others) AreNumbers
with_front-numbers (Some n) (Some ns) is are = All-cons IsNumber n ns is are
with_front-numbers (Some n) None is are = tt
with_front-numbers None others is are = tt

module _ (in_range : (text : List ℕ) (scale : ℕ) →
    IfOk (parse_num text scale) (λ n. unsigned_abs n.units ≤ largest_units)) where
  units_in-number : (scale : ℕ) (text : List ℕ) → IfSome (units_in scale text) IsNumber
  units_in-number scale text = at (parse_num text scale) (in_range text scale)
    where
      at : (read : Result Num NumFault) → IfOk read (λ n. unsigned_abs n.units ≤ largest_units) →
          IfSome (option_map (λ (n : Num). n.units) (result_ok read)) IsNumber
      at (Ok n) within = le-leb _ largest_units within
      at (Err fault) within = tt

  values_for-numbers : (resources : List Resource) (texts : List (List ℕ)) →
      IfSome (values_for amount_in resources texts) AreNumbers
  values_for-numbers [] [] = All-nil IsNumber
  values_for-numbers [] (text ∷ texts) = tt
  values_for-numbers (resource ∷ resources) [] = tt
  values_for-numbers (resource ∷ resources) (text ∷ texts) =
      with_front-numbers (amount_in resource text) (values_for amount_in resources texts)
      (units_in-number resource.scale text) (values_for-numbers resources texts)

  record_in_register-numbers : (register : Register) (text : RegisterText) →
      IfOk (record_in_register register text) HasSums
  unfolding record_in_register
  record_in_register-numbers register text =
      IfOk-next HasSums
      (some_or (values_for value_in register.dimensions text.values) (BadField Values)) _
      (λ values. IfOk-then AreNumbers HasSums
      (some_or (values_for amount_in register.resources text.sums) (BadField Sums)) _
      (IfOk-some_or AreNumbers (values_for amount_in register.resources text.sums) (BadField Sums)
      (values_for-numbers register.resources text.sums))
      (λ sums are. IfOk-unless HasSums (takes_mark register text.mark) (BadField Kind) _
      (λ taken. are)))

  given_record-numbers : (register : Register) (text : RecordText) →
      IfOk (given_record register text) HasSums
  unfolding given_record
  given_record-numbers register (InLedger text) = tt
  given_record-numbers register (InRegister text) = record_in_register-numbers register text

  given_set-numbers : (config : Config) (space : Space) (set : SetText) →
      IfOk (given_set config space set) GivesNumbersIn
  unfolding given_set
  given_set-numbers config (RegisterSpace place) set =
      IfOk-next GivesNumbersIn (some_or (slice_get config.registers place) (BadField SpaceField)) _
      (λ register. IfOk-then (All HasSums) GivesNumbersIn (each (given_record register) set.records)
      (λ records. Ok (Records place records))
      (each-All HasSums (given_record register) (given_record-numbers register) set.records)
      (λ records are. are))
  given_set-numbers config (LedgerSpace place) set =
      IfOk-next GivesNumbersIn (some_or (slice_get config.ledgers place) (BadField SpaceField)) _
      (λ chart. IfOk-next GivesNumbersIn (each (given_entry chart) set.records)
      (λ entries. Ok (Entries place entries)) (λ entries. tt))

  pub sets_in-numbers : (config : Config) (spaces : List Space) (sets : List SetText) →
      IfOk (sets_in config spaces sets) (All GivesNumbersIn)
  sets_in-numbers config [] sets = All-nil GivesNumbersIn
  sets_in-numbers config (space ∷ spaces) [] = All-nil GivesNumbersIn
  sets_in-numbers config (space ∷ spaces) (set ∷ sets) =
      IfOk-then GivesNumbersIn (All GivesNumbersIn) (given_set config space set)
      (λ given. sets_in config spaces sets >>= λ more. Ok (given ∷ more))
      (given_set-numbers config space set)
      (λ given is. IfOk-then (All GivesNumbersIn) (All GivesNumbersIn)
      (sets_in config spaces sets) (λ more. Ok (given ∷ more))
      (sets_in-numbers config spaces sets)
      (λ more are. All-cons GivesNumbersIn given more is are))
