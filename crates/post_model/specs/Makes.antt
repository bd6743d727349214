-- What a statement makes: a record or an entry behind those made so far, or the first fault.
use Rattle.std.specs.Prelude.{ℕ, ℤ, pos, ◌+◌, ◌==◌, Bool, true, false, nat_lt, List, [], ◌∷◌, ◌++◌}
use Rattle.std.specs.Prelude.{map, length, set, Option, Some, None, unwrap_or, slice_get, Result}
use Rattle.std.specs.Prelude.{Ok, Err, if◌then◌else◌}
use Rattle.std.specs.List.{filter_map, list_all, range_with_len}
use Rattle.std.specs.Ordering.{int_eq}
use Rattle.reg_base.specs.Results.{◌>>=◌, unless}
use Rattle.cfg_model.specs.Entries.{entry_check}
use Rattle.cfg_model.specs.declared.ledger.Chart.{Chart}
use Rattle.reg_base.specs.declared.fault.EntryFault.{EntryFault}
use Rattle.reg_base.specs.declared.fault.PostFault.{PostFault}
use Rattle.reg_base.specs.declared.fault.PostFault.TheVariants.{Entry as EntryRefused}
use Rattle.reg_base.specs.declared.fault.PostFault.TheVariants.{TooManyRecords}
use Rattle.reg_base.specs.declared.records.Mark.{Mark}
use Rattle.reg_base.specs.declared.records.Mark.TheVariants.{Receipt, Expense, Turn}
use Rattle.reg_base.specs.declared.records.Posting.{Posting}
use Rattle.reg_base.specs.declared.records.Rec.{Rec}
use Rattle.reg_base.specs.declared.records.Side.{Side}
use Rattle.reg_base.specs.declared.value.Value.{Value}
use Rattle.rule_text.specs.declared.plain.Verb.{Verb}
use Rattle.rule_text.specs.declared.plain.Verb.TheVariants.{Receipt as MakesReceipt}
use Rattle.rule_text.specs.declared.plain.Verb.TheVariants.{Expense as MakesExpense}
use Rattle.rule_text.specs.declared.plain.Verb.TheVariants.{Turn as MakesTurn}
use Rattle.rule_lang.specs.declared.statement.Bind.{Bind}
use Rattle.rule_lang.specs.declared.statement.Place.{Place}
use Rattle.rule_lang.specs.declared.statement.Sum.{Sum}
use Rattle.post_model.specs.Scenes.{Scene, bound_value, code_value, sum_value, is_number, overflow}
use Rattle.post_model.specs.declared.holding.Holding.{Holding}
use Rattle.post_model.specs.declared.made.Made.{Made}

-- the most records or entries of one register or ledger
abbrev pub most_records : ℕ
most_records = 5_000

-- the mark of what a verb makes
abbrev pub mark_of : Verb → Mark
mark_of MakesReceipt = Receipt
mark_of MakesExpense = Expense
mark_of MakesTurn = Turn

-- the first of two values that is there
abbrev pub option_or : {X : Type 0} → Option X → Option X → Option X
option_or (Some x) other = Some x
option_or None other = other

-- the values of a record: those that are bound, and the lot for the dimension that is not
abbrev pub values_with : Scene → List Bind → Option Value → ℕ → List Value
values_with scene binds lot dimensions =
    filter_map (λ d. option_or (bound_value scene binds d) lot) (range_with_len 0 dimensions)

-- the number for a resource: 0 where it is not named
unfoldable pub number_for : Scene → List (ℕ × Sum) → ℕ → Result ℤ PostFault
number_for scene [] resource = Ok (pos 0)
number_for scene (a ∷ more) resource =
    if a.0 == resource then sum_value scene a.1 else number_for scene more resource

-- the numbers for these resources
unfoldable pub numbers_for : Scene → List (ℕ × Sum) → List ℕ → Result (List ℤ) PostFault
numbers_for scene sums [] = Ok []
numbers_for scene sums (r ∷ rs) = do
  number ← number_for scene sums r
  numbers ← numbers_for scene sums rs
  Ok (number ∷ numbers)

-- the numbers of what is taken: the quantity at one resource, the amount at another
abbrev pub taken_numbers : ℕ → ℕ → Holding → ℕ → List ℤ
taken_numbers quantity amount h resources =
    map (λ r. if r == quantity then h.quantity else (if r == amount then h.amount else pos 0))
    (range_with_len 0 resources)

-- a list with one element more, where it has room
abbrev pub behind : {X : Type 0} → List X → X → Result (List X) PostFault
behind xs x = do
  _ ← unless (nat_lt (length xs) most_records) TooManyRecords
  Ok (xs ++ x ∷ [])

-- the lists with one of them changed
unfoldable pub at_place : {X : Type 0} → ℕ → List (List X) →
    (List X → Result (List X) PostFault) → Result (List (List X)) PostFault
at_place place lists change = do
  xs ← change (unwrap_or (slice_get lists place) [])
  Ok (set lists place xs)

-- a record behind the others of its register, with the next line number
abbrev pub record_behind : Scene → Mark → List Value → List ℤ → List Rec →
    Result (List Rec) PostFault
record_behind scene mark values numbers recs = behind recs (record {
  line = length recs + 1;
  period = scene.doc.date;
  mark = mark;
  values = values;
  sums = numbers;
})

-- whether all numbers are zero
abbrev pub are_zero : List ℤ → Bool
are_zero numbers = list_all (λ n. int_eq n (pos 0)) numbers

-- what was made with other sets
abbrev pub with_registers : Made → List (List Rec) → Made
with_registers made registers =
    record made { sets = record { registers = registers; ledgers = made.sets.ledgers } }

abbrev pub with_ledgers : Made → List (List Posting) → Made
with_ledgers made ledgers =
    record made { sets = record { registers = made.sets.registers; ledgers = ledgers } }

-- nothing more where the numbers are all zero, and else what comes next
abbrev pub unless_zero : Bool → Made → Result Made PostFault → Result Made PostFault
unless_zero true made next = Ok made
unless_zero false made next = next

-- a record made, unless its numbers are all zero: none of them is past the largest number, and the
-- register has room
unfoldable pub record_made : Scene → ℕ → Mark → List Value → List ℤ → Made →
    Result Made PostFault
record_made scene register mark values numbers made = do
  _ ← unless (list_all is_number numbers) (overflow scene)
  unless_zero (are_zero numbers) made (at_place register made.sets.registers
      (record_behind scene mark values numbers) >>= λ registers. Ok (with_registers made registers))

-- an expense for each that was taken, in order
unfoldable pub expenses_made : Scene → ℕ → (Holding → List Value) → (Holding → List ℤ) →
    List Holding → Made → Result Made PostFault
expenses_made scene register values numbers [] made = Ok made
expenses_made scene register values numbers (h ∷ hs) made =
    record_made scene register Expense (values h) (numbers h) made
    >>= expenses_made scene register values numbers hs

-- a side of an entry
abbrev pub side_value : Scene → Place → Side
side_value scene place = record {
  account = code_value scene place.account;
  extras = map (code_value scene) place.extras;
}

-- the chart accepts the sides, or the entry is refused
unfoldable pub checked : Scene → Option Chart → Option Side → Option Side →
    Result (Unit {0}) PostFault
checked scene None debit credit = Ok tt
checked scene (Some chart) debit credit = refused_as (entry_check chart debit credit)
  where
    refused_as : Result (Unit {0}) EntryFault → Result (Unit {0}) PostFault
    refused_as (Ok done) = Ok tt
    refused_as (Err fault) = Err (EntryRefused scene.rule scene.line fault)

-- an entry behind the others of its ledger, with the next line number
abbrev pub entry_behind : Scene → Option Side → Option Side → ℤ → List Posting →
    Result (List Posting) PostFault
entry_behind scene debit credit amount postings = behind postings (record {
  line = length postings + 1;
  period = scene.doc.date;
  debit = debit;
  credit = credit;
  amount = amount;
})

-- an entry made, unless its amount is zero: its chart accepts it, and the ledger has room
unfoldable pub entry_made : Scene → Option Chart → ℕ → Option Side → Option Side → ℤ → Made →
    Result Made PostFault
entry_made scene chart ledger debit credit amount made =
    unless_zero (int_eq amount (pos 0)) made (checked scene chart debit credit >>= λ accepted.
    at_place ledger made.sets.ledgers (entry_behind scene debit credit amount)
    >>= λ ledgers. Ok (with_ledgers made ledgers))
