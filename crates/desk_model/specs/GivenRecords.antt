-- Records and entries as they are given by hand: each text is read for its place.
use Rattle.std.specs.Prelude.{ℕ, ℤ, Bool, not, Option, Some, None, option_map}
use Rattle.std.specs.Prelude.{List, [], ◌∷◌, Result, Ok, Err}
use Rattle.std.specs.Prelude.{if◌then◌else◌}
use Rattle.std.specs.Result.{result_ok}
use Rattle.reg_base.specs.declared.value.Value.{Value}
use Rattle.reg_base.specs.declared.value.Value.TheVariants.{Code, Lot}
use Rattle.reg_base.specs.declared.records.Mark.{Mark}
use Rattle.reg_base.specs.declared.records.Mark.TheVariants.{Receipt, Expense, Turn}
use Rattle.reg_base.specs.Codes.{is_code}
use Rattle.reg_base.specs.Numbers.{parse_num}
use Rattle.reg_base.specs.Points.{parse_point}
use Rattle.reg_base.specs.Results.{◌>>=◌, unless, some_or}
use Rattle.cfg_model.specs.declared.register.Register.{Register}
use Rattle.cfg_model.specs.declared.register.Dimension.{Dimension}
use Rattle.cfg_model.specs.declared.register.Resource.{Resource}
use Rattle.cfg_model.specs.declared.ledger.Chart.{Chart}
use Rattle.desk_words.specs.declared.request.RecordText.{RecordText}
use Rattle.desk_words.specs.declared.request.RecordText.TheVariants.{Register as InRegister}
use Rattle.desk_words.specs.declared.request.RecordText.TheVariants.{Ledger as InLedger}
use Rattle.desk_words.specs.declared.request.RegisterText.{RegisterText}
use Rattle.desk_words.specs.declared.request.LedgerText.{LedgerText}
use Rattle.desk_words.specs.declared.reply.Refusal.{Refusal}
use Rattle.desk_words.specs.declared.reply.Refusal.TheVariants.{BadField}
use Rattle.desk_words.specs.declared.reply.Field.TheVariants.{Values, Sums, Kind, Amount}
use Rattle.desk_model.specs.declared.plan.Given.{Given}
use Rattle.desk_model.specs.declared.plan.GivenEntry.{GivenEntry}

-- ---- records of registers

-- the value that a text spells in a dimension: a code, or in a lot dimension a point
abbrev pub value_in : Dimension → List ℕ → Option Value
value_in dimension text =
    if dimension.lot then option_map Lot (result_ok (parse_point text))
    else (if is_code text then Some (Code text) else None)

-- the number that a text spells at a scale, in units
abbrev pub units_in : ℕ → List ℕ → Option ℤ
units_in scale text = option_map (λ n. n.units) (result_ok (parse_num text scale))

-- the number that a text spells in a resource
abbrev pub amount_in : Resource → List ℕ → Option ℤ
amount_in resource text = units_in resource.scale text

-- a value before others, where there are all of them
abbrev pub with_front : {X : Type 0} → Option X → Option (List X) → Option (List X)
with_front (Some x) (Some xs) = Some (x ∷ xs)
with_front (Some x) None = None
with_front None others = None

-- what each text spells for the part of its place: as many texts as parts, each of them read
abbrev pub values_for : {P X : Type 0} → (P → List ℕ → Option X) → List P → List (List ℕ)
    → Option (List X)
values_for read [] [] = Some []
values_for read [] (text ∷ texts) = None
values_for read (part ∷ parts) [] = None
values_for read (part ∷ parts) (text ∷ texts) = with_front (read part text)
    (values_for read parts texts)

-- whether a register takes records of this mark: receipts and expenses where it has balances, and
-- else turns
abbrev pub takes_mark : Register → Mark → Bool
takes_mark register Receipt = register.balance
takes_mark register Expense = register.balance
takes_mark register Turn = not register.balance

-- a record in the form of a register: its values, then its sums, then its mark
unfoldable pub record_in_register : Register → RegisterText → Result Given Refusal
record_in_register register text = do
  values ← some_or (values_for value_in register.dimensions text.values) (BadField Values)
  sums ← some_or (values_for amount_in register.resources text.sums) (BadField Sums)
  _ ← unless (takes_mark register text.mark) (BadField Kind)
  Ok (record {
    mark = text.mark;
    values = values;
    sums = sums;
  })

-- a record of a register; one in the form of a ledger has no values of it
unfoldable pub given_record : Register → RecordText → Result Given Refusal
given_record register (InLedger text) = Err (BadField Values)
given_record register (InRegister text) = record_in_register register text

-- ---- entries of ledgers

-- an entry in the form of a ledger, whose sides are not looked at yet
unfoldable pub entry_in_ledger : Chart → LedgerText → Result GivenEntry Refusal
entry_in_ledger chart text = do
  amount ← some_or (units_in chart.scale text.amount) (BadField Amount)
  Ok (record {
    debit = text.debit;
    credit = text.credit;
    amount = amount;
  })

-- an entry of a ledger; a record in the form of a register is none
unfoldable pub given_entry : Chart → RecordText → Result GivenEntry Refusal
given_entry chart (InRegister text) = Err (BadField Values)
given_entry chart (InLedger text) = entry_in_ledger chart text
