-- Questions for the tables of a register.
use Rattle.std.specs.Prelude.{ℕ, Bool, true, Option, Some, None, option_map, unwrap_or, List, []}
use Rattle.std.specs.Prelude.{map, length, slice_get, Result, Ok}
use Rattle.std.specs.List.{find}
use Rattle.std.specs.Str.{bytes_eq}
use Rattle.reg_base.specs.declared.value.Value.{Value}
use Rattle.reg_base.specs.declared.cut.Cut.TheVariants.{Now}
use Rattle.reg_base.specs.declared.cut.Cut.{Cut}
use Rattle.reg_base.specs.declared.tables.Range.{Range}
use Rattle.reg_base.specs.declared.tables.Method.{Method}
use Rattle.reg_base.specs.declared.tables.Method.TheVariants.{Movements}
use Rattle.reg_base.specs.declared.fault.TableFault.{TableFault}
use Rattle.reg_base.specs.declared.fault.TableFault.TheVariants.{UnknownField}
use Rattle.reg_base.specs.declared.tables.AskedList.{AskedList}
use Rattle.reg_base.specs.Results.{◌>>=◌, unless, some_or, none_or, each}
use Rattle.reg_base.specs.Records.{Booked, records_within}
use Rattle.reg_base.specs.Balances.{sum_rows}
use Rattle.reg_base.specs.Turnovers.{in_range, turnover_rows, both_rows, limited_rows, table_of}
use Rattle.cfg_model.specs.declared.config.Config.{Config}
use Rattle.cfg_model.specs.declared.register.Register.{Register}
use Rattle.cfg_model.specs.declared.register.Dimension.{Dimension}
use Rattle.cfg_model.specs.Places.{register_place}
use Rattle.cfg_model.specs.Asks.{wrong_name, filter_with, group_places}
use Rattle.desk_words.specs.declared.tables.AskedRegister.{AskedRegister}
use Rattle.desk_words.specs.declared.request.FilterText.{FilterText}
use Rattle.desk_words.specs.declared.request.Balance.{Balance as BalanceRequest}
use Rattle.desk_words.specs.declared.tables.Turnovers.{Turnovers as TurnoversRequest}
use Rattle.desk_words.specs.declared.tables.Both.{Both as BothRequest}
use Rattle.desk_words.specs.declared.reply.Answer.{Answer}
use Rattle.desk_words.specs.declared.reply.Answer.TheVariants.{Balance as BalanceAnswer}
use Rattle.desk_words.specs.declared.reply.Answer.TheVariants.{Turnovers as TurnoversAnswer}
use Rattle.desk_words.specs.declared.reply.Answer.TheVariants.{Both as BothAnswer}
use Rattle.desk_words.specs.declared.reply.Refusal.{Refusal}
use Rattle.desk_words.specs.declared.reply.Refusal.TheVariants.{BadField}
use Rattle.desk_words.specs.declared.reply.Field.TheVariants.{Register as RegisterField, Named}
use Rattle.desk_model.specs.Plans.{Question, about_register}
use Rattle.desk_model.specs.GivenRecords.{value_in}
use Rattle.desk_model.specs.Questions.{range_of, answering, or_refused}

-- ---- what is asked of a register

-- the value that a text spells in a dimension
unfoldable pub asked_value : Dimension → List ℕ → Result Value Refusal
asked_value dimension text = some_or (value_in dimension text) (BadField (Named dimension.name))

-- the values that texts spell in a dimension
abbrev pub asked_values : Dimension → List (List ℕ) → Result (List Value) Refusal
asked_values dimension texts = each (asked_value dimension) texts

-- the values of texts where there is a dimension, and none where there is none
abbrev pub values_in : Option Dimension → List (List ℕ) → Result (List Value) Refusal
values_in None texts = Ok []
values_in (Some dimension) texts = asked_values dimension texts

-- one list of a filter, its texts read as values of the dimension that it names; a list under a
-- name that no dimension has is not looked into
unfoldable pub asked_list : Register → FilterText → Result AskedList Refusal
asked_list register text =
    values_in (find (λ d. bytes_eq d.name text.name) register.dimensions) text.values
    >>= λ values. Ok (record { name = text.name; values = values })

-- the lists of a filter, the first that can't be read being told
abbrev pub asked_lists : Register → Option (List FilterText) → Result (List AskedList) Refusal
asked_lists register filter = each (asked_list register) (unwrap_or filter [])

-- a table of the places of its group, where each name that it is asked by is that of a dimension
-- and stands once
abbrev pub named_table : Register → List AskedList → Option (List (List ℕ))
    → (Option (List ℕ) → Result Answer TableFault) → Result Answer TableFault
named_table register lists group table = do
  _ ← none_or (option_map UnknownField (wrong_name register lists group))
  table (group_places register group)

-- what is asked of a register that has the table: its records that pass the filter, in the table
unfoldable pub question_about : Config → AskedRegister → (Register → Bool)
    → (Register → Option (List ℕ) → List Booked → Result Answer TableFault)
    → Result Question Refusal
question_about config asked has_table table = do
  place ← some_or (register_place asked.name config.registers) (BadField RegisterField)
  register ← some_or (slice_get config.registers place) (BadField RegisterField)
  _ ← unless (has_table register) (BadField RegisterField)
  lists ← asked_lists register asked.filter
  Ok (about_register (record {
    register = place;
    asked = filter_with register lists;
    answer = λ records. or_refused (named_table register lists asked.group
        (λ group. table register group records));
  }))

-- how many decimals each resource has
abbrev pub scales_of : Register → List ℕ
scales_of register = map (λ r. r.scale) register.resources

-- ---- the tables

-- a balance at a cut
abbrev pub balance_answer : Cut → Register → Option (List ℕ) → List Booked
    → Result Answer TableFault
balance_answer cut register group records =
    answering (λ rows. BalanceAnswer rows (scales_of register))
    (limited_rows (sum_rows (length register.resources) group (records_within cut records)))

-- what `balance` asks: a register that has balances
unfoldable pub question_balance : Config → BalanceRequest → Result Question Refusal
question_balance config b =
    question_about config b.register (λ register. register.balance)
    (balance_answer (unwrap_or b.cut Now))

-- the turnovers of a range
abbrev pub turnovers_answer : Range → Register → Option (List ℕ) → List Booked
    → Result Answer TableFault
turnovers_answer range register group records =
    answering (λ rows. TurnoversAnswer register.balance rows (scales_of register))
    (table_of range (turnover_rows register.balance (length register.resources) group range.by
    (in_range range records)))

-- what `turnovers` asks: any register
unfoldable pub question_turnovers : Config → TurnoversRequest → Result Question Refusal
question_turnovers config t =
    question_about config t.register (λ _. true) (turnovers_answer (range_of t.dates t.by))

-- balances and turnovers of a range
abbrev pub both_answer : Method → Range → Register → Option (List ℕ) → List Booked
    → Result Answer TableFault
both_answer method range register group records =
    answering (λ rows. BothAnswer rows (scales_of register))
    (table_of range (both_rows (length register.resources) group range method records))

-- what `both` asks: a register that has balances
unfoldable pub question_both : Config → BothRequest → Result Question Refusal
question_both config b =
    question_about config b.turnovers.register (λ register. register.balance)
    (both_answer (unwrap_or b.method Movements) (range_of b.turnovers.dates b.turnovers.by))
