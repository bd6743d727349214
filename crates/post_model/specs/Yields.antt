-- What posting a document by its rules makes.
use Rattle.std.specs.Prelude.{ℕ, ℤ, pos, suc, Bool, true, false, int_le, List, [], ◌∷◌, ◌++◌, map}
use Rattle.std.specs.Prelude.{length, replicate, Option, Some, None, option_map, option_and_then}
use Rattle.std.specs.Prelude.{unwrap_or, slice_get, Result, Ok}
use Rattle.std.specs.Bool.{beq}
use Rattle.std.specs.List.{range_with_len}
use Rattle.reg_base.specs.Balances.{sum_rows}
use Rattle.reg_base.specs.Records.{Booked}
use Rattle.reg_base.specs.Results.{◌>>=◌, unless}
use Rattle.cfg_model.specs.declared.config.Config.{Config}
use Rattle.cfg_model.specs.declared.register.Dimension.{Dimension}
use Rattle.reg_base.specs.declared.fault.PostFault.{PostFault}
use Rattle.reg_base.specs.declared.fault.PostFault.TheVariants.{Broken}
use Rattle.reg_base.specs.declared.records.Doc.{Doc}
use Rattle.reg_base.specs.declared.records.Item.{Item}
use Rattle.reg_base.specs.declared.records.SumRow.{SumRow}
use Rattle.reg_base.specs.declared.value.Cell.{Cell}
use Rattle.rule_lang.specs.declared.rules.Rules.{Rules}
use Rattle.rule_lang.specs.declared.statement.Act.{Act}
use Rattle.rule_lang.specs.declared.statement.Act.TheVariants.{Make, WriteOff, Require, Control}
use Rattle.rule_lang.specs.declared.statement.Act.TheVariants.{Entry}
use Rattle.rule_lang.specs.declared.statement.Bind.{Bind}
use Rattle.rule_lang.specs.declared.statement.Statement.{Statement}
use Rattle.post_model.specs.Scenes.{Scene, sum_value, when_holds}
use Rattle.post_model.specs.Lefts.{dimensions_of, resource_count, read_of, found_by}
use Rattle.post_model.specs.declared.holding.Holding.{Holding}
use Rattle.post_model.specs.WriteOffs.{holding_of, sum_in, write_off, cost_of}
use Rattle.post_model.specs.Makes.{mark_of, values_with, numbers_for, taken_numbers, record_made}
use Rattle.post_model.specs.Makes.{expenses_made, side_value, entry_made}
use Rattle.post_model.specs.declared.made.Made.{Made}
use Rattle.post_model.specs.declared.made.Yield.{Yield}

-- how many dimensions and resources a register of the configuration has
abbrev pub width_of : Config → ℕ → ℕ
width_of config register = length (dimensions_of (slice_get config.registers register))

abbrev pub depth_of : Config → ℕ → ℕ
depth_of config register = resource_count (slice_get config.registers register)

-- the places of the dimensions of lots
unfoldable pub lot_places : ℕ → List Dimension → List ℕ
lot_places place [] = []
lot_places place (d ∷ ds) = with_place d.lot (lot_places (suc place) ds)
  where
    with_place : Bool → List ℕ → List ℕ
    with_place true more = place ∷ more
    with_place false more = more

-- how a write-off tells apart what is left: `fifo` by lots, `average` not at all
abbrev pub told_apart : Config → ℕ → Bool → List ℕ
told_apart config register true = lot_places 0 (dimensions_of (slice_get config.registers register))
told_apart config register false = []

-- the holdings of what is left
abbrev pub holdings_of : Config → Bool → ℕ → ℕ → ℕ → List Booked → List Holding
holdings_of config fifo register quantity amount left =
    map (holding_of quantity amount)
    (sum_rows (depth_of config register) (Some (told_apart config register fifo)) left)

-- what is taken, made, and what it costs
unfoldable pub written_off : Config → Scene → ℕ → List Bind → ℕ → ℕ → Made → List Holding →
    Result Made PostFault
written_off config scene register binds quantity amount made takes =
    expenses_made scene register
    (λ (h : Holding). values_with scene binds h.lot (width_of config register))
    (λ (h : Holding). taken_numbers quantity amount h (depth_of config register)) takes
    (record made { cost = cost_of takes })

-- the sum at a resource that the first row has, and 0 where there is none
abbrev pub first_sum : ℕ → List SumRow → ℤ
first_sum resource [] = pos 0
first_sum resource (row ∷ rows) = sum_in row resource

-- the sum of what is left at a resource
abbrev pub left_sum : ℕ → ℕ → List Booked → ℤ
left_sum resources resource left = first_sum resource (sum_rows resources (Some []) left)

-- an act where these records are left of what it reads
unfoldable pub act_on : Config → Scene → Act → List Booked → Made → Result Made PostFault
act_on config scene (Make verb register binds sums) left made = do
  numbers ← numbers_for scene sums (range_with_len 0 (depth_of config register))
  record_made scene register (mark_of verb)
      (values_with scene binds None (width_of config register)) numbers made
act_on config scene (WriteOff fifo register binds quantity wanted amount) left made = do
  n ← sum_value scene wanted
  takes ← write_off scene n (holdings_of config fifo register quantity amount left)
  written_off config scene register binds quantity amount made takes
act_on config scene (Require register binds resource least code) left made = do
  n ← sum_value scene least
  _ ← unless (int_le n (left_sum (depth_of config register) resource left))
      (Broken scene.rule scene.line code)
  Ok made
act_on config scene (Control register resource) left made =
    Ok (record made { controls = made.controls ++ (register, resource) ∷ [] })
act_on config scene (Entry ledger debit credit amount) left made = do
  n ← sum_value scene amount
  entry_made scene (slice_get config.ledgers ledger) ledger (option_map (side_value scene) debit)
      (option_map (side_value scene) credit) n made

-- a read noted behind the others
abbrev pub noted : Option Item → Made → Made
noted None made = made
noted (Some item) made = record made { reads = made.reads ++ item ∷ [] }

-- a statement that is passed over: a write-off then costs nothing
abbrev pub passed_over : Act → Made → Made
passed_over (WriteOff fifo register binds quantity wanted amount) made =
    record made { cost = pos 0 }
passed_over (Make verb register binds sums) made = made
passed_over (Require register binds resource least code) made = made
passed_over (Control register resource) made = made
passed_over (Entry ledger debit credit amount) made = made

-- an act that runs: its read is noted, and it sees what is left of the records that the read names
unfoldable pub act_run : Config → (ℕ → List Booked) → Scene → Act → Made →
    Result Made PostFault
act_run config books scene act made =
    act_on config scene act (found_by books scene.doc made.sets (read_of config scene act))
    (noted (read_of config scene act) made)

-- a statement, whose condition was told
abbrev pub run_if : Bool → Config → (ℕ → List Booked) → Scene → Act → Made →
    Result Made PostFault
run_if true config books scene act made = act_run config books scene act made
run_if false config books scene act made = Ok (passed_over act made)

-- a statement
unfoldable pub statement_run : Config → (ℕ → List Booked) → Scene → Statement → Made →
    Result Made PostFault
statement_run config books scene statement made = do
  holds ← when_holds scene statement.when
  run_if holds config books scene statement.act made

-- a statement in a round, where it is one of the round's
abbrev pub run_in_round : Bool → Config → (ℕ → List Booked) → Scene → Statement → Made →
    Result Made PostFault
run_in_round true config books scene statement made =
    statement_run config books scene statement made
run_in_round false config books scene statement made = Ok made

-- the statements of a round, in the order of the text
unfoldable pub round_run : Config → (ℕ → List Booked) → Doc → Bool → ℕ → List Cell → ℕ →
    List Statement → Made → Result Made PostFault
round_run config books doc each line cells rule [] made = Ok made
round_run config books doc each line cells rule (statement ∷ more) made =
    run_in_round (beq statement.each each) config books (record {
      doc = doc;
      rule = rule;
      line = line;
      cells = cells;
      cost = made.cost;
    }) statement made
    >>= round_run config books doc each line cells (suc rule) more

-- a round from its beginning, where no write-off has cost anything yet
abbrev pub round_begun : Config → (ℕ → List Booked) → Doc → List Statement → Bool → ℕ →
    List Cell → Made → Result Made PostFault
round_begun config books doc statements each line cells made =
    round_run config books doc each line cells 1 statements (record made { cost = pos 0 })

-- a round for each line, in order
unfoldable pub lines_run : Config → (ℕ → List Booked) → Doc → List Statement → ℕ →
    List (List Cell) → Made → Result Made PostFault
lines_run config books doc statements line [] made = Ok made
lines_run config books doc statements line (cells ∷ more) made =
    round_begun config books doc statements true line cells made
    >>= lines_run config books doc statements (suc line) more

-- nothing made yet
abbrev pub nothing_made : Config → Made
nothing_made config = record {
  sets = record {
    registers = replicate (length config.registers) [];
    ledgers = replicate (length config.ledgers) [];
  };
  reads = [];
  controls = [];
  cost = pos 0;
}

-- the statements of a document's type; a document without a type has none
abbrev pub statements_for : Rules → Doc → List Statement
statements_for rules doc =
    unwrap_or (option_and_then (λ kind. slice_get rules.kinds kind) doc.kind) []

-- what posting a document makes where these are the records of each register: what is done once,
-- and then what is done for each line
unfoldable pub yield_of : Config → Rules → Doc → (ℕ → List Booked) → Result Yield PostFault
yield_of config rules doc books = do
  once ← round_begun config books doc (statements_for rules doc) false 0 [] (nothing_made config)
  made ← lines_run config books doc (statements_for rules doc) 1 doc.lines once
  Ok (record { sets = made.sets; reads = made.reads; controls = made.controls })
