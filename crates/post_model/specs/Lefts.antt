-- What a statement reads: the item that it names, and what is left of the records there.
use Rattle.std.specs.Prelude.{ℕ, Bool, true, false, List, [], ◌∷◌, ◌++◌, map, filter}
use Rattle.std.specs.Prelude.{length, Option, Some, None, option_map, unwrap_or, slice_get}
use Rattle.std.specs.List.{range_with_len}
use Rattle.cfg_model.specs.declared.config.Config.{Config}
use Rattle.cfg_model.specs.declared.register.Dimension.{Dimension}
use Rattle.cfg_model.specs.declared.register.Register.{Register}
use Rattle.reg_base.specs.declared.cut.Cut.TheVariants.{BeforePoint}
use Rattle.reg_base.specs.declared.records.Doc.{Doc}
use Rattle.reg_base.specs.declared.records.Filter.{Filter}
use Rattle.reg_base.specs.declared.records.Item.{Item}
use Rattle.reg_base.specs.declared.records.Mark.{Mark}
use Rattle.reg_base.specs.declared.records.Mark.TheVariants.{Receipt, Expense, Turn}
use Rattle.reg_base.specs.declared.records.Mode.TheVariants.{Shared}
use Rattle.reg_base.specs.declared.records.Sets.{Sets}
use Rattle.reg_base.specs.Records.{Booked, chosen_records, records_within, without_recorder}
use Rattle.rule_lang.specs.declared.statement.Act.{Act}
use Rattle.rule_lang.specs.declared.statement.Act.TheVariants.{Make, WriteOff, Require, Control}
use Rattle.rule_lang.specs.declared.statement.Act.TheVariants.{Entry}
use Rattle.rule_lang.specs.declared.statement.Bind.{Bind}
use Rattle.post_model.specs.Scenes.{Scene, own_point, bound_value}

-- the dimensions of a register that is there
abbrev pub dimensions_of : Option Register → List Dimension
dimensions_of None = []
dimensions_of (Some register) = register.dimensions

-- how many resources a register has
abbrev pub resource_count : Option Register → ℕ
resource_count None = 0
resource_count (Some register) = length register.resources

-- the item that a read names: the register, with the values of the dimensions that are bound
unfoldable pub read_item : Config → Scene → ℕ → List Bind → Item
read_item config scene register binds = record {
  space = register;
  fields = map (bound_value scene binds)
      (range_with_len 0 (length (dimensions_of (slice_get config.registers register))));
  mode = Shared;
}

-- the read of an act: a write-off and a requirement have one
abbrev pub read_of : Config → Scene → Act → Option Item
read_of config scene (WriteOff fifo register binds quantity wanted amount) =
    Some (read_item config scene register binds)
read_of config scene (Require register binds resource least code) =
    Some (read_item config scene register binds)
read_of config scene (Make verb register binds sums) = None
read_of config scene (Control register resource) = None
read_of config scene (Entry ledger debit credit amount) = None

-- the records that an item names: those with its values
abbrev pub filter_of : Item → Filter
filter_of item = record { lists = map (option_map (λ v. v ∷ [])) item.fields }

-- whether a record takes from its register
abbrev pub is_expense : Mark → Bool
is_expense Receipt = false
is_expense Expense = true
is_expense Turn = false

-- the expenses that a document has in a register
abbrev pub expenses_of : Doc → Sets → ℕ → List Booked
expenses_of doc sets register =
    map (λ r. record { recorder = doc.number; rec = r })
    (filter (λ r. is_expense r.mark) (unwrap_or (slice_get sets.registers register) []))

-- the records that a document sees of what an item names: those of other documents before its own
-- point
abbrev pub seen_of : (ℕ → List Booked) → Doc → Item → List Booked
seen_of books doc item =
    records_within (BeforePoint (own_point doc))
    (chosen_records (filter_of item) (without_recorder doc.number (books item.space)))

-- what is left of the records that an item names: those that the document sees, and the expenses
-- that it has made so far
unfoldable pub left_of : (ℕ → List Booked) → Doc → Sets → Item → List Booked
left_of books doc sets item =
    seen_of books doc item ++ chosen_records (filter_of item) (expenses_of doc sets item.space)

-- what a read finds: nothing where there is none
abbrev pub found_by : (ℕ → List Booked) → Doc → Sets → Option Item → List Booked
found_by books doc sets None = []
found_by books doc sets (Some item) = left_of books doc sets item
