-- A small shop for worked rows: its registers, its rules, its documents and what is in its books.
use Rattle.std.proofs.Common.{ℕ, ℤ, true, false, Bool, List, [], ◌∷◌, map, codes, Option}
use Rattle.std.proofs.Common.{Some, None, Result, Ok}
use Rattle.std.specs.Prelude.{slice_get, unwrap_or}
use Rattle.reg_base.specs.Records.{Booked}
use Rattle.reg_base.specs.declared.fault.PostFault.{PostFault}
use Rattle.reg_base.specs.declared.records.Doc.{Doc}
use Rattle.reg_base.specs.declared.records.DocState.TheVariants.{Posted}
use Rattle.reg_base.specs.declared.records.Item.{Item}
use Rattle.reg_base.specs.declared.records.Mark.{Mark}
use Rattle.reg_base.specs.declared.records.Mark.TheVariants.{Receipt}
use Rattle.reg_base.specs.declared.records.Mode.TheVariants.{Shared}
use Rattle.reg_base.specs.declared.records.Posting.{Posting}
use Rattle.reg_base.specs.declared.records.Rec.{Rec}
use Rattle.reg_base.specs.declared.records.Side.{Side}
use Rattle.reg_base.specs.declared.value.Cell.{Cell}
use Rattle.reg_base.specs.declared.value.Cell.TheVariants.{Code as CodeCell, Num as NumCell}
use Rattle.reg_base.specs.declared.value.Value.TheVariants.{Code as CodeValue, Lot}
use Rattle.cfg_model.specs.declared.account.Nature.TheVariants.{Active, Passive}
use Rattle.cfg_model.specs.declared.config.Config.{Config}
use Rattle.cfg_model.specs.declared.ledger.Chart.{Chart}
use Rattle.cfg_model.specs.declared.register.Register.{Register}
use Rattle.cfg_model.specs.declared.register.Resource.{Resource}
use Rattle.rule_text.specs.declared.plain.Test.{Test}
use Rattle.rule_text.specs.declared.plain.Verb.TheVariants.{Receipt as MakesReceipt}
use Rattle.rule_text.specs.declared.plain.Verb.TheVariants.{Turn as MakesTurn}
use Rattle.rule_lang.specs.declared.statement.Act.{Act}
use Rattle.rule_lang.specs.declared.statement.Act.TheVariants.{Make, WriteOff, Entry}
use Rattle.rule_lang.specs.declared.statement.Bind.{Bind}
use Rattle.rule_lang.specs.declared.statement.BindTo.{BindTo}
use Rattle.rule_lang.specs.declared.statement.BindTo.TheVariants.{Code as ToCode, Point as ToPoint}
use Rattle.rule_lang.specs.declared.statement.CodeTerm.{CodeTerm}
use Rattle.rule_lang.specs.declared.statement.CodeTerm.TheVariants.{Text, Head as HeadCode}
use Rattle.rule_lang.specs.declared.statement.CodeTerm.TheVariants.{Line as LineCode}
use Rattle.rule_lang.specs.declared.statement.Cond.TheVariants.{Sums}
use Rattle.rule_lang.specs.declared.statement.Part.{Part}
use Rattle.rule_lang.specs.declared.statement.Part.TheVariants.{Line, Cost}
use Rattle.rule_lang.specs.declared.statement.Place.{Place}
use Rattle.rule_lang.specs.declared.statement.Statement.{Statement}
use Rattle.rule_lang.specs.declared.statement.Sum.{Sum}
use Rattle.rule_lang.specs.declared.statement.Term.{Term}
use Rattle.post_model.specs.declared.made.Yield.{Yield}
use Rattle.post_model.specs.Yields.{yield_of}

-- ---- the configuration: goods 0, sales 1, stock in lots 2, and one ledger

abbrev pub quantity_and_amount : List Resource
quantity_and_amount =
    record { name = codes "quantity"; scale = 3 } ∷ record { name = codes "amount"; scale = 2 } ∷ []

abbrev pub register_by_item : List ℕ → Bool → Register
register_by_item name balance = record {
  name = name;
  balance = balance;
  dimensions = record { name = codes "item"; lot = false } ∷ [];
  resources = quantity_and_amount;
  split = false;
}

abbrev pub stock : Register
stock = record {
  name = codes "stock";
  balance = true;
  dimensions =
      record { name = codes "warehouse"; lot = false }
      ∷ record { name = codes "item"; lot = false }
      ∷ record { name = codes "lot"; lot = true } ∷ [];
  resources = quantity_and_amount;
  split = false;
}

abbrev pub main : Chart
main = record {
  name = codes "main";
  scale = 2;
  split = true;
  accounts = record {
    code = codes "10";
    name = codes "Goods";
    nature = Active;
    off = false;
    parent = None;
    extras = codes "item" ∷ [];
  } ∷ record {
    code = codes "60";
    name = codes "Suppliers";
    nature = Passive;
    off = false;
    parent = None;
    extras = [];
  } ∷ record {
    code = codes "90";
    name = codes "Cost";
    nature = Active;
    off = false;
    parent = None;
    extras = [];
  } ∷ [];
}

abbrev pub shop : Config
shop = record {
  registers =
      register_by_item (codes "goods") true ∷ register_by_item (codes "sales") false ∷ stock ∷ [];
  ledgers = main ∷ [];
  kinds = [];
  sequences = [];
  clerks = [];
}

-- ---- rules

abbrev pub plus : Part → Term
plus part = record { minus = false; negative = false; part = part }

abbrev pub sum_of : List Part → Sum
sum_of parts = record { terms = map plus parts }

abbrev pub just : Part → Sum
just part = sum_of (part ∷ [])

abbrev pub bound : ℕ → BindTo → Bind
bound dimension to = record { dimension = dimension; to = to }

abbrev pub each_line : Act → Statement
each_line act = record { each = true; act = act; when = None }

abbrev pub once : Act → Statement
once act = record { each = false; act = act; when = None }

abbrev pub each_line_when : Sum → Test → Sum → Act → Statement
each_line_when left test right act =
    record { each = true; act = act; when = Some (Sums left test right) }

-- the item that a line names, and nails
abbrev pub line_item : List Bind
line_item = bound 0 (ToCode (LineCode 0)) ∷ []

abbrev pub nail : List Bind
nail = bound 0 (ToCode (Text (codes "nail"))) ∷ []

-- the warehouse that the head names and the item that a line names
abbrev pub warehouse_and_item : List Bind
warehouse_and_item = bound 0 (ToCode (HeadCode 0)) ∷ bound 1 (ToCode (LineCode 0)) ∷ []

abbrev pub account : List ℕ → List CodeTerm → Option Place
account code extras = Some (record { account = Text code; extras = extras })

abbrev pub receipt_rules : List Statement
receipt_rules =
    each_line (Make MakesReceipt 2
    (bound 0 (ToCode (HeadCode 0)) ∷ bound 1 (ToCode (LineCode 0)) ∷ bound 2 ToPoint ∷ [])
    ((0, just (Line 1)) ∷ (1, just (Line 2)) ∷ []))
    ∷ each_line (Entry 0 (account (codes "10") (LineCode 0 ∷ [])) (account (codes "60") [])
    (just (Line 2)))
    ∷ []

-- a sale: the oldest lots first, then its turn and its entry at what they cost
abbrev pub sale_rules : List Statement
sale_rules =
    each_line (WriteOff true 2 warehouse_and_item 0 (just (Line 1)) 1)
    ∷ each_line (Make MakesTurn 1 line_item ((0, just (Line 1)) ∷ (1, just Cost) ∷ []))
    ∷ each_line (Entry 0 (account (codes "90") []) (account (codes "10") (LineCode 0 ∷ []))
    (just Cost))
    ∷ []

-- an issue of goods at their average
abbrev pub issue_rules : List Statement
issue_rules = each_line (WriteOff false 0 line_item 0 (just (Line 1)) 1) ∷ []

-- ---- documents and books

-- four days from 2024-01-10 on
abbrev pub tenth : ℕ
tenth = 758_160_000

abbrev pub eleventh : ℕ
eleventh = 758_246_400

abbrev pub twelfth : ℕ
twelfth = 758_332_800

abbrev pub thirteenth : ℕ
thirteenth = 758_419_200

abbrev pub doc_of : ℕ → ℕ → List (List Cell) → Doc
doc_of number date lines = record {
  number = number;
  kind = Some 0;
  date = date;
  head = CodeCell (codes "main") ∷ [];
  lines = lines;
  comment = [];
  key = None;
  state = Posted;
  active = true;
}

abbrev pub nails : ℤ → List Cell
nails quantity = CodeCell (codes "nail") ∷ NumCell quantity ∷ []

abbrev pub nails_for : ℤ → ℤ → List Cell
nails_for quantity amount = CodeCell (codes "nail") ∷ NumCell quantity ∷ NumCell amount ∷ []

-- a record of nails in stock, of the lot of a point
abbrev pub stocked : ℕ → ℕ → Mark → ℕ → ℕ → ℤ → ℤ → Rec
stocked line date mark lot_date lot_doc quantity amount = record {
  line = line;
  period = date;
  mark = mark;
  values =
      CodeValue (codes "main") ∷ CodeValue (codes "nail")
      ∷ Lot (record { date = lot_date; doc = lot_doc }) ∷ [];
  sums = quantity ∷ amount ∷ [];
}

-- a record of nails in goods or sales
abbrev pub of_nails : ℕ → ℕ → Mark → ℤ → ℤ → Rec
of_nails line date mark quantity amount = record {
  line = line;
  period = date;
  mark = mark;
  values = CodeValue (codes "nail") ∷ [];
  sums = quantity ∷ amount ∷ [];
}

abbrev pub by : ℕ → Rec → Booked
by recorder rec = record { recorder = recorder; rec = rec }

-- a receipt of nails into stock makes a lot
abbrev pub lot_of : ℕ → ℕ → ℤ → ℤ → Booked
lot_of number date quantity amount =
    by number (stocked 1 date Receipt date number quantity amount)

abbrev pub side_of : List ℕ → List (List ℕ) → Option Side
side_of code extras = Some (record { account = code; extras = extras })

abbrev pub entry_of : ℕ → ℕ → Option Side → Option Side → ℤ → Posting
entry_of line date debit credit amount = record {
  line = line;
  period = date;
  debit = debit;
  credit = credit;
  amount = amount;
}

-- the entry of a sale
abbrev pub cost_entry : ℕ → ℕ → ℤ → Posting
cost_entry line date amount =
    entry_of line date (side_of (codes "90") []) (side_of (codes "10") (codes "nail" ∷ [])) amount

-- what is read of nails in stock, and in goods
abbrev pub stock_read : Item
stock_read = record {
  space = 2;
  fields = Some (CodeValue (codes "main")) ∷ Some (CodeValue (codes "nail")) ∷ None ∷ [];
  mode = Shared;
}

abbrev pub goods_read : Item
goods_read = record { space = 0; fields = Some (CodeValue (codes "nail")) ∷ []; mode = Shared }

-- ---- what is asked, and what is answered

-- what a document makes by these rules, where these are the records of goods and of stock
abbrev pub makes : List Statement → List Booked → List Booked → Doc → Result Yield PostFault
makes statements goods stock doc =
    yield_of shop (record { kinds = statements ∷ [] }) doc
    (λ register. unwrap_or (slice_get (goods ∷ [] ∷ stock ∷ []) register) [])

-- records of goods, sales and stock, entries, reads and controls
abbrev pub gives : List Rec → List Rec → List Rec → List Posting → List Item → List (ℕ × ℕ)
    → Result Yield PostFault
gives goods sales stock entries reads controls = Ok (record {
  sets = record { registers = goods ∷ sales ∷ stock ∷ []; ledgers = entries ∷ [] };
  reads = reads;
  controls = controls;
})
