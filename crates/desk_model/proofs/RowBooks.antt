-- The books that the worked rows are asked of, and their requests in short.
use Rattle.std.proofs.Common.{◌≡◌, ℕ, Bool, true, false, Option, Some, None, List, [], ◌∷◌, codes}
use Rattle.std.proofs.Common.{Ok, sym}
use Rattle.reg_base.specs.declared.cut.Cut.{Cut}
use Rattle.reg_base.specs.declared.records.Mark.{Mark}
use Rattle.reg_base.specs.declared.records.Mark.TheVariants.{Receipt}
use Rattle.reg_base.specs.declared.records.Side.{Side}
use Rattle.reg_base.specs.declared.right.Right.{Right}
use Rattle.reg_base.specs.declared.right.Right.TheVariants.{Write as WriteRight, Post as PostRight}
use Rattle.reg_base.specs.declared.right.Right.TheVariants.{Manual as ManualRight, Read, Lock}
use Rattle.reg_base.specs.declared.right.Right.TheVariants.{Admin}
use Rattle.cfg_model.specs.declared.account.Account.{Account}
use Rattle.cfg_model.specs.declared.account.Nature.{Nature}
use Rattle.cfg_model.specs.declared.account.Nature.TheVariants.{Active, Passive}
use Rattle.cfg_model.specs.declared.kind.Field.{Field}
use Rattle.cfg_model.specs.declared.kind.Kind.{Kind}
use Rattle.cfg_model.specs.declared.ledger.Chart.{Chart}
use Rattle.cfg_model.specs.declared.register.Dimension.{Dimension}
use Rattle.cfg_model.specs.declared.register.Register.{Register}
use Rattle.rule_text.specs.declared.plain.Verb.TheVariants.{Receipt as MakesReceipt}
use Rattle.rule_text.specs.declared.plain.Verb.TheVariants.{Expense as MakesExpense}
use Rattle.rule_text.specs.declared.plain.Verb.TheVariants.{Turn as MakesTurn}
use Rattle.rule_lang.specs.declared.statement.Act.{Act}
use Rattle.rule_lang.specs.declared.statement.Act.TheVariants.{Make, WriteOff, Entry, Control}
use Rattle.rule_lang.specs.declared.statement.Bind.{Bind}
use Rattle.rule_lang.specs.declared.statement.BindTo.TheVariants.{Code as ToCode, Point as ToPoint}
use Rattle.rule_lang.specs.declared.statement.CodeTerm.{CodeTerm}
use Rattle.rule_lang.specs.declared.statement.CodeTerm.TheVariants.{Text, Head as HeadCode}
use Rattle.rule_lang.specs.declared.statement.CodeTerm.TheVariants.{Line as LineCode}
use Rattle.rule_lang.specs.declared.statement.Part.{Part}
use Rattle.rule_lang.specs.declared.statement.Part.TheVariants.{Line, Cost}
use Rattle.rule_lang.specs.declared.statement.Place.{Place}
use Rattle.rule_lang.specs.declared.statement.Statement.{Statement}
use Rattle.rule_lang.specs.declared.statement.Sum.{Sum}
use Rattle.desk_words.specs.declared.request.Request.{Request}
use Rattle.desk_words.specs.declared.request.Request.TheVariants.{Write, Mark as MarkRequest}
use Rattle.desk_words.specs.declared.request.Request.TheVariants.{Manual, Post, Unpost}
use Rattle.desk_words.specs.declared.request.Request.TheVariants.{Activity, Close, Sweep, Balance}
use Rattle.desk_words.specs.declared.request.Request.TheVariants.{Doc}
use Rattle.desk_words.specs.declared.request.Post.TheVariants.{Content, Standing}
use Rattle.desk_words.specs.declared.request.Write.{Write as WriteRequest}
use Rattle.desk_words.specs.declared.request.FieldText.{FieldText}
use Rattle.desk_words.specs.declared.request.RecordText.{RecordText}
use Rattle.desk_words.specs.declared.request.RecordText.TheVariants.{Register as InRegister}
use Rattle.desk_words.specs.declared.request.RecordText.TheVariants.{Ledger as InLedger}
use Rattle.desk_words.specs.declared.request.SetText.{SetText}
use Rattle.desk_words.specs.declared.reply.Reply.{Reply}
use Rattle.desk_words.specs.declared.reply.Reply.TheVariants.{Done, Refused}
use Rattle.desk_words.specs.declared.reply.Answer.TheVariants.{Acknowledged}
use Rattle.desk_words.specs.declared.reply.Acknowledgement.TheVariants.{Document as DocumentStands}
use Rattle.desk_words.specs.declared.reply.Refusal.TheVariants.{BadField}
use Rattle.desk_words.specs.declared.reply.Field.{Field as FieldOf}
use Rattle.reg_base.specs.declared.records.DocState.{DocState}
use Rattle.desk_model.specs.State.{Setting, Desk, first_desk}
use Rattle.desk_model.specs.Desk.{Event, command_at, entry_length, event_of, meaning_at, step}
use Rattle.desk_model.specs.Desk.{tests_of}
use Rattle.desk_model.specs.Journals.{entry_limit}
use Rattle.desk_model.specs.Serial.{effect_of}

-- ---- what the books are set up with

abbrev pub codes_of : List ℕ → Dimension
codes_of name = record { name = name; lot = false }

-- a register with a quantity of three decimals and an amount of two
abbrev pub register_of : List ℕ → Bool → Bool → List Dimension → Register
register_of name balance split dimensions = record {
  name = name;
  balance = balance;
  dimensions = dimensions;
  resources = record { name = codes "quantity"; scale = 3 }
      ∷ record { name = codes "amount"; scale = 2 } ∷ [];
  split = split;
}

abbrev pub account_of : List ℕ → List ℕ → Nature → List (List ℕ) → Account
account_of code name nature extras = record {
  code = code;
  name = name;
  nature = nature;
  off = false;
  parent = None;
  extras = extras;
}

abbrev pub field_of : List ℕ → Option ℕ → Field
field_of name scale = record { name = name; scale = scale }

-- a type whose lines have an item and a quantity, and these fields besides
abbrev pub kind_of : List ℕ → List Field → List Field → Kind
kind_of name head more = record {
  name = name;
  head = head;
  lines = field_of (codes "item") None ∷ field_of (codes "quantity") (Some 3) ∷ more;
  rules = [];
}

abbrev pub everything_allowed : List Right
everything_allowed = WriteRight ∷ PostRight ∷ ManualRight ∷ Read ∷ Lock ∷ Admin ∷ []

-- a ledger of goods with their item, of suppliers and of cost
abbrev pub main_ledger : Chart
main_ledger = record {
  name = codes "main";
  scale = 2;
  split = true;
  accounts = account_of (codes "10") (codes "Goods") Active (codes "item" ∷ [])
      ∷ account_of (codes "60") (codes "Suppliers") Passive []
      ∷ account_of (codes "90") (codes "Cost") Active [] ∷ [];
}

-- ---- the rules of its types

abbrev pub just : Part → Sum
just part = record { terms = record { minus = false; negative = false; part = part } ∷ [] }

-- the quantity and the amount of a line, and what its write-off cost
abbrev pub line_quantity : Sum
line_quantity = just (Line 1)

abbrev pub line_amount : Sum
line_amount = just (Line 2)

abbrev pub line_cost : Sum
line_cost = just Cost

abbrev pub bound : ℕ → CodeTerm → Bind
bound dimension term = record { dimension = dimension; to = ToCode term }

-- the item of a line, and the head's warehouse with it
abbrev pub line_item : List Bind
line_item = bound 0 (LineCode 0) ∷ []

abbrev pub warehouse_and_item : List Bind
warehouse_and_item = bound 0 (HeadCode 0) ∷ bound 1 (LineCode 0) ∷ []

-- the lot of the document's own point
abbrev pub own_lot : Bind
own_lot = record { dimension = 2; to = ToPoint }

-- goods of a line's item
abbrev pub goods_place : Option Place
goods_place = Some (record { account = Text (codes "10"); extras = LineCode 0 ∷ [] })

abbrev pub plain_place : List ℕ → Option Place
plain_place code = Some (record { account = Text code; extras = [] })

abbrev pub each_line : Act → Statement
each_line act = record { each = true; act = act; when = None }

abbrev pub once : Act → Statement
once act = record { each = false; act = act; when = None }

-- a fill receives goods
abbrev pub fill_rules : List Statement
fill_rules =
    each_line (Make MakesReceipt 0 line_item ((0, line_quantity) ∷ (1, line_amount) ∷ [])) ∷ []

-- an issue writes goods off at their average
abbrev pub issue_rules : List Statement
issue_rules = each_line (WriteOff false 0 line_item 0 line_quantity 1) ∷ []

-- a receipt makes a lot of stock of each line, and its entry
abbrev pub receipt_rules : List Statement
receipt_rules =
    each_line (Make MakesReceipt 2
    (bound 0 (HeadCode 0) ∷ bound 1 (LineCode 0) ∷ own_lot ∷ [])
    ((0, line_quantity) ∷ (1, line_amount) ∷ []))
    ∷ each_line (Entry 0 goods_place (plain_place (codes "60")) line_amount) ∷ []

-- a sale writes stock off, the oldest lots first; its turn and its entry have the cost
abbrev pub sale_rules : List Statement
sale_rules =
    each_line (WriteOff true 2 warehouse_and_item 0 line_quantity 1)
    ∷ each_line (Make MakesTurn 1 line_item ((0, line_quantity) ∷ (1, line_cost) ∷ []))
    ∷ each_line (Entry 0 (plain_place (codes "90")) goods_place line_cost) ∷ []

-- a take takes goods of which no less than nothing may be left
abbrev pub take_rules : List Statement
take_rules = each_line (Make MakesExpense 0 line_item ((0, line_quantity) ∷ []))
    ∷ once (Control 0 0) ∷ []

-- ---- the shop

-- a shop: goods, sales and stock, one ledger, five types of documents and two clerks
abbrev pub shop : Setting
shop = record {
  config = record {
    registers = register_of (codes "goods") true true (codes_of (codes "item") ∷ [])
        ∷ register_of (codes "sales") false false (codes_of (codes "item") ∷ [])
        ∷ register_of (codes "stock") true false
        (codes_of (codes "warehouse") ∷ codes_of (codes "item")
        ∷ record { name = codes "lot"; lot = true } ∷ []) ∷ [];
    ledgers = main_ledger ∷ [];
    kinds = kind_of (codes "fill") [] (field_of (codes "amount") (Some 2) ∷ [])
        ∷ kind_of (codes "issue") [] []
        ∷ kind_of (codes "receipt") (field_of (codes "warehouse") None ∷ [])
        (field_of (codes "amount") (Some 2) ∷ [])
        ∷ kind_of (codes "sale") (field_of (codes "warehouse") None ∷ []) []
        ∷ kind_of (codes "take") [] [] ∷ [];
    sequences = [];
    clerks = record { name = codes "anna"; rights = everything_allowed }
        ∷ record { name = codes "boris"; rights = everything_allowed } ∷ [];
  };
  rules = record {
    kinds = fill_rules ∷ issue_rules ∷ receipt_rules ∷ sale_rules ∷ take_rules ∷ [];
  };
}

-- a shop's desk on which nothing was done yet
abbrev pub empty : Desk
empty = first_desk shop

-- 2024-01-10T09:00:00, the days 2024-01-10, 11, 12 and 15, and 2024-02-01
abbrev pub morning : ℕ
morning = 758_192_400

abbrev pub tenth : ℕ
tenth = 758_160_000

abbrev pub eleventh : ℕ
eleventh = 758_246_400

abbrev pub twelfth : ℕ
twelfth = 758_332_800

abbrev pub fifteenth : ℕ
fifteenth = 758_592_000

abbrev pub february : ℕ
february = 760_060_800

-- ---- requests of anna

-- a record of a register, or of a ledger
abbrev pub of_register : Mark → List (List ℕ) → List (List ℕ) → RecordText
of_register mark values sums = InRegister (record { mark = mark; sums = sums; values = values })

abbrev pub of_ledger : Option Side → Option Side → List ℕ → RecordText
of_ledger debit credit amount =
    InLedger (record { amount = amount; debit = debit; credit = credit })

-- an account with its extras
abbrev pub side : List ℕ → List (List ℕ) → Option Side
side account extras = Some (record { account = account; extras = extras })

abbrev pub set_of : List ℕ → List RecordText → SetText
set_of space records = record { space = space; records = records }

-- a document given by hand, whose place another may have and whose key may be there
abbrev pub manual_at : ℕ → Option ℕ → Option (List ℕ) → ℕ → List SetText → Request
manual_at nr doc key date sets = Manual (record {
  clerk = codes "anna";
  no = nr;
  doc = doc;
  key = key;
  date = date;
  sets = sets;
  comment = None;
  tx = None;
})

-- a new one in the morning
abbrev pub manual : ℕ → List SetText → Request
manual nr sets = manual_at nr None None morning sets

-- receipts of an item
abbrev pub received : List ℕ → List ℕ → List ℕ → SetText
received item quantity amount =
    set_of (codes "goods") (of_register Receipt (item ∷ []) (quantity ∷ amount ∷ []) ∷ [])

-- ten nails at 50.00 in the morning
abbrev pub nails_under : ℕ → Request
nails_under nr = manual nr (received (codes "nail") (codes "10.000") (codes "50.00") ∷ [])

-- the content of a document of a type, whose place another may have and whose key may be there
abbrev pub content_at : ℕ → Option ℕ → Option (List ℕ) → List ℕ → ℕ → List FieldText
    → List (List FieldText) → WriteRequest
content_at nr doc key kind date head lines = record {
  clerk = codes "anna";
  no = nr;
  doc = doc;
  key = key;
  kind = kind;
  date = date;
  head = head;
  lines = lines;
  comment = None;
  tx = None;
}

-- a document of this content is written, and is posted
abbrev pub write_at : ℕ → Option ℕ → Option (List ℕ) → List ℕ → ℕ → List FieldText
    → List (List FieldText) → Request
write_at nr doc key kind date head lines = Write (content_at nr doc key kind date head lines)

abbrev pub post_at : ℕ → Option ℕ → List ℕ → ℕ → List FieldText → List (List FieldText) → Request
post_at nr doc kind date head lines = Post (Content (content_at nr doc None kind date head lines))

-- a document is posted as it stands, and loses its records again
abbrev pub post : ℕ → ℕ → Request
post nr doc = Post (Standing (record { clerk = codes "anna"; no = nr; doc = doc; tx = None }))

abbrev pub unpost : ℕ → ℕ → Request
unpost nr doc = Unpost (record { clerk = codes "anna"; no = nr; doc = doc; tx = None })

abbrev pub text_of : List ℕ → List ℕ → FieldText
text_of name text = record { name = name; text = text }

-- a line with an amount, an item and a quantity
abbrev pub filled : List ℕ → List ℕ → List ℕ → List FieldText
filled amount item quantity = text_of (codes "amount") amount ∷ text_of (codes "item") item
    ∷ text_of (codes "quantity") quantity ∷ []

-- a line with an item and a quantity
abbrev pub counted : List ℕ → List ℕ → List FieldText
counted item quantity = text_of (codes "item") item ∷ text_of (codes "quantity") quantity ∷ []

-- a head with the main warehouse
abbrev pub in_main : List FieldText
in_main = text_of (codes "warehouse") (codes "main") ∷ []

-- new documents that are posted: of goods, and of stock in the main warehouse
abbrev pub post_goods : ℕ → List ℕ → ℕ → List (List FieldText) → Request
post_goods nr kind date lines = post_at nr None kind date [] lines

abbrev pub post_stock : ℕ → List ℕ → ℕ → List (List FieldText) → Request
post_stock nr kind date lines = post_at nr None kind date in_main lines

-- a new fill of these lines on the tenth
abbrev pub fill : ℕ → List (List FieldText) → Request
fill nr lines = write_at nr None None (codes "fill") tenth [] lines

abbrev pub mark : ℕ → ℕ → Bool → Request
mark nr doc on = MarkRequest (record {
  clerk = codes "anna";
  no = nr;
  doc = doc;
  on = on;
  tx = None;
})

abbrev pub activity : ℕ → ℕ → Bool → Request
activity nr doc on = Activity (record {
  clerk = codes "anna";
  no = nr;
  doc = doc;
  on = on;
  tx = None;
})

abbrev pub close : ℕ → ℕ → Request
close nr date = Close (record { clerk = codes "anna"; no = nr; date = date })

abbrev pub sweep : ℕ → ℕ → Request
sweep nr doc = Sweep (record { clerk = codes "anna"; no = nr; doc = doc })

-- the balance of a register, and that of goods
abbrev pub balance_at : List ℕ → Option Cut → Request
balance_at register cut = Balance (record {
  clerk = codes "anna";
  register = record { name = register; filter = None; group = None };
  cut = cut;
  tx = None;
})

abbrev pub goods_at : Option Cut → Request
goods_at cut = balance_at (codes "goods") cut

abbrev pub show : ℕ → Request
show doc = Doc (record { clerk = codes "anna"; doc = doc; tx = None })

-- ---- replies

-- a document that stands so
abbrev pub stands : Bool → ℕ → DocState → Reply
stands active doc state = Done (Acknowledged (DocumentStands active doc state))

abbrev pub bad_field : FieldOf → Reply
bad_field field = Refused (BadField field)

-- one request, whose entry is not made as a text here: it passes its limit
abbrev pub row_step : Desk → Request → Event
row_step desk r = event_of desk (meaning_at desk r) (command_at desk r)
    (effect_of (record (tests_of desk (meaning_at desk r) r) { entry = Ok tt }) desk.setting
    desk.serial (command_at desk r))

-- where it does, this is the step
row_step-is : (desk : Desk) (r : Request) →
    entry_limit desk.journal (entry_length desk r) ≡ Ok tt → row_step desk r ≡ step desk r
unfolding step
row_step-is desk r fits = λ i. event_of desk (meaning_at desk r) (command_at desk r)
    (effect_of (record (tests_of desk (meaning_at desk r) r) { entry = sym fits i }) desk.setting
    desk.serial (command_at desk r))

-- the replies to requests, one after another
abbrev pub replies : Desk → List Request → List Reply
replies desk [] = []
replies desk (r ∷ rs) = let event = row_step desk r in event.reply ∷ replies event.desk rs

-- the desk after requests, one after another
abbrev pub after : Desk → List Request → Desk
after desk [] = desk
after desk (r ∷ rs) = after (row_step desk r).desk rs
