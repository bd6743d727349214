-- Sets of records as a request gives them; the fault names the member that they stand in.
use Rattle.std.specs.Prelude.{ℕ, ◌==◌, List, [], ◌∷◌, Option, Some, None, Ok, Err, if◌then◌else◌}
use Rattle.std.specs.Prelude.{codes, ⊤}
use Rattle.std.specs.Str.{bytes_eq}
use Rattle.serde_json.specs.Data.{Data, Members}
use Rattle.serde_json.specs.Events.{members_len}
use Rattle.serde_json.specs.Find.{get_member, as_null}
use Rattle.reg_base.specs.Results.{◌>>=◌, some_or, unless}
use Rattle.reg_base.specs.declared.records.Mark.{Mark}
use Rattle.reg_base.specs.declared.records.Mark.TheVariants.{Receipt, Expense, Turn}
use Rattle.reg_base.specs.declared.records.Side.{Side}
use Rattle.desk_words.specs.declared.fault.Member.{Member}
use Rattle.desk_words.specs.declared.fault.WordFault.TheVariants.{BadMember}
use Rattle.desk_words.specs.declared.request.SetText.{SetText}
use Rattle.desk_words.specs.declared.request.RecordText.{RecordText}
use Rattle.desk_words.specs.declared.request.RecordText.TheVariants.{Register, Ledger}
use Rattle.desk_words.specs.declared.request.RegisterText.{RegisterText}
use Rattle.desk_words.specs.declared.request.LedgerText.{LedgerText}
use Rattle.desk_words.specs.Shapes.{OrFault, value_at, json_object, json_text, json_name, json_list}
use Rattle.desk_words.specs.Shapes.{json_texts, json_codes}

-- the mark of that word
abbrev pub mark_named : List ℕ → Option Mark
mark_named word =
    if bytes_eq word (codes "receipt") then Some Receipt
    else (if bytes_eq word (codes "expense") then Some Expense
    else (if bytes_eq word (codes "turn") then Some Turn
    else None))

-- a word that is a mark
unfoldable pub json_mark : Member → Data → OrFault Mark
json_mark m d = do
  word ← json_text m d
  some_or (mark_named word) (BadMember m)

-- the first code is the account, the others its extras
abbrev pub side_from : Member → List (List ℕ) → OrFault Side
side_from m [] = Err (BadMember m)
side_from m (account ∷ extras) = Ok (record { account = account; extras = extras })

-- the side, where it is not null
abbrev pub side_if : Member → Option ⊤ → Data → OrFault (Option Side)
side_if m (Some absent) d = Ok None
side_if m None d = json_codes m d >>= λ codes. side_from m codes >>= λ side. Ok (Some side)

-- null where the side is absent, or else the list of its account and extras
unfoldable pub json_side : Member → Data → OrFault (Option Side)
json_side m d = side_if m (as_null d) d

-- exactly a kind, sums and values
unfoldable pub register_record : Member → Members → OrFault RegisterText
register_record m object = do
  _ ← unless (members_len object == 3) (BadMember m)
  mark ← value_at m (codes "kind") object >>= json_mark m
  sums ← value_at m (codes "sums") object >>= json_texts m
  values ← value_at m (codes "values") object >>= json_texts m
  Ok (record { mark = mark; sums = sums; values = values })

-- exactly an amount and the two sides
unfoldable pub ledger_record : Member → Members → OrFault LedgerText
ledger_record m object = do
  _ ← unless (members_len object == 3) (BadMember m)
  amount ← value_at m (codes "amount") object >>= json_text m
  credit ← value_at m (codes "credit") object >>= json_side m
  debit ← value_at m (codes "debit") object >>= json_side m
  Ok (record { amount = amount; debit = debit; credit = credit })

-- a record, by whether it has an amount
abbrev pub record_if : Member → Option Data → Members → OrFault RecordText
record_if m (Some amount) object = ledger_record m object >>= λ r. Ok (Ledger r)
record_if m None object = register_record m object >>= λ r. Ok (Register r)

-- an object with an amount is a record of a ledger, and any other one of a register
unfoldable pub json_record : Member → Data → OrFault RecordText
json_record m d = do
  object ← json_object m d
  record_if m (get_member (codes "amount") object) object

-- a list of records
unfoldable pub json_records : Member → Data → OrFault (List RecordText)
json_records m d = json_list (json_record m) m d

-- exactly a space and a list of records
unfoldable pub json_set : Member → Data → OrFault SetText
json_set m d = do
  object ← json_object m d
  _ ← unless (members_len object == 2) (BadMember m)
  space ← value_at m (codes "space") object >>= json_name m
  records ← value_at m (codes "records") object >>= json_records m
  Ok (record { space = space; records = records })

-- a list of sets
unfoldable pub json_sets : Member → Data → OrFault (List SetText)
json_sets m d = json_list (json_set m) m d
