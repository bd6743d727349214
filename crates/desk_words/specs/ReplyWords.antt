-- The words, numbers and texts of values of replies.
use Rattle.std.specs.Prelude.{ℕ, List, codes}
use Rattle.reg_base.specs.Points.{point_text}
use Rattle.reg_base.specs.declared.records.DocState.{DocState}
use Rattle.reg_base.specs.declared.records.DocState.TheVariants.{Written, Posted, Marked}
use Rattle.reg_base.specs.declared.value.Value.{Value}
use Rattle.reg_base.specs.declared.value.Value.TheVariants.{Code, Lot}
use Rattle.desk_words.specs.declared.fault.WordFault.{WordFault}
use Rattle.desk_words.specs.declared.fault.WordFault.TheVariants.{TooLong, NotJson, NotObject}
use Rattle.desk_words.specs.declared.fault.WordFault.TheVariants.{UnknownOp, Missing, UnknownMember}
use Rattle.desk_words.specs.declared.fault.WordFault.TheVariants.{BadMember, Memory}
use Rattle.desk_words.specs.declared.reply.Refusal.{Refusal}
use Rattle.desk_words.specs.declared.reply.Refusal.TheVariants.{BadLine, UnknownClerk, NotAllowed}
use Rattle.desk_words.specs.declared.reply.Refusal.TheVariants.{Stale, NumberReused, UnknownDoc}
use Rattle.desk_words.specs.declared.reply.Refusal.TheVariants.{WrongState, BadField, KeyTaken}
use Rattle.desk_words.specs.declared.reply.Refusal.TheVariants.{Closed, Limit as LimitPassed, Rule}
use Rattle.desk_words.specs.declared.reply.Refusal.TheVariants.{Control, Table}
use Rattle.desk_words.specs.declared.reply.Field.{Field}
use Rattle.desk_words.specs.declared.reply.Field.TheVariants.{Space, Register, Ledger, Values, Sums}
use Rattle.desk_words.specs.declared.reply.Field.TheVariants.{Kind, Amount, Account, Named}
use Rattle.desk_words.specs.declared.reply.Limit.{Limit}
use Rattle.desk_words.specs.declared.reply.Limit.TheVariants.{Documents, Numbers, Records, Lines}
use Rattle.desk_words.specs.declared.reply.Limit.TheVariants.{Journal}
use Rattle.reg_base.specs.declared.fault.PostFault.{PostFault}
use Rattle.reg_base.specs.declared.fault.PostFault.TheVariants.{Broken, Shortage, Overflow, Entry}
use Rattle.reg_base.specs.declared.fault.PostFault.TheVariants.{TooManyRecords, Negative}
use Rattle.reg_base.specs.declared.fault.TableFault.{TableFault}
use Rattle.reg_base.specs.declared.fault.TableFault.TheVariants.{BadRange, TooManyRows}
use Rattle.reg_base.specs.declared.fault.TableFault.TheVariants.{UnknownField}
use Rattle.reg_base.specs.declared.fault.EntryFault.{EntryFault}
use Rattle.reg_base.specs.declared.fault.EntryFault.TheVariants.{UnknownAccount, GroupAccount}
use Rattle.reg_base.specs.declared.fault.EntryFault.TheVariants.{ExtraCount, Sides}

-- a value as text: a code as it is, a lot as its point
abbrev pub value_text : Value → List ℕ
value_text (Code code) = code
value_text (Lot point) = point_text point

-- the word of a document's state
abbrev pub state_name : DocState → List ℕ
state_name Written = codes "written"
state_name Posted = codes "posted"
state_name Marked = codes "marked"

-- the word of a field; one of a document's type has its own name
abbrev pub field_name : Field → List ℕ
field_name Space = codes "space"
field_name Register = codes "register"
field_name Ledger = codes "ledger"
field_name Values = codes "values"
field_name Sums = codes "sums"
field_name Kind = codes "kind"
field_name Amount = codes "amount"
field_name Account = codes "account"
field_name (Named name) = name

-- the word of what is limited
abbrev pub limit_name : Limit → List ℕ
limit_name Documents = codes "documents"
limit_name Numbers = codes "numbers"
limit_name Records = codes "records"
limit_name Lines = codes "lines"
limit_name Journal = codes "journal"

-- the number of a fault of a line; want of memory is none and is never told
abbrev pub word_fault_number : WordFault → ℕ
word_fault_number (TooLong bytes) = 1
word_fault_number NotJson = 2
word_fault_number NotObject = 3
word_fault_number UnknownOp = 4
word_fault_number (Missing m) = 5
word_fault_number (UnknownMember name) = 6
word_fault_number (BadMember m) = 7
word_fault_number Memory = 0

-- the number of a fault of posting
abbrev pub post_fault_number : PostFault → ℕ
post_fault_number (Broken rule line code) = 1
post_fault_number (Shortage rule line missing) = 2
post_fault_number (Overflow rule line) = 3
post_fault_number (Entry rule line fault) = 4
post_fault_number TooManyRecords = 5
post_fault_number (Negative rule line) = 6

-- the number of a fault of an entry
abbrev pub entry_fault_number : EntryFault → ℕ
entry_fault_number UnknownAccount = 1
entry_fault_number GroupAccount = 2
entry_fault_number ExtraCount = 3
entry_fault_number Sides = 4

-- the number of a fault of a table
abbrev pub table_fault_number : TableFault → ℕ
table_fault_number (BadRange first last) = 1
table_fault_number (TooManyRows limit) = 2
table_fault_number (UnknownField name) = 3

-- the number of a refusal
abbrev pub refusal_number : Refusal → ℕ
refusal_number (BadLine fault) = 1
refusal_number UnknownClerk = 2
refusal_number (NotAllowed right) = 3
refusal_number (Stale last) = 4
refusal_number NumberReused = 5
refusal_number UnknownDoc = 9
refusal_number (WrongState state) = 10
refusal_number (BadField field) = 11
refusal_number (KeyTaken doc) = 12
refusal_number (Closed date) = 13
refusal_number (LimitPassed which limit) = 14
refusal_number (Rule fault scale) = 15
refusal_number (Control register values balance scale) = 18
refusal_number (Table fault) = 19

-- the word of a refusal
abbrev pub refusal_name : Refusal → List ℕ
refusal_name (BadLine fault) = codes "BadLine"
refusal_name UnknownClerk = codes "UnknownClerk"
refusal_name (NotAllowed right) = codes "NotAllowed"
refusal_name (Stale last) = codes "Stale"
refusal_name NumberReused = codes "NumberReused"
refusal_name UnknownDoc = codes "UnknownDoc"
refusal_name (WrongState state) = codes "WrongState"
refusal_name (BadField field) = codes "BadField"
refusal_name (KeyTaken doc) = codes "KeyTaken"
refusal_name (Closed date) = codes "Closed"
refusal_name (LimitPassed which limit) = codes "Limit"
refusal_name (Rule fault scale) = codes "Rule"
refusal_name (Control register values balance scale) = codes "Control"
refusal_name (Table fault) = codes "Table"
