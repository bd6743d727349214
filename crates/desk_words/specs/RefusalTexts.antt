-- Why a request is refused, as JSON.
use Rattle.std.specs.Prelude.{ℕ, ℤ, Option, None, Some, List, [], map, codes}
use Rattle.serde_json.specs.Data.{Data, string, object, Members, no_members, member, put}
use Rattle.reg_base.specs.Dates.{date_text}
use Rattle.reg_base.specs.Numbers.{sum_text}
use Rattle.reg_base.specs.Rights.{right_word}
use Rattle.desk_words.specs.declared.fault.WordFault.{WordFault}
use Rattle.desk_words.specs.declared.fault.WordFault.TheVariants.{TooLong, NotJson, NotObject}
use Rattle.desk_words.specs.declared.fault.WordFault.TheVariants.{UnknownOp, Missing, UnknownMember}
use Rattle.desk_words.specs.declared.fault.WordFault.TheVariants.{BadMember, Memory}
use Rattle.desk_words.specs.declared.reply.Refusal.{Refusal}
use Rattle.desk_words.specs.declared.reply.Refusal.TheVariants.{BadLine, UnknownClerk, NotAllowed}
use Rattle.desk_words.specs.declared.reply.Refusal.TheVariants.{Stale, NumberReused, UnknownDoc}
use Rattle.desk_words.specs.declared.reply.Refusal.TheVariants.{WrongState, BadField, KeyTaken}
use Rattle.desk_words.specs.declared.reply.Refusal.TheVariants.{Closed, Limit as LimitPassed, Rule}
use Rattle.desk_words.specs.declared.reply.Refusal.TheVariants.{Control, Table}
use Rattle.reg_base.specs.declared.fault.PostFault.{PostFault}
use Rattle.reg_base.specs.declared.fault.PostFault.TheVariants.{Broken, Shortage, Overflow, Entry}
use Rattle.reg_base.specs.declared.fault.PostFault.TheVariants.{TooManyRecords, Negative}
use Rattle.reg_base.specs.declared.fault.TableFault.{TableFault}
use Rattle.reg_base.specs.declared.fault.TableFault.TheVariants.{BadRange, TooManyRows}
use Rattle.reg_base.specs.declared.fault.TableFault.TheVariants.{UnknownField}
use Rattle.desk_words.specs.Members.{member_name}
use Rattle.desk_words.specs.JsonValues.{whole, texts_data}
use Rattle.desk_words.specs.ReplyWords.{state_name, field_name, limit_name, word_fault_number}
use Rattle.desk_words.specs.ReplyWords.{post_fault_number, entry_fault_number, refusal_number}
use Rattle.desk_words.specs.ReplyWords.{table_fault_number, refusal_name, value_text}

-- what the fault of a line tells besides its number
abbrev pub word_fault_detail : WordFault → Members
word_fault_detail (TooLong bytes) = member (codes "bytes") (whole bytes) no_members
word_fault_detail (Missing m) = member (codes "member") (string (member_name m)) no_members
word_fault_detail (UnknownMember name) = member (codes "member") (string name) no_members
word_fault_detail (BadMember m) = member (codes "member") (string (member_name m)) no_members
word_fault_detail NotJson = no_members
word_fault_detail NotObject = no_members
word_fault_detail UnknownOp = no_members
word_fault_detail Memory = no_members

-- the fault of a line: its number, and what it tells besides
unfoldable pub word_fault_members : WordFault → Members
word_fault_members fault =
    put (codes "kind") (whole (word_fault_number fault)) (word_fault_detail fault)

-- the rule and the line of the document at which posting found a fault
abbrev pub place_members : ℕ → ℕ → Members
place_members rule line =
    member (codes "line") (whole line) (member (codes "rule") (whole rule) no_members)

-- a quantity that is missing, with its decimals; `HasScales` says that it has a scale
abbrev pub missing_text : Option ℕ → ℤ → List ℕ
missing_text (Some scale) missing = sum_text missing scale
missing_text None missing = []

-- what a fault of posting tells besides its number
abbrev pub post_fault_detail : Option ℕ → PostFault → Members
post_fault_detail scale (Broken rule line code) =
    put (codes "text") (string code) (place_members rule line)
post_fault_detail scale (Shortage rule line missing) =
    put (codes "missing") (string (missing_text scale missing)) (place_members rule line)
post_fault_detail scale (Overflow rule line) = place_members rule line
post_fault_detail scale (Entry rule line fault) =
    put (codes "entry") (whole (entry_fault_number fault)) (place_members rule line)
post_fault_detail scale TooManyRecords = no_members
post_fault_detail scale (Negative rule line) = place_members rule line

-- a fault of posting: its number, and what it tells besides
unfoldable pub post_fault_members : Option ℕ → PostFault → Members
post_fault_members scale fault =
    put (codes "fault") (whole (post_fault_number fault)) (post_fault_detail scale fault)

-- what a fault of a table tells besides its number
abbrev pub table_fault_detail : TableFault → Members
table_fault_detail (BadRange first last) =
    member (codes "from") (string (date_text first))
    (member (codes "to") (string (date_text last)) no_members)
table_fault_detail (TooManyRows limit) = member (codes "limit") (whole limit) no_members
table_fault_detail (UnknownField name) = member (codes "field") (string name) no_members

-- a fault of a table: its number, and what it tells besides
unfoldable pub table_fault_members : TableFault → Members
table_fault_members fault =
    put (codes "fault") (whole (table_fault_number fault)) (table_fault_detail fault)

-- what a refusal tells besides its number and its name
unfoldable pub refusal_detail : Refusal → Members
refusal_detail (BadLine fault) = word_fault_members fault
refusal_detail UnknownClerk = no_members
refusal_detail (NotAllowed right) = member (codes "right") (string (right_word right)) no_members
refusal_detail (Stale last) = member (codes "last") (whole last) no_members
refusal_detail NumberReused = no_members
refusal_detail UnknownDoc = no_members
refusal_detail (WrongState state) = member (codes "state") (string (state_name state)) no_members
refusal_detail (BadField field) = member (codes "field") (string (field_name field)) no_members
refusal_detail (KeyTaken doc) = member (codes "doc") (whole doc) no_members
refusal_detail (Closed date) = member (codes "date") (string (date_text date)) no_members
refusal_detail (LimitPassed which limit) =
    member (codes "number") (whole limit)
    (member (codes "which") (string (limit_name which)) no_members)
refusal_detail (Rule fault scale) = post_fault_members scale fault
refusal_detail (Control register values balance scale) =
    member (codes "balance") (string (sum_text balance scale))
    (member (codes "register") (string register)
    (member (codes "values") (texts_data (map value_text values)) no_members))
refusal_detail (Table fault) = table_fault_members fault

-- why a request is refused: its number, its name, and what it tells besides
unfoldable pub refusal_data : Refusal → Data
refusal_data refusal =
    object (put (codes "name") (string (refusal_name refusal))
    (put (codes "code") (whole (refusal_number refusal)) (refusal_detail refusal)))
