-- Sums have their texts, and a reply has no float, so that its text is known.
use Rattle.std.proofs.Common.{◌≡◌, ℕ, Option, None, Some, ℤ, false, List, [], ◌∷◌, ◌++◌, map}
use Rattle.std.proofs.Common.{◌⊎◌, ⊎_elim, refl, sym, ap, ◌∙◌, append-nil}
use Rattle.serde_json.specs.Data.{Data, string}
use Rattle.serde_json.specs.Written.{has_float}
use Rattle.reg_base.specs.declared.records.SumRow.{SumRow}
use Rattle.reg_base.specs.declared.records.DocRow.{DocRow}
use Rattle.reg_base.specs.declared.tables.Unit.{Unit as RowUnit}
use Rattle.reg_base.specs.declared.tables.Unit.TheVariants.{Whole, Start, At, Line}
use Rattle.reg_base.specs.declared.tables.Row.{Row}
use Rattle.reg_base.specs.declared.tables.AccountRow.{AccountRow}
use Rattle.reg_base.specs.declared.tables.PairRow.{PairRow}
use Rattle.reg_base.specs.declared.fault.TableFault.{TableFault}
use Rattle.reg_base.specs.declared.fault.TableFault.TheVariants.{BadRange, TooManyRows}
use Rattle.reg_base.specs.declared.fault.TableFault.TheVariants.{UnknownField}
use Rattle.desk_words.specs.declared.fault.WordFault.{WordFault}
use Rattle.desk_words.specs.declared.fault.WordFault.TheVariants.{TooLong, NotJson, NotObject}
use Rattle.desk_words.specs.declared.fault.WordFault.TheVariants.{UnknownOp, Missing, UnknownMember}
use Rattle.desk_words.specs.declared.fault.WordFault.TheVariants.{BadMember, Memory}
use Rattle.desk_words.specs.declared.reply.Reply.{Reply}
use Rattle.desk_words.specs.declared.reply.Reply.TheVariants.{Done, Refused}
use Rattle.desk_words.specs.declared.reply.Answer.{Answer}
use Rattle.desk_words.specs.declared.reply.Answer.TheVariants.{Acknowledged, Balance, Shown}
use Rattle.desk_words.specs.declared.reply.Answer.TheVariants.{Turnovers as TurnoversAnswer}
use Rattle.desk_words.specs.declared.reply.Answer.TheVariants.{Both as BothAnswer, AccountBalance}
use Rattle.desk_words.specs.declared.reply.Answer.TheVariants.{AccountTurnovers, AccountBoth, DrCr}
use Rattle.desk_words.specs.declared.reply.Answer.TheVariants.{Documents}
use Rattle.desk_words.specs.declared.reply.Acknowledgement.{Acknowledgement}
use Rattle.desk_words.specs.declared.reply.Acknowledgement.TheVariants.{Document, Swept}
use Rattle.desk_words.specs.declared.reply.Acknowledgement.TheVariants.{Closed as ClosedBooks}
use Rattle.desk_words.specs.declared.reply.ShownDocument.{ShownDocument}
use Rattle.desk_words.specs.declared.reply.Refusal.{Refusal}
use Rattle.desk_words.specs.declared.reply.Refusal.TheVariants.{BadLine, UnknownClerk, NotAllowed}
use Rattle.desk_words.specs.declared.reply.Refusal.TheVariants.{Stale, NumberReused, UnknownDoc}
use Rattle.desk_words.specs.declared.reply.Refusal.TheVariants.{WrongState, BadField, KeyTaken}
use Rattle.desk_words.specs.declared.reply.Refusal.TheVariants.{Closed, Limit, Rule, Control, Table}
use Rattle.reg_base.specs.declared.fault.PostFault.{PostFault}
use Rattle.reg_base.specs.declared.fault.PostFault.TheVariants.{Broken, Shortage, Overflow, Entry}
use Rattle.reg_base.specs.declared.fault.PostFault.TheVariants.{TooManyRecords, Negative}
use Rattle.desk_words.proofs.JsonLemmas.{items_have_float-each, has_float-texts_data}
use Rattle.desk_words.proofs.JsonLemmas.{has_float-fields_data, has_float-lines_data}
use Rattle.desk_words.proofs.RequestLemmas.{has_float-sets_data}
use Rattle.desk_words.specs.declared.row_values.RegisterTable.{RegisterTable}
use Rattle.desk_words.specs.declared.row_values.RegisterTable.TheVariants.{Turnovers, Moves, Both}
use Rattle.desk_words.specs.declared.row_values.AccountTable.{AccountTable}
use Rattle.desk_words.specs.declared.row_values.AccountTable.TheVariants.{Balance as HeldTable}
use Rattle.desk_words.specs.declared.row_values.AccountTable.TheVariants.{Turnovers as MovedTable}
use Rattle.desk_words.specs.declared.row_values.AccountTable.TheVariants.{Both as WholeTable}
use Rattle.desk_words.specs.RowTexts.{sum_texts, unit_data, key_data, row_data, turnover_row_data}
use Rattle.desk_words.specs.RowTexts.{move_row_data, both_row_data, register_row_data}
use Rattle.desk_words.specs.RowTexts.{held_row_data, moved_row_data, whole_row_data}
use Rattle.desk_words.specs.RowTexts.{account_row_data, pair_row_data, document_row_data}
use Rattle.desk_words.specs.RowTexts.{table_data, turnovers_table}
use Rattle.desk_words.specs.ReplyTexts.{document_data, acknowledgement_data, shown_data}
use Rattle.desk_words.specs.ReplyTexts.{answer_data, reply_data}
use Rattle.desk_words.specs.RefusalTexts.{word_fault_members, post_fault_members}
use Rattle.desk_words.specs.RefusalTexts.{table_fault_members}
use Rattle.desk_words.specs.RefusalTexts.{refusal_detail, refusal_data}

-- without sums there are no texts
sum_texts-nil : (scales : List ℕ) → sum_texts scales [] ≡ []
sum_texts-nil [] = refl
sum_texts-nil (scale ∷ scales) = refl

-- where scales or sums are spent, no text is left to make
pub sum_texts-spent : (front : List Data) (scales : List ℕ) (sums : List ℤ) (all : List Data)
    → (scales ≡ []) ⊎ (sums ≡ [])
    → front ++ map string (sum_texts scales sums) ≡ all → front ≡ all
sum_texts-spent front scales sums all ended so_far =
    let none : sum_texts scales sums ≡ [] =
    ⊎_elim (λ e. ap (λ x. sum_texts x sums) e) (λ e. ap (sum_texts scales) e
    ∙ sum_texts-nil scales) ended in
    sym (append-nil front) ∙ rw none at so_far

-- ---- rows

-- a table whose rows have none has none
has_float-table : {X : Type 0} (row_of : X → Data) → ((x : X) → has_float (row_of x) ≡ false)
    → (rows : List X) → has_float (table_data row_of rows) ≡ false
has_float-table row_of none rows = rw (items_have_float-each row_of none rows)

has_float-row_data : (scales : List ℕ) (row : SumRow) → has_float (row_data scales row) ≡ false
unfolding row_data
has_float-row_data scales row = rw (has_float-texts_data, has_float-texts_data)

has_float-unit_data : (unit : RowUnit) → has_float (unit_data unit) ≡ false
has_float-unit_data Whole = refl
has_float-unit_data (Start date) = refl
has_float-unit_data (At point) = refl
has_float-unit_data (Line point line) = refl

has_float-key_data : (key : Option (List ℕ)) → has_float (key_data key) ≡ false
has_float-key_data None = refl
has_float-key_data (Some key) = refl

has_float-register_row : (table : RegisterTable) (scales : List ℕ) (row : Row)
    → has_float (register_row_data table scales row) ≡ false
unfolding turnover_row_data move_row_data both_row_data
has_float-register_row Turnovers scales row =
    rw (has_float-texts_data, has_float-texts_data, has_float-unit_data row.unit)
has_float-register_row Moves scales row =
    rw (
      has_float-texts_data,
      has_float-texts_data,
      has_float-texts_data,
      has_float-texts_data,
      has_float-unit_data row.unit,
    )
has_float-register_row Both scales row =
    rw (
      has_float-texts_data,
      has_float-texts_data,
      has_float-texts_data,
      has_float-texts_data,
      has_float-texts_data,
      has_float-texts_data,
      has_float-unit_data row.unit,
    )

has_float-account_row : (table : AccountTable) (scale : ℕ) (row : AccountRow)
    → has_float (account_row_data table scale row) ≡ false
unfolding held_row_data moved_row_data whole_row_data
has_float-account_row HeldTable scale row = rw has_float-texts_data
has_float-account_row MovedTable scale row =
    rw (has_float-texts_data, has_float-unit_data row.unit)
has_float-account_row WholeTable scale row =
    rw (has_float-texts_data, has_float-unit_data row.unit)

has_float-pair_row : (scale : ℕ) (row : PairRow) → has_float (pair_row_data scale row) ≡ false
unfolding pair_row_data
has_float-pair_row scale row = rw (has_float-key_data row.credit, has_float-key_data row.debit)

has_float-document_row : (row : DocRow) → has_float (document_row_data row) ≡ false
unfolding document_row_data
has_float-document_row row = rw (has_float-key_data row.key)

-- ---- answers and refusals

-- an acknowledgement has none
has_float-acknowledgement_data : (acknowledgement : Acknowledgement) →
    has_float (acknowledgement_data acknowledgement) ≡ false
unfolding document_data
has_float-acknowledgement_data (Document active doc state) = refl
has_float-acknowledgement_data (ClosedBooks date) = refl
has_float-acknowledgement_data (Swept doc) = refl

-- a document that is shown has none
has_float-shown_data : (shown : ShownDocument) → has_float (shown_data shown) ≡ false
unfolding shown_data
has_float-shown_data shown =
    rw (
      has_float-fields_data shown.head,
      has_float-key_data shown.key,
      has_float-lines_data shown.lines,
      has_float-sets_data shown.sets,
    )

-- an answer has none
has_float-answer_data : (answer : Answer) → has_float (answer_data answer) ≡ false
unfolding answer_data
has_float-answer_data (Acknowledged acknowledgement) =
    has_float-acknowledgement_data acknowledgement
has_float-answer_data (Balance rows scales) =
    has_float-table (row_data scales) (has_float-row_data scales) rows
has_float-answer_data (Shown shown) = has_float-shown_data shown
has_float-answer_data (TurnoversAnswer balances rows scales) =
    has_float-table (register_row_data (turnovers_table balances) scales)
    (has_float-register_row (turnovers_table balances) scales) rows
has_float-answer_data (BothAnswer rows scales) =
    has_float-table (register_row_data Both scales) (has_float-register_row Both scales) rows
has_float-answer_data (AccountBalance rows scale) =
    has_float-table (account_row_data HeldTable scale) (has_float-account_row HeldTable scale) rows
has_float-answer_data (AccountTurnovers rows scale) =
    has_float-table (account_row_data MovedTable scale) (has_float-account_row MovedTable scale)
    rows
has_float-answer_data (AccountBoth rows scale) =
    has_float-table (account_row_data WholeTable scale) (has_float-account_row WholeTable scale)
    rows
has_float-answer_data (DrCr rows scale) =
    has_float-table (pair_row_data scale) (has_float-pair_row scale) rows
has_float-answer_data (Documents rows) =
    has_float-table document_row_data has_float-document_row rows

-- the fault of a line has none
has_float-bad_line : (fault : WordFault) → has_float (refusal_data (BadLine fault)) ≡ false
unfolding refusal_data refusal_detail word_fault_members
has_float-bad_line (TooLong bytes) = refl
has_float-bad_line NotJson = refl
has_float-bad_line NotObject = refl
has_float-bad_line UnknownOp = refl
has_float-bad_line (Missing m) = refl
has_float-bad_line (UnknownMember name) = refl
has_float-bad_line (BadMember m) = refl
has_float-bad_line Memory = refl

-- a fault of posting has none
has_float-rule : (scale : Option ℕ) (fault : PostFault)
    → has_float (refusal_data (Rule fault scale)) ≡ false
unfolding refusal_data refusal_detail post_fault_members
has_float-rule scale (Broken rule line code) = refl
has_float-rule scale (Shortage rule line missing) = refl
has_float-rule scale (Overflow rule line) = refl
has_float-rule scale (Entry rule line fault) = refl
has_float-rule scale TooManyRecords = refl
has_float-rule scale (Negative rule line) = refl

-- a fault of a table has none
has_float-table_fault : (fault : TableFault) → has_float (refusal_data (Table fault)) ≡ false
unfolding refusal_data refusal_detail table_fault_members
has_float-table_fault (BadRange first last) = refl
has_float-table_fault (TooManyRows limit) = refl
has_float-table_fault (UnknownField name) = refl

-- a refusal has none
has_float-refusal_data : (refusal : Refusal) → has_float (refusal_data refusal) ≡ false
unfolding refusal_data refusal_detail
has_float-refusal_data (BadLine fault) = has_float-bad_line fault
has_float-refusal_data UnknownClerk = refl
has_float-refusal_data (NotAllowed right) = refl
has_float-refusal_data (Stale last) = refl
has_float-refusal_data NumberReused = refl
has_float-refusal_data UnknownDoc = refl
has_float-refusal_data (WrongState state) = refl
has_float-refusal_data (BadField field) = refl
has_float-refusal_data (KeyTaken doc) = refl
has_float-refusal_data (Closed date) = refl
has_float-refusal_data (Limit which limit) = refl
has_float-refusal_data (Rule fault scale) = has_float-rule scale fault
has_float-refusal_data (Control register values balance scale) = rw has_float-texts_data
has_float-refusal_data (Table fault) = has_float-table_fault fault

-- a reply has none
pub has_float-reply_data : (reply : Reply) → has_float (reply_data reply) ≡ false
unfolding reply_data
has_float-reply_data (Done answer) = rw (has_float-answer_data answer)
has_float-reply_data (Refused refusal) = rw (has_float-refusal_data refusal)
