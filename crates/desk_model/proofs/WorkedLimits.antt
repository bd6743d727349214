-- Worked rows of limits.
use Rattle.std.proofs.Common.{◌≡◌, ℕ, pos, true, Option, Some, None, List, [], ◌∷◌, refl}
use Rattle.std.proofs.Common.{codes}
use Rattle.std.proofs.Common.{Result, Ok, Err, map}
use Rattle.std.specs.List.{range_with_len}
use Rattle.reg_base.specs.declared.fault.EntryFault.TheVariants.{UnknownAccount}
use Rattle.reg_base.specs.declared.fault.PostFault.TheVariants.{Entry, TooManyRecords}
use Rattle.reg_base.specs.declared.records.DocState.TheVariants.{Posted, Written, Marked}
use Rattle.reg_base.specs.declared.records.Document.{Document}
use Rattle.reg_base.specs.declared.records.Mark.TheVariants.{Receipt}
use Rattle.reg_base.specs.declared.records.Posting.{Posting}
use Rattle.reg_base.specs.declared.value.Value.TheVariants.{Code}
use Rattle.reg_base.specs.Documents.{document_at}
use Rattle.desk_words.specs.declared.request.RecordText.{RecordText}
use Rattle.desk_model.specs.declared.plan.Given.{Given}
use Rattle.reg_base.specs.Codes.{is_code}
use Rattle.reg_base.specs.Numbers.{parse_num, digits_from, decimals_from, last_digits_from}
use Rattle.reg_base.specs.Numbers.{units_of}
use Rattle.reg_base.specs.Rights.{right_word}
use Rattle.cfg_model.specs.Entries.{entry_check}
use Rattle.cfg_model.specs.Places.{account_at}
use Rattle.desk_words.specs.declared.request.Request.{Request}
use Rattle.desk_words.specs.declared.reply.Reply.TheVariants.{Done, Refused}
use Rattle.desk_words.specs.declared.reply.Acknowledgement.TheVariants.{Closed as BooksClosed}
use Rattle.desk_words.specs.declared.reply.Answer.TheVariants.{Acknowledged}
use Rattle.desk_words.specs.declared.reply.Limit.TheVariants.{Documents, Records, Lines, Numbers}
use Rattle.desk_words.specs.declared.reply.Refusal.{Refusal}
use Rattle.desk_words.specs.declared.reply.Refusal.TheVariants.{Closed, Limit, Rule}
use Rattle.desk_model.specs.State.{State, Desk, first_state}
use Rattle.desk_model.specs.Plans.{Sight}
use Rattle.desk_model.specs.Manuals.{space_of, given_set, given_sets, plan_manual}
use Rattle.desk_model.specs.GivenRecords.{record_in_register, given_record, entry_in_ledger}
use Rattle.desk_model.specs.GivenRecords.{given_entry}
use Rattle.desk_model.specs.RecordSets.{record_set}
use Rattle.desk_model.specs.Entries.{entry_at}
use Rattle.desk_model.specs.Fields.{cells_of}
use Rattle.desk_model.specs.Writes.{kind_of_request, content_of, plan_content, plan_write}
use Rattle.desk_model.specs.States.{plan_mark, plan_activity, plan_sweep}
use Rattle.desk_model.specs.Limits.{within_limit, most_documents, most_kept_records}
use Rattle.desk_model.specs.Limits.{records_with, limits_of}
use Rattle.desk_model.specs.Serial.{work_effect, plan_effect, change_effect, effect_of}
use Rattle.desk_model.specs.Desk.{step}
use Rattle.desk_model.proofs.RowBooks.{main_ledger, shop, empty, morning, tenth, eleventh, side}
use Rattle.desk_model.proofs.RowBooks.{of_register, of_ledger}
use Rattle.desk_model.proofs.RowBooks.{set_of, manual_at, manual, nails_under, write_at, mark}
use Rattle.desk_model.proofs.RowBooks.{close, stands, replies, after}

-- ---- document numbers

-- an entry that the chart refuses
refused_entry : ℕ → Request
refused_entry nr = manual nr (set_of (codes "main")
    (of_ledger (side (codes "77") []) (side (codes "60") []) (codes "1") ∷ []) ∷ [])

-- a desk with one document, where the greatest number was drawn
no_more : Desk
no_more = record (after empty (nails_under 1 ∷ [])) {
  serial = record (after empty (nails_under 1 ∷ [])).serial { top = 4_294_967_295 };
}

-- then no document is made; this is told behind a closed date, and before records that can't be
-- made; a document that there is changes on
no_number_left : replies no_more
    (refused_entry 2 ∷ manual_at 2 (Some 1) None morning [] ∷ close 3 eleventh ∷ refused_entry 4
    ∷ close 4 tenth ∷ mark 5 1 true ∷ [])
    ≡ Refused (Limit Numbers 4_294_967_295) ∷ stands true 1 Posted
    ∷ Done (Acknowledged (BooksClosed eleventh)) ∷ Refused (Closed eleventh)
    ∷ Done (Acknowledged (BooksClosed tenth)) ∷ stands true 1 Marked ∷ []
unfolding step effect_of change_effect plan_effect work_effect limits_of right_word no_more
    refused_entry
    plan_manual given_sets given_set space_of given_record record_in_register record_set is_code
    parse_num digits_from decimals_from last_digits_from units_of
    given_entry entry_in_ledger entry_at entry_check account_at
    plan_mark plan_activity plan_sweep
no_number_left = refl

-- the last number is drawn
last_number : replies (record empty { serial = record first_state { top = 4_294_967_294 } })
    (nails_under 1 ∷ nails_under 2 ∷ [])
    ≡ stands true 4_294_967_295 Posted ∷ Refused (Limit Numbers 4_294_967_295) ∷ []
unfolding step effect_of change_effect plan_effect work_effect limits_of right_word
    plan_manual given_sets given_set space_of given_record record_in_register record_set is_code
    parse_num digits_from decimals_from last_digits_from units_of
last_number = refl

-- ---- lines

-- so many of one element
so_many : {X : Type 0} → ℕ → X → List X
so_many n x = map (λ _. x) (range_with_len 0 n)

-- a type whose lines have no fields
blank_lines : Desk
blank_lines = record empty {
  setting = record shop {
    config = record shop.config {
      kinds = record { name = codes "note"; head = []; lines = []; rules = [] } ∷ [];
    };
  };
}

-- a thousand lines are taken, and one more is not
too_many_lines : replies blank_lines
    (write_at 1 None None (codes "note") tenth [] (so_many 1_001 [])
    ∷ write_at 1 None None (codes "note") tenth [] (so_many 1_000 []) ∷ [])
    ≡ Refused (Limit Lines 1_000) ∷ stands true 1 Written ∷ []
unfolding step effect_of change_effect plan_effect work_effect limits_of right_word blank_lines
    so_many
    plan_write plan_content kind_of_request content_of cells_of
too_many_lines = refl

-- ---- documents and records

-- 500,000 documents and 2,000,000 records are kept, and no more
most_are_kept : within_limit Documents 500_000 most_documents
    ∷ within_limit Documents 500_001 most_documents
    ∷ within_limit Records 2_000_000 most_kept_records
    ∷ within_limit Records 2_000_001 most_kept_records ∷ []
    ≡ Ok tt ∷ Err (Limit Documents 500_000) ∷ Ok tt ∷ Err (Limit Records 2_000_000) ∷ []
most_are_kept = refl

-- a record of goods, and an entry
one_nail : RecordText
one_nail = of_register Receipt (codes "nail" ∷ []) (codes "1" ∷ codes "1" ∷ [])

bought : RecordText
bought = of_ledger (side (codes "10") (codes "nail" ∷ [])) (side (codes "60") []) (codes "1")

-- a document with so many records and so many entries
holding : ℕ → ℕ → ℕ → Request
holding nr records entries = manual nr (set_of (codes "goods") (so_many records one_nail)
    ∷ set_of (codes "main") (so_many entries bought) ∷ [])

-- two documents with a record and an entry each
four : State
four = (after empty (holding 1 1 1 ∷ holding 2 1 1 ∷ [])).serial

-- a change of the first of them, and its form with so many records and entries
seen : Sight
seen = record {
  before = document_at 1 four.documents;
  holder = None;
  closed = 0;
  drawn = 0;
}

grown : ℕ → ℕ → Option Document
grown records entries =
    document_at 1 (after empty (holding 1 records entries ∷ [])).serial.documents

-- those by which it grows are added, and where it shrinks none is taken off
records_are_counted : map (records_with four seen)
    (grown 1 1 ∷ grown 2 1 ∷ grown 2 3 ∷ grown 0 1 ∷ None ∷ []) ≡ 4 ∷ 5 ∷ 7 ∷ 4 ∷ 4 ∷ []
unfolding step effect_of change_effect plan_effect work_effect limits_of right_word holding grown
    four seen so_many one_nail bought
    plan_manual given_sets given_set space_of given_record record_in_register record_set is_code
    parse_num digits_from decimals_from last_digits_from units_of
    given_entry entry_in_ledger entry_at entry_check account_at
records_are_counted = refl

-- ---- records of one set

-- what a set is refused with
refusal_in : {X : Type 0} → Result X Refusal → Option Refusal
refusal_in (Ok made) = None
refusal_in (Err refusal) = Some refusal

-- a record that is made, and one of zeros
made : Given
made = record { mark = Receipt; values = Code (codes "nail") ∷ []; sums = pos 1 ∷ pos 0 ∷ [] }

zeros : Given
zeros = record { mark = Receipt; values = Code (codes "nail") ∷ []; sums = pos 0 ∷ pos 0 ∷ [] }

-- a set has room for 5,000 records that are made
full_set : map refusal_in (record_set morning (so_many 5_000 made)
    ∷ record_set morning (so_many 5_001 made) ∷ record_set morning (so_many 5_001 zeros) ∷ [])
    ≡ None ∷ Some (Rule TooManyRecords None) ∷ None ∷ []
unfolding record_set so_many made zeros refusal_in
full_set = refl

-- an entry of this debit under this line
made_at : ℕ → List ℕ → Result Posting Refusal
made_at line debit = entry_at main_ledger morning line (record {
  debit = side debit [];
  credit = side (codes "60") [];
  amount = pos 100;
})

-- so has a set of entries, and of one entry more the chart is asked first
past_a_full_set : map refusal_in
    (made_at 5_000 (codes "90") ∷ made_at 5_001 (codes "90") ∷ made_at 5_001 (codes "77") ∷ [])
    ≡ None ∷ Some (Rule TooManyRecords None) ∷ Some (Rule (Entry 0 5_001 UnknownAccount) None) ∷ []
unfolding entry_at entry_check account_at made_at refusal_in
past_a_full_set = refl
