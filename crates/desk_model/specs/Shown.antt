-- A document as it is shown.
use Rattle.std.specs.Prelude.{ℕ, Option, option_map, option_and_then, unwrap_or}
use Rattle.std.specs.Prelude.{List, [], ◌∷◌, ◌++◌, map, slice_get}
use Rattle.reg_base.specs.declared.records.Rec.{Rec}
use Rattle.reg_base.specs.declared.records.Posting.{Posting}
use Rattle.reg_base.specs.declared.records.Document.{Document}
use Rattle.reg_base.specs.Numbers.{sum_text}
use Rattle.cfg_model.specs.declared.config.Config.{Config}
use Rattle.cfg_model.specs.declared.kind.Kind.{Kind}
use Rattle.cfg_model.specs.declared.kind.Field.{Field}
use Rattle.cfg_model.specs.declared.register.Register.{Register}
use Rattle.cfg_model.specs.declared.ledger.Chart.{Chart}
use Rattle.desk_words.specs.declared.request.SetText.{SetText}
use Rattle.desk_words.specs.declared.request.RecordText.{RecordText}
use Rattle.desk_words.specs.declared.request.RecordText.TheVariants.{Register as InRegister}
use Rattle.desk_words.specs.declared.request.RecordText.TheVariants.{Ledger as InLedger}
use Rattle.desk_words.specs.declared.reply.ShownDocument.{ShownDocument}
use Rattle.desk_words.specs.ReplyWords.{value_text}
use Rattle.desk_words.specs.RowTexts.{sum_texts}
use Rattle.desk_model.specs.Fields.{field_texts}

-- ---- records

-- a record of a register as texts, in the form in which it is given by hand
abbrev pub shown_record : Register → Rec → RecordText
shown_record register r = InRegister (record {
  mark = r.mark;
  sums = sum_texts (map (λ x. x.scale) register.resources) r.sums;
  values = map value_text r.values;
})

-- an entry of a ledger as texts
abbrev pub shown_entry : Chart → Posting → RecordText
shown_entry chart p = InLedger (record {
  amount = sum_text p.amount chart.scale;
  debit = p.debit;
  credit = p.credit;
})

-- a set under the name of its space, where it has records
abbrev pub shown_set : List ℕ → List RecordText → List SetText
shown_set name [] = []
shown_set name (r ∷ rs) = record { space = name; records = r ∷ rs } ∷ []

-- the sets of registers that have records, in the order of the configuration
abbrev pub shown_registers : List Register → List (List Rec) → List SetText
shown_registers [] sets = []
shown_registers (register ∷ registers) [] = []
shown_registers (register ∷ registers) (set ∷ sets) =
    shown_set register.name (map (shown_record register) set) ++ shown_registers registers sets

-- the sets of ledgers that have entries, in the order of the configuration
abbrev pub shown_ledgers : List Chart → List (List Posting) → List SetText
shown_ledgers [] sets = []
shown_ledgers (chart ∷ charts) [] = []
shown_ledgers (chart ∷ charts) (set ∷ sets) =
    shown_set chart.name (map (shown_entry chart) set) ++ shown_ledgers charts sets

-- ---- documents

-- the type of a document, where it has one
abbrev pub kind_at : Config → Option ℕ → Option Kind
kind_at config place = option_and_then (λ p. slice_get config.kinds p) place

-- the fields of a type's head, none where there is no type
abbrev pub head_fields : Option Kind → List Field
head_fields kind = unwrap_or (option_map (λ k. k.head) kind) []

-- the fields of a type's lines, none where there is no type
abbrev pub line_fields : Option Kind → List Field
line_fields kind = unwrap_or (option_map (λ k. k.lines) kind) []

-- a document with its fields and its records as texts
abbrev pub shown_document : Config → Document → ShownDocument
shown_document config d = record {
  active = d.doc.active;
  comment = d.doc.comment;
  date = d.doc.date;
  doc = d.doc.number;
  head = field_texts (head_fields (kind_at config d.doc.kind)) d.doc.head;
  key = d.doc.key;
  kind = option_map (λ k. k.name) (kind_at config d.doc.kind);
  lines = map (field_texts (line_fields (kind_at config d.doc.kind))) d.doc.lines;
  sets = shown_registers config.registers d.sets.registers
      ++ shown_ledgers config.ledgers d.sets.ledgers;
  state = d.doc.state;
}
