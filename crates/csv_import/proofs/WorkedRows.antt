-- Worked rows: what groups come to, and the lines that are written of them.
use Rattle.std.proofs.Common.{◌≡◌, ℕ, true, List, [], ◌∷◌, ◌++◌, Some, None, codes, refl}
use Rattle.reg_base.specs.Numbers.{number_text}
use Rattle.reg_base.specs.declared.records.DocState.TheVariants.{Posted as Is_posted}
use Rattle.reg_base.specs.declared.records.Document.{Document}
use Rattle.desk_words.specs.declared.reply.Acknowledgement.TheVariants.{Document as Of_document}
use Rattle.desk_words.specs.declared.reply.Answer.TheVariants.{Acknowledged}
use Rattle.desk_words.specs.declared.reply.Refusal.TheVariants.{KeyTaken, UnknownClerk}
use Rattle.desk_words.specs.declared.reply.Reply.TheVariants.{Done, Refused as Is_refused}
use Rattle.desk_words.specs.declared.request.Request.{Request}
use Rattle.desk_model.specs.State.{Desk, Setting}
use Rattle.csv_groups.specs.declared.group.Group.{Group}
use Rattle.csv_import.specs.Imports.{outcome_text, counts_line, import_text, sent_outcome}
use Rattle.csv_import.specs.Imports.{posting_of, outcomes, group_entries, standing_document}
use Rattle.csv_import.specs.declared.outcome.Outcome.TheVariants.{Posted, There, Refused}

-- ---- lines

-- what stands behind the key, by what became of a group
posted_row : outcome_text (Posted 7) ≡ codes " posted 7" ++ 10 ∷ []
unfolding number_text
posted_row = refl

there_row : outcome_text (There 4_294_967_295) ≡ codes " there 4294967295" ++ 10 ∷ []
unfolding number_text
there_row = refl

refused_row : outcome_text (Refused 13) ≡ codes " refused 13" ++ 10 ∷ []
unfolding number_text
refused_row = refl

-- the last line
counts_row : counts_line (Posted 1 ∷ There 2 ∷ Refused 11 ∷ Posted 3 ∷ [])
    ≡ codes "posted 2 there 1 refused 1" ++ 10 ∷ []
unfolding number_text
counts_row = refl

-- of a file of no documents the last line alone is written
no_groups_row : (desk : Desk) → import_text desk [] ≡ codes "posted 0 there 0 refused 0" ++ 10 ∷ []
unfolding number_text
no_groups_row desk = refl

-- ---- replies

-- a document that was posted is told by its number
done_row : sent_outcome (Done (Acknowledged (Of_document true 5 Is_posted))) ≡ Posted 5
done_row = refl

-- a refusal is told by its number: that the key is taken has the number 12
key_row : sent_outcome (Is_refused (KeyTaken 3)) ≡ Refused 12
key_row = refl

-- and that no such clerk is known, 2
clerk_row : sent_outcome (Is_refused UnknownClerk) ≡ Refused 2
clerk_row = refl

-- ---- groups

-- document 4, which has the key `a-1`
abbrev kept : Document
kept = record {
  doc = record {
    number = 4;
    kind = None;
    date = 0;
    head = [];
    lines = [];
    comment = [];
    key = Some (codes "a-1");
    state = Is_posted;
    active = true;
  };
  sets = record { registers = []; ledgers = [] };
}

-- a desk with that document
abbrev desk_of : Setting → Desk
desk_of setting = record {
  setting = setting;
  serial = record { documents = kept ∷ []; top = 4; closed = 0; lasts = [] };
  journal = 23;
}

-- a group of that key, whatever it asks to post
abbrev again : Request → Group
again request = record { key = codes "a-1"; request = request }

-- it is there: nothing is sent, and the desk stays
there_again_row : (setting : Setting) (request : Request)
    → posting_of (desk_of setting) (again request)
    ≡ record { outcome = There 4; desk = desk_of setting; entries = [] }
unfolding posting_of
there_again_row setting request = refl

-- a group of another key is not there, even where one key begins as the other
not_there_row : (setting : Setting) (request : Request)
    → standing_document (desk_of setting) (record { key = codes "a-12"; request = request }) ≡ None
not_there_row setting request = refl

-- of a file of two such groups nothing is committed, and all is written
twice_entries_row : (setting : Setting) (first second : Request)
    → group_entries (desk_of setting) (again first ∷ again second ∷ []) ≡ []
unfolding posting_of
twice_entries_row setting first second = refl

twice_text_row : (setting : Setting) (first second : Request)
    → import_text (desk_of setting) (again first ∷ again second ∷ [])
    ≡ codes "a-1 there 4" ++ 10 ∷ codes "a-1 there 4" ++ 10 ∷ codes "posted 0 there 2 refused 0"
    ++ 10 ∷ []
unfolding posting_of number_text
twice_text_row setting first second = refl
