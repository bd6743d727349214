-- What the desk keeps, with a document put or taken out.
use Rattle.std.proofs.Common.{◌≡◌, ℕ, ◌+◌, ◌-◌, ◌≤◌, ◌<◌, ◌^◌, Bool, true, false, cond, is_none}
use Rattle.std.proofs.Common.{Option, Some, None, List, [], length, refl, ap, ◌∙◌, sym, subst}
use Rattle.std.proofs.Common.{arith}
use Rattle.reg_base.specs.declared.records.Document.{Document}
use Rattle.reg_base.specs.Documents.{document_at, with_document, without_document}
use Rattle.cfg_model.specs.declared.config.Config.{Config}
use Rattle.doc_store.specs.Stores.{Stored, kept}
use Rattle.post_journal.specs.Images.{end_of_places}
use Rattle.rule_lang.specs.declared.rules.Rules.{Rules}
use Rattle.desk_words.specs.declared.request.Request.{Request}
use Rattle.desk_words.specs.declared.reply.Acknowledgement.{Acknowledgement}
use Rattle.desk_words.specs.declared.reply.Answer.TheVariants.{Acknowledged}
use Rattle.desk_model.specs.declared.last.Last.{Last}
use Rattle.desk_model.specs.LastRequests.{lasts_with}
use Rattle.desk_model.specs.Limits.{record_count, records_in, records_before}
use Rattle.desk_model.specs.Journals.{longer}
use Rattle.desk_model.specs.State.{Desk, Setting}
use Rattle.desk_model.specs.Desk.{meaning_at}
use Rattle.desk_core.specs.declared.changes.Left.{Left}
use Rattle.desk_core.specs.declared.outcome.Change.{Change}
use Rattle.desk_core.specs.declared.outcome.Change.TheVariants.{Put, Remove, Close}
use Rattle.desk_core.specs.declared.outcome.Entry.{Entry}
use Rattle.desk_core.specs.Changes.{IsLeft, Stages, documents_changed}
use Rattle.desk_core.specs.DeskViews.{DeskView, Fits, IsShortChange, MayChange, changed, desk_with}
use Rattle.desk_core.specs.DeskViews.{with_request}
use Rattle.desk_core.specs.Invariants.{AreKept, IsKept}
use Rattle.desk_plans.specs.Bounds.{IsWithinBounds}
use Rattle.desk_core.proofs.DocumentLists.{All-at, All-with, All-without, records-without}
use Rattle.desk_core.proofs.DocumentLists.{length-with, length-without, records-with}

-- ---- records without a document

module _ (documents : List Document) (top records n : ℕ)
    (are_kept : AreKept documents top records) where
  pub short-found : (d : Document) → Some d ≡ document_at n documents → IsWithinBounds d
  short-found d found = All-at IsWithinBounds n documents d are_kept.short (sym found)

  -- the count without the document that was found
  counted-found : (d : Document) → Some d ≡ document_at n documents →
      records_in (without_document n documents) + record_count d ≡ records
  counted-found d found =
      subst (λ (o : Option Document). records_in (without_document n documents) + records_before o
      ≡ records_in documents) (sym found) (records-without n documents)
      ∙ sym are_kept.counted

  pub count-found : (d : Document) → Some d ≡ document_at n documents → record_count d ≤ records
  count-found d found = omega (arith, counted-found d found)

  pub left-found : (d : Document) → Some d ≡ document_at n documents →
      records - record_count d ≡ records_in (without_document n documents)
  left-found d found = omega (arith, counted-found d found)

  pub left-missing : None ≡ document_at n documents →
      records ≡ records_in (without_document n documents)
  left-missing none =
      let same : records_in (without_document n documents) + 0 ≡ records_in documents =
      subst (λ (o : Option Document). records_in (without_document n documents) + records_before o
      ≡ records_in documents) (sym none) (records-without n documents) in
      omega (arith, same, are_kept.counted)

-- the records with a document are those without its number, and its own
pub records-put : (d : Document) (documents : List Document) →
    records_in (without_document d.doc.number documents) + record_count d
    ≡ records_in (with_document d documents)
records-put d documents =
    let without = records-without d.doc.number documents in
    let together = records-with d documents in
    omega (arith, without, together)

-- ---- documents kept with a change

pub AreKept-without : (documents : List Document) (top records n left : ℕ) →
    AreKept documents top records → left ≡ records_in (without_document n documents) →
    AreKept (without_document n documents) top left
AreKept-without documents top records n left are_kept counted = record {
  numbered = All-without n (λ d. d.doc.number ≤ top) documents are_kept.numbered;
  short = All-without n IsWithinBounds documents are_kept.short;
  few = let few = length-without n documents in omega (arith, few, are_kept.few);
  counted = counted;
  within =
      let less = records-without n documents in
      omega (arith, less, counted, are_kept.counted, are_kept.within);
}

pub AreKept-with : (desk : Desk) (document : Document) (top records raised together : ℕ) →
    AreKept desk.serial.documents top records → Fits desk document →
    top ≤ raised → document.doc.number ≤ raised →
    together ≡ records_in (with_document document desk.serial.documents) →
    AreKept (with_document document desk.serial.documents) raised together
AreKept-with desk document top records raised together are_kept fits above own counted = record {
  numbered = All-with document (λ d. d.doc.number ≤ raised) desk.serial.documents own
      (λ k d below. let low = are_kept.numbered k d below in omega (arith, low, above));
  short = All-with document IsWithinBounds desk.serial.documents fits.short are_kept.short;
  few = fits.few;
  counted = counted;
  within = omega (arith, counted, fits.within);
}

-- what the documents keep, with a change
pub AreKept-changed : (desk : Desk) (change : Change) (records : ℕ) (left : Left) →
    AreKept desk.serial.documents desk.serial.top records → MayChange desk change →
    IsLeft desk change left →
    AreKept (documents_changed change desk.serial.documents) left.top left.records
AreKept-changed desk (Put document) records left are_kept fits is_left =
    AreKept-with desk document desk.serial.top records left.top left.records are_kept fits
    (omega (arith, is_left.top)) (omega (arith, is_left.top)) is_left.records
AreKept-changed desk (Remove number) records left are_kept fits is_left =
    subst (λ (top : ℕ). AreKept (without_document number desk.serial.documents) top left.records)
    (sym is_left.top)
    (AreKept-without desk.serial.documents desk.serial.top records number left.records are_kept
    is_left.records)
AreKept-changed desk (Close date) records left are_kept fits is_left =
    subst (λ (top : ℕ). AreKept desk.serial.documents top left.records) (sym is_left.top)
    (subst (λ (n : ℕ). AreKept desk.serial.documents desk.serial.top n)
    (are_kept.counted ∙ sym is_left.records) are_kept)

-- what the desk keeps, once a change was staged and kept
pub IsKept-changed : (config : Config) (rules : Rules) (before staged after : Stored) (desk : Desk)
    (change : Change) (left : Left) (top records old journal : ℕ) →
    IsKept config rules before top records old → before.documents ≡ desk.serial.documents →
    top ≡ desk.serial.top → MayChange desk change → IsLeft desk change left →
    Stages before staged change →
    after ≡ record {
      documents = kept staged.documents staged.staged;
      staged = [];
      room = None;
    } → journal ≤ end_of_places → IsKept config rules after left.top left.records journal
IsKept-changed config rules before staged after desk change left top records old journal is_kept
    documents top_is may is_left stages after_is low = record {
      limits = is_kept.limits;
      statements = is_kept.statements;
      staged = ap (λ (s : Stored). s.staged) after_is;
      kept = subst (λ (ds : List Document). AreKept ds left.top left.records)
          (sym (ap (λ (s : Stored). s.documents) after_is ∙ stages.kept_are
          ∙ ap (documents_changed change) documents))
          (AreKept-changed desk change records left
          (subst (λ (n : ℕ). AreKept desk.serial.documents n records) top_is
          (subst (λ (ds : List Document). AreKept ds top records) documents is_kept.kept)) may
          is_left);
      low = low;
    }

-- ---- the desk behind a change

-- a desk as it is seen
abbrev pub view_of : Setting → List Document → ℕ → ℕ → List Last → ℕ → Bool → DeskView
view_of setting documents top closed lasts journal stopped = record {
  desk = record {
    setting = setting;
    serial = record {
      documents = documents;
      top = top;
      closed = closed;
      lasts = lasts;
    };
    journal = journal;
  };
  stopped = stopped;
}

pub changed-documents : (desk : Desk) (change : Change) →
    (changed desk change).serial.documents ≡ documents_changed change desk.serial.documents
changed-documents desk (Put document) = refl
changed-documents desk (Remove number) = refl
changed-documents desk (Close date) = refl

-- a change leaves the setting
changed-setting : (desk : Desk) (change : Change) → (changed desk change).setting ≡ desk.setting
changed-setting desk (Put document) = refl
changed-setting desk (Remove number) = refl
changed-setting desk (Close date) = refl

changed-lasts : (desk : Desk) (change : Change) →
    (changed desk change).serial.lasts ≡ desk.serial.lasts
changed-lasts desk (Put document) = refl
changed-lasts desk (Remove number) = refl
changed-lasts desk (Close date) = refl

-- at most one document comes
pub changed-count : (desk : Desk) (change : Change) →
    length (documents_changed change desk.serial.documents)
    ≤ length desk.serial.documents + 1
changed-count desk (Put document) =
    omega (
      arith,
      length-with document desk.serial.documents,
      one (is_none (document_at document.doc.number desk.serial.documents)),
    )
  where
    one : (b : Bool) → cond b 1 0 ≤ 1
    one true = omega arith
    one false = omega arith
changed-count desk (Remove number) =
    let less = length-without number desk.serial.documents in omega (arith, less)
changed-count desk (Close date) = omega arith

-- the serial state with a change made and its request kept
pub kept-state : (desk : Desk) (request : Request) (change : Change)
    (acknowledgement : Acknowledgement) (documents : List Document) (left : Left)
    (lasts : List Last) → documents ≡ documents_changed change desk.serial.documents →
    IsLeft desk change left →
    lasts ≡ lasts_with (meaning_at desk request).clerk (meaning_at desk request).number request
    (Acknowledged acknowledgement) desk.serial.lasts →
    record { documents = documents; top = left.top; closed = left.closed; lasts = lasts }
    ≡ (with_request (changed desk change) (meaning_at desk request) request acknowledgement).serial
kept-state desk request change acknowledgement documents left lasts d is_left l = λ i. record {
  documents = (d ∙ sym (changed-documents desk change)) i;
  top = is_left.top i;
  closed = is_left.closed i;
  lasts = (l ∙ ap (lasts_with (meaning_at desk request).clerk (meaning_at desk request).number
      request (Acknowledged acknowledgement)) (sym (changed-lasts desk change))) i;
}

-- the desk that is left once a change was made and its request kept
pub desk_with-is : (setting : Setting) (desk : Desk) (request : Request) (entry : Entry)
    (documents : List Document) (left : Left) (lasts : List Last) (journal : ℕ) →
    setting ≡ desk.setting →
    documents ≡ documents_changed entry.change desk.serial.documents →
    IsLeft desk entry.change left →
    lasts ≡ lasts_with (meaning_at desk request).clerk (meaning_at desk request).number request
    (Acknowledged entry.acknowledgement) desk.serial.lasts →
    journal ≡ longer desk.journal (length entry.text.bytes) →
    (view_of setting documents left.top left.closed lasts journal false).desk
    ≡ desk_with desk request (Some entry)
desk_with-is setting desk request entry documents left lasts journal s d is_left l j = λ i. record {
  setting = (s ∙ sym (changed-setting desk entry.change)) i;
  serial = kept-state desk request entry.change entry.acknowledgement documents left lasts d
      is_left l i;
  journal = j i;
}

-- a change that is replayed may be made, where few records are left
pub may-replay : (desk : Desk) (change : Change) (left : Left) → IsShortChange change →
    length desk.serial.documents + 1 < 2 ^ 32 → IsLeft desk change left →
    left.records ≤ 8_000_000 → MayChange desk change
may-replay desk (Put document) left short few is_left within = record {
  short = short;
  few =
      let count = changed-count desk (Put document) in
      omega (arith, few, count);
  within = omega (arith, is_left.records, within);
}
may-replay desk (Remove number) left short few is_left within = tt
may-replay desk (Close date) left short few is_left within = tt
