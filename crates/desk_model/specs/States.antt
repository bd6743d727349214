-- What a change asks of the document that it names, of keys and of dates; and documents that are
-- marked, made active, and removed.
use Rattle.std.specs.Prelude.{ℕ, Bool, true, false, not, ◌&&◌, nat_le, Option, Some, None, is_none}
use Rattle.std.specs.Prelude.{is_some, option_map, unwrap_or, List, Result, Ok, Err}
use Rattle.reg_base.specs.declared.records.DocState.{DocState}
use Rattle.reg_base.specs.declared.records.DocState.TheVariants.{Written, Posted, Marked}
use Rattle.reg_base.specs.declared.records.Doc.{Doc}
use Rattle.reg_base.specs.declared.records.Document.{Document}
use Rattle.reg_base.specs.Records.{is_posted}
use Rattle.reg_base.specs.Results.{◌>>=◌, unless, some_or}
use Rattle.desk_words.specs.declared.request.Switch.{Switch}
use Rattle.desk_words.specs.declared.reply.Refusal.{Refusal}
use Rattle.desk_words.specs.declared.reply.Refusal.TheVariants.{UnknownDoc, WrongState, KeyTaken}
use Rattle.desk_words.specs.declared.reply.Refusal.TheVariants.{Closed}
use Rattle.desk_model.specs.declared.plan.Plan.{Plan}
use Rattle.desk_model.specs.declared.plan.Source.TheVariants.{Kept, Nothing, Removed}
use Rattle.desk_model.specs.Plans.{Sight}

-- ---- what all changes ask

-- a document that is named is seen
abbrev pub named_is_seen : Option ℕ → Option Document → Result (Unit {0}) Refusal
named_is_seen None before = Ok tt
named_is_seen (Some number) (Some d) = Ok tt
named_is_seen (Some number) None = Err UnknownDoc

-- a document that was there is one that the change takes
abbrev pub takes : (Doc → Bool) → Option Document → Result (Unit {0}) Refusal
takes test None = Ok tt
takes test (Some d) = unless (test d.doc) (WrongState d.doc.state)

-- the key that a new document gives is no other document's
abbrev pub key_is_free : Option ℕ → Result (Unit {0}) Refusal
key_is_free None = Ok tt
key_is_free (Some holder) = Err (KeyTaken holder)

-- whether the date of a document that was there is open
abbrev pub is_open_before : ℕ → Option Document → Bool
is_open_before closed None = true
is_open_before closed (Some d) = nat_le closed d.doc.date

-- neither the date that a document had nor the one that it gets is before the closed date
abbrev pub dates_are_open : ℕ → Option Document → ℕ → Result (Unit {0}) Refusal
dates_are_open closed before date =
    unless (is_open_before closed before && nat_le closed date) (Closed closed)

-- a document keeps its number, and a new one has the drawn one
abbrev pub number_with : Sight → ℕ
number_with sight = unwrap_or (option_map (λ d. d.doc.number) sight.before) sight.drawn

-- a document keeps its key, and a new one has the one that is given
abbrev pub key_with : Option (List ℕ) → Option Document → Option (List ℕ)
key_with key None = key
key_with key (Some d) = d.doc.key

-- ---- documents that stay as they are but for their state

-- whether a document is a posted one of records that were given by hand
abbrev pub is_posted_manual : Doc → Bool
is_posted_manual doc = is_posted doc.state && is_none doc.kind

-- whether a document is marked for deletion
abbrev pub is_marked : DocState → Bool
is_marked Written = false
is_marked Posted = false
is_marked Marked = true

-- whether a mark can be put on a document, or taken off it: no manual document loses its mark
abbrev pub takes_switch : Bool → Doc → Bool
takes_switch true doc = not (is_marked doc.state)
takes_switch false doc = is_marked doc.state && is_some doc.kind

-- the state of a document whose mark is put on or taken off
abbrev pub switched_state : Bool → DocState
switched_state true = Marked
switched_state false = Written

-- what `mark` makes: a marked document has no records, and one whose mark is taken off had none
unfoldable pub plan_mark : Switch → Sight → Result Plan Refusal
plan_mark m sight = do
  d ← some_or sight.before UnknownDoc
  _ ← unless (takes_switch m.on d.doc) (WrongState d.doc.state)
  _ ← unless (nat_le sight.closed d.doc.date) (Closed sight.closed)
  Ok (record {
    doc = record d.doc { state = switched_state m.on };
    source = Nothing;
  })

-- what `activity` makes: the records of a document given by hand count, or do not
unfoldable pub plan_activity : Switch → Sight → Result Plan Refusal
plan_activity m sight = do
  d ← some_or sight.before UnknownDoc
  _ ← unless (is_posted_manual d.doc) (WrongState d.doc.state)
  _ ← unless (nat_le sight.closed d.doc.date) (Closed sight.closed)
  Ok (record {
    doc = record d.doc { active = m.on };
    source = Kept;
  })

-- what `sweep` makes: a marked document is removed
unfoldable pub plan_sweep : Sight → Result Plan Refusal
plan_sweep sight = do
  d ← some_or sight.before UnknownDoc
  _ ← unless (is_marked d.doc.state) (WrongState d.doc.state)
  _ ← unless (nat_le sight.closed d.doc.date) (Closed sight.closed)
  Ok (record {
    doc = d.doc;
    source = Removed;
  })
