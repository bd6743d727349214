-- Documents of a type that are written.
use Rattle.std.specs.Prelude.{ℕ, Bool, ◌&&◌, ◌==◌, true, false, Option, Some, None, is_some}
use Rattle.std.specs.Prelude.{unwrap_or, List, [], slice_get, Result, Ok}
use Rattle.reg_base.specs.declared.records.DocState.{DocState}
use Rattle.reg_base.specs.declared.records.DocState.TheVariants.{Written, Posted, Marked}
use Rattle.reg_base.specs.declared.records.Doc.{Doc}
use Rattle.reg_base.specs.declared.records.Document.{Document}
use Rattle.reg_base.specs.declared.value.Cell.{Cell}
use Rattle.reg_base.specs.Results.{◌>>=◌, unless, some_or, each}
use Rattle.cfg_model.specs.declared.config.Config.{Config}
use Rattle.cfg_model.specs.Places.{kind_place}
use Rattle.desk_words.specs.declared.request.Write.{Write as WriteRequest}
use Rattle.desk_words.specs.declared.reply.Refusal.{Refusal}
use Rattle.desk_words.specs.declared.reply.Refusal.TheVariants.{BadField}
use Rattle.desk_words.specs.declared.reply.Field.TheVariants.{Kind as KindField}
use Rattle.desk_model.specs.declared.plan.Plan.{Plan}
use Rattle.desk_model.specs.declared.plan.Source.{Source}
use Rattle.desk_model.specs.declared.plan.Source.TheVariants.{Nothing}
use Rattle.desk_model.specs.Fields.{cells_of}
use Rattle.desk_model.specs.Plans.{Sight}
use Rattle.desk_model.specs.States.{named_is_seen, takes, key_is_free, dates_are_open}
use Rattle.desk_model.specs.States.{number_with, key_with}

-- whether a document is written, neither posted nor marked
abbrev pub is_written : DocState → Bool
is_written Written = true
is_written Posted = false
is_written Marked = false

-- whether a document is a written one of a type
abbrev pub is_written_kind : Doc → Bool
is_written_kind doc = is_written doc.state && is_some doc.kind

-- whether a type is this one
abbrev pub is_kind : ℕ → Option ℕ → Bool
is_kind place None = false
is_kind place (Some stored) = stored == place

-- whether a document that was there is of this type
abbrev pub keeps_kind : ℕ → Option Document → Bool
keeps_kind place None = true
keeps_kind place (Some d) = is_kind place d.doc.kind

-- the type that a request names, by its place: one of the configuration, and the document's own
unfoldable pub kind_of_request : Config → List ℕ → Option Document → Result ℕ Refusal
kind_of_request config name before = do
  place ← some_or (kind_place name config.kinds) (BadField KindField)
  _ ← unless (keeps_kind place before) (BadField KindField)
  Ok place

-- what a request says of a document: its type by place, and the values of its head and its lines
pub record Content : Type 0 where
  pub place : ℕ
  pub head : List Cell
  pub lines : List (List Cell)

-- the content of a request, or the first of its fields that is wrong
unfoldable pub content_of : Config → WriteRequest → Option Document → Result Content Refusal
content_of config w before = do
  place ← kind_of_request config w.kind before
  kind ← some_or (slice_get config.kinds place) (BadField KindField)
  head ← cells_of kind.head w.head
  lines ← each (cells_of kind.lines) w.lines
  Ok (record {
    place = place;
    head = head;
    lines = lines;
  })

-- the document that a request makes, or whose place its own takes: active, in this state
abbrev pub content_doc : DocState → WriteRequest → Sight → Content → Doc
content_doc state w sight content = record {
  number = number_with sight;
  kind = Some content.place;
  date = w.date;
  head = content.head;
  lines = content.lines;
  comment = unwrap_or w.comment [];
  key = key_with w.key sight.before;
  state = state;
  active = true;
}

-- what a request makes of its content, in this state and with records from there, or the first of
-- its refusals
unfoldable pub plan_content : DocState → Source → Config → WriteRequest → Sight →
    Result Plan Refusal
plan_content state source config w sight = do
  content ← content_of config w sight.before
  _ ← key_is_free sight.holder
  _ ← dates_are_open sight.closed sight.before w.date
  Ok (record {
    doc = content_doc state w sight content;
    source = source;
  })

-- what `write` makes: a written document without records
unfoldable pub plan_write : Config → WriteRequest → Sight → Result Plan Refusal
plan_write config w sight = do
  _ ← named_is_seen w.doc sight.before
  _ ← takes is_written_kind sight.before
  plan_content Written Nothing config w sight
