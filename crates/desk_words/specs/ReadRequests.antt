-- Each request from its members, which are read in their order: so the first that is not of its
-- shape is told.
use Rattle.std.specs.Prelude.{ℕ, ◌||◌, List, Option, None, is_none, option_map, Ok}
use Rattle.serde_json.specs.Data.{Members}
use Rattle.reg_base.specs.Results.{◌>>=◌, unless, none_or}
use Rattle.desk_words.specs.declared.fault.Member.TheVariants.{Clerk, No, Doc, Key, Kind, Date}
use Rattle.desk_words.specs.declared.fault.Member.TheVariants.{Head, Lines, On, Sets, Comment}
use Rattle.desk_words.specs.declared.fault.WordFault.TheVariants.{BadMember}
use Rattle.desk_words.specs.declared.read_requests.Heading.{Heading}
use Rattle.desk_words.specs.declared.request.Write.{Write}
use Rattle.desk_words.specs.declared.request.StandingDocument.{StandingDocument}
use Rattle.desk_words.specs.declared.request.Switch.{Switch}
use Rattle.desk_words.specs.declared.request.Manual.{Manual}
use Rattle.desk_words.specs.declared.request.Close.{Close}
use Rattle.desk_words.specs.declared.request.Sweep.{Sweep}
use Rattle.desk_words.specs.declared.request.DocQuestion.{DocQuestion}
use Rattle.desk_words.specs.Members.{content_members, first_present}
use Rattle.desk_words.specs.Shapes.{OrFault, required_at, optional_at, json_name, json_code}
use Rattle.desk_words.specs.Shapes.{json_number, json_date, json_boolean, json_comment}
use Rattle.desk_words.specs.Sets.{json_sets}
use Rattle.desk_words.specs.Fields.{json_fields, json_lines}

-- The key of a document. Only a new document is given one, so that a key beside a number is
-- refused, whatever its shape.
unfoldable pub key_beside : Option ℕ → Members → OrFault (Option (List ℕ))
key_beside doc object = do
  key ← optional_at json_code Key object
  _ ← unless (is_none doc || is_none key) (BadMember Key)
  Ok key

-- whose request it is, and which document it makes or replaces
unfoldable pub heading_of : Members → OrFault Heading
heading_of object = do
  clerk ← required_at json_name Clerk object
  nr ← required_at json_number No object
  doc ← optional_at json_number Doc object
  key ← key_beside doc object
  Ok (record { clerk = clerk; no = nr; doc = doc; key = key })

-- the content of a document
unfoldable pub write_request : Members → OrFault Write
write_request object = do
  given ← heading_of object
  kind ← required_at json_name Kind object
  date ← required_at json_date Date object
  head ← required_at json_fields Head object
  lines ← required_at json_lines Lines object
  comment ← optional_at json_comment Comment object
  Ok (record {
    clerk = given.clerk;
    no = given.no;
    doc = given.doc;
    key = given.key;
    kind = kind;
    date = date;
    head = head;
    lines = lines;
    comment = comment;
    tx = None;
  })

-- a document as it stands
unfoldable pub standing_document : Members → OrFault StandingDocument
standing_document object = do
  clerk ← required_at json_name Clerk object
  nr ← required_at json_number No object
  doc ← required_at json_number Doc object
  Ok (record { clerk = clerk; no = nr; doc = doc; tx = None })

-- a document to be posted as it stands: no member of content may be there, whatever its shape
unfoldable pub standing_post : Members → OrFault StandingDocument
standing_post object = do
  standing ← standing_document object
  _ ← none_or (option_map BadMember (first_present content_members object))
  Ok standing

-- a switch of a document
unfoldable pub switch_request : Members → OrFault Switch
switch_request object = do
  standing ← standing_document object
  on ← required_at json_boolean On object
  Ok (record {
    clerk = standing.clerk;
    no = standing.no;
    doc = standing.doc;
    on = on;
    tx = None;
  })

-- records given by hand
unfoldable pub manual_request : Members → OrFault Manual
manual_request object = do
  given ← heading_of object
  date ← required_at json_date Date object
  sets ← required_at json_sets Sets object
  comment ← optional_at json_comment Comment object
  Ok (record {
    clerk = given.clerk;
    no = given.no;
    doc = given.doc;
    key = given.key;
    date = date;
    sets = sets;
    comment = comment;
    tx = None;
  })

-- the books closed
unfoldable pub close_request : Members → OrFault Close
close_request object = do
  clerk ← required_at json_name Clerk object
  nr ← required_at json_number No object
  date ← required_at json_date Date object
  Ok (record { clerk = clerk; no = nr; date = date })

-- a document removed
unfoldable pub sweep_request : Members → OrFault Sweep
sweep_request object = do
  standing ← standing_document object
  Ok (record { clerk = standing.clerk; no = standing.no; doc = standing.doc })

-- a question for a document
unfoldable pub doc_question : Members → OrFault DocQuestion
doc_question object = do
  clerk ← required_at json_name Clerk object
  doc ← required_at json_number Doc object
  Ok (record { clerk = clerk; doc = doc; tx = None })
