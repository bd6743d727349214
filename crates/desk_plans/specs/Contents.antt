-- Private: what a request says of a document, as the desk holds it.
use Rattle.desk_model.specs.Writes.{Content}
use Rattle.desk_plans.specs.declared.writes.Content.{Content as ContentOf}

-- the content as the definitions have it
abbrev pub content_view : ContentOf → Content
content_view content = record {
  place = content.place;
  head = content.head;
  lines = content.lines;
}
