use Rattle.std.proofs.Common.{sym}
use Rattle.serde_json.specs.View.{view}
use Rattle.desk_words.proofs.WellFormedLemmas.{given_of-object, document_is}
use Rattle.desk_words.proofs.request.Request.read_text.Goals as goal

pub returns-clause-well_formed : goal.returns-clause-well_formed
returns-clause-well_formed c =
    let found = rw c.in-Some.is at c.as_object.ensures in
    given_of-object c.request_in.result c.args.bytes.now (view c.in_ok-document.document) _
    (document_is c.args.bytes.now _ c.in_ok-document.ensures) (sym found)
    c.value_has_utf8.ensures c.request_in.ensures
