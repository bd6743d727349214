use Rattle.desk_words.proofs.Documents.{json_document-text, json_document-fault}
use Rattle.desk_words.proofs.parsed.json_document.Goals as goal

pub returns-in-Ok : goal.returns-in-Ok
returns-in-Ok c = rw (json_document-text _ c.in-Ok.ensures.cases.1, ← c.in-Ok.ensures.cases.0)
    c.value_of.ensures

pub returns-in-Err : goal.returns-in-Err
returns-in-Err c = λ _. rw (json_document-fault _ _ c.in-Err.ensures.cases.1)
