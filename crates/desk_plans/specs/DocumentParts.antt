-- Private: a document of records that are made in a step of their own.
use Rattle.std.specs.Prelude.{Option, Some, Result, Ok}
use Rattle.reg_base.specs.declared.records.Doc.{Doc}
use Rattle.reg_base.specs.declared.records.Document.{Document}
use Rattle.reg_base.specs.declared.records.Sets.{Sets}
use Rattle.reg_base.specs.Results.{◌>>=◌}
use Rattle.desk_words.specs.declared.reply.Refusal.{Refusal}
use Rattle.desk_model.specs.DocumentSets.{document_of}

-- a document with its records, where they are made
abbrev pub with_sets : Doc → Result Sets Refusal → Result (Option Document) Refusal
with_sets doc made = made >>= λ sets. Ok (Some (document_of doc sets))
