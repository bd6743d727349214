-- Private: documents that are listed by their numbers.
use Rattle.std.specs.Prelude.{ℕ, Option, Some, None, List, [], ◌∷◌}
use Rattle.std.specs.List.{flat_map}
use Rattle.reg_base.specs.declared.records.Document.{Document}
use Rattle.reg_base.specs.declared.records.DocRow.{DocRow}
use Rattle.reg_base.specs.Documents.{document_at}
use Rattle.cfg_model.specs.declared.config.Config.{Config}
use Rattle.desk_model.specs.Questions.{document_row}

-- the row of a document, where there is one
abbrev pub row_if : Config → Option Document → List DocRow
row_if config None = []
row_if config (Some d) = document_row config d ∷ []

-- the rows of the documents of these numbers
abbrev pub rows_at : Config → List Document → List ℕ → List DocRow
rows_at config documents numbers =
    flat_map (λ n. row_if config (document_at n documents)) numbers
