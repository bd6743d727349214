-- Documents within their bounds have short sets.
use Rattle.std.proofs.Common.{List, All}
use Rattle.std.proofs.lemmas.List.Elements.{All-weaker}
use Rattle.reg_base.specs.declared.records.Document.{Document}
use Rattle.reg_base.specs.Documents.{HasShortSets}
use Rattle.virt_tables.specs.Bounds.{HasShortRecords}
use Rattle.desk_plans.specs.Bounds.{IsWithinBounds}

pub short-documents : (documents : List Document) → All IsWithinBounds documents
    → All HasShortSets documents
short-documents documents all = All-weaker IsWithinBounds HasShortSets
    (λ d within. record { records = within.records; entries = within.entries }) documents all

pub short-records : (documents : List Document) → All IsWithinBounds documents
    → All HasShortRecords documents
short-records documents all =
    All-weaker IsWithinBounds HasShortRecords (λ d within. within.records) documents all
