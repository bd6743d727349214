-- Private: what a change leaves, and how it is staged.
use Rattle.std.specs.Prelude.{◌≡◌, List, []}
use Rattle.reg_base.specs.declared.records.Document.{Document}
use Rattle.reg_base.specs.Documents.{with_document, without_document}
use Rattle.doc_store.specs.Stores.{Stored, kept}
use Rattle.desk_model.specs.State.{Desk}
use Rattle.desk_model.specs.Limits.{records_in}
use Rattle.desk_core.specs.declared.outcome.Change.{Change}
use Rattle.desk_core.specs.declared.outcome.Change.TheVariants.{Put, Remove, Close}
use Rattle.desk_core.specs.declared.changes.Left.{Left}
use Rattle.desk_core.specs.DeskViews.{changed}

-- the documents with a change made
abbrev pub documents_changed : Change → List Document → List Document
documents_changed (Put document) documents = with_document document documents
documents_changed (Remove number) documents = without_document number documents
documents_changed (Close date) documents = documents

-- the counts of a desk with a change made
pub record IsLeft (desk : Desk) (change : Change) (left : Left) : Type 0 where
  pub records : left.records ≡ records_in (documents_changed change desk.serial.documents)
  pub top : left.top ≡ (changed desk change).serial.top
  pub closed : left.closed ≡ (changed desk change).serial.closed

-- a change is staged: nothing is seen of it yet, and to keep it makes it
pub record Stages (store staged : Stored) (change : Change) : Type 0 where
  pub documents : staged.documents ≡ store.documents
  pub kept_are : kept staged.documents staged.staged
      ≡ documents_changed change store.documents

-- nothing is staged, and nothing has changed
pub record DropsBack (store now : Stored) : Type 0 where
  pub documents : now.documents ≡ store.documents
  pub staged : now.staged ≡ []
