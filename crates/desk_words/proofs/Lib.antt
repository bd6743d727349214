pub mod Documents
pub mod OrderLemmas
pub mod Walks
pub mod JsonLemmas
pub mod ReplyLemmas
pub mod RequestLemmas
mod PlainLemmas
mod ShapesBack
mod TextsBack
mod OptionalBack
mod Entries
mod DocumentsBack
mod StandingBack
mod TableParts
mod TablesBack
pub mod ReadBackLemmas
mod ReadValues
mod ShapeLemmas
mod TableLemmas
pub mod WellFormedLemmas
mod WorkedRows
mod WorkedRequests
mod WorkedReplies
mod WorkedPostings
mod WorkedTables
mod WorkedTableRows
