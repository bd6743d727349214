pub mod EntryLemmas
pub mod OrderLemmas
pub mod ReplayLemmas
pub mod WorkedRows
