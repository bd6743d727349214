pub mod AmountLemmas
pub mod BoundLemmas
pub mod EntryLemmas
pub mod PlanLemmas
pub mod PrintableLemmas
pub mod RequestLemmas
pub mod StateLemmas
mod WorkedRows
