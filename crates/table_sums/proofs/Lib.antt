mod AddLemmas
pub mod ForAbove
mod KeyOrder
mod ReachLemmas
mod RowLemmas
