pub mod ForAbove
pub mod Steps
pub mod Walks
pub mod ListLemmas
pub mod RegisterLemmas
pub mod SequenceLemmas
pub mod ChartLemmas
pub mod SortedAccounts
pub mod CircleLemmas
pub mod PlaceLemmas
pub mod TomlOrder
pub mod TomlValues
pub mod ConfigLemmas
mod BalanceLemmas
pub mod LeafLemmas
mod LedgerLemmas
pub mod SumLemmas
mod WorkedAccounts
mod WorkedRows
