mod AddLemmas
mod AddsLemmas
pub mod ForAbove
mod ListLemmas
mod OrderLemmas
mod RaiseLemmas
mod ReachLemmas
mod RisingLemmas
mod RowLemmas
