pub mod ForAbove
mod LotLemmas
mod ReadLemmas
mod RowShop
mod SetLemmas
mod TakeLemmas
mod WalkLemmas
mod WorkedFaults
mod WorkedRounds
mod WorkedRows
