pub mod PlacingLemmas
pub mod TotalLemmas
mod WorkedRows
pub mod AlignLemmas
