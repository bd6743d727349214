pub mod Filters
pub mod Rows
pub mod Sums
