pub mod Dates
pub mod Holders
pub mod Kept
pub mod Pairs
pub mod Stores
