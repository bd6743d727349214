pub mod Asks
pub mod Both
pub mod Bounds
pub mod Columns
pub mod Cuts
pub mod Limits
