pub mod Sizes
pub mod Walks
pub mod Pairs
pub mod Sides
pub mod Slots
pub mod UnitRows
pub mod RowLists
pub mod Balances
