pub mod ClerkOrder
pub mod Entries
pub mod Histories
pub mod Replays
