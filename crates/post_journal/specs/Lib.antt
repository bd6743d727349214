pub mod Gates
pub mod Images
pub mod Journals
pub mod Openings
