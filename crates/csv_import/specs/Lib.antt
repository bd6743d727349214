pub mod ImportEnds
pub mod Imports
pub mod Posting
