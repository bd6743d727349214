pub mod BoundLemmas
pub mod FieldLemmas
pub mod ForAbove
pub mod GivenLemmas
pub mod PartLemmas
pub mod ReadingLemmas
pub mod ShownLemmas
