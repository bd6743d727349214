pub mod AnswerLemmas
pub mod AskedLemmas
pub mod ListedLemmas
pub mod StepLemmas
