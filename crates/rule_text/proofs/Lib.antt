pub mod TokenLemmas
pub mod ReaderLemmas
mod SpellingLemmas
mod PlainTexts
mod ReadTests
mod SpeltTokens
mod GivesLemmas
mod SumReads
mod StatementReads
mod TextTokens
mod LexemeLemmas
mod ReadBack
mod TokensBack
mod ListsBack
mod SumsBack
mod BindsBack
mod ActsBack
mod ConditionsBack
mod StatementsBack
mod TextsReadBack
mod Decided
mod DecidedLists
mod DecidedStatements
mod RefusalLemmas
pub mod ForAbove
mod WorkedRows
