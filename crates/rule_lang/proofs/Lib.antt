pub mod LeastLemmas
mod ResolvesLemmas
mod StepLemmas
mod ResolvedLemmas
mod BindLemmas
mod ActLemmas
mod ConditionLemmas
mod SequenceLemmas
mod LawLemmas
mod NameLemmas
mod ZipLemmas
mod CodeLemmas
mod ScaledLemmas
mod WrittenConditions
mod WrittenAmounts
mod WrittenMakes
mod WrittenWriteOffs
mod WrittenRequirements
mod WrittenEntries
mod WrittenRules
mod OtherTexts
mod OtherActs
mod ReadBackLemmas
pub mod RuleLemmas
pub mod PrintLemmas
mod WorkedRows
mod WorkedVerbs
