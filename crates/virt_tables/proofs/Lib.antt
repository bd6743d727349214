mod BothLemmas
mod BothRows
mod BroughtLemmas
mod ColumnLemmas
mod CutLemmas
pub mod ForAbove
mod LimitLemmas
mod ListLemmas
mod MoveLemmas
mod RunLemmas
mod StandLemmas
