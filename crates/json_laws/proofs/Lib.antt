pub mod ForAbove
mod LineLemmas
mod ReadBack
mod Texts
mod Values
mod WorkedRows
