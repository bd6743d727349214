mod CountLemmas
mod EndLemmas
mod GroupLemmas
mod LineLemmas
mod PostingLemmas
mod WorkedRows
