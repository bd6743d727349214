mod DateLemmas
mod HolderLemmas
mod PairLemmas
mod PlaceLemmas
mod SeenLemmas
mod SoundLemmas
mod WorkedRows
