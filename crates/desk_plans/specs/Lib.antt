pub mod Bounds
pub mod Contents
pub mod DocumentParts
pub mod ShownSets
pub mod Sights
