pub mod Laws
pub mod Lefts
pub mod Makes
pub mod Scenes
pub mod WriteOffs
pub mod Yields
