pub mod ActParts
pub mod Bounds
pub mod SceneViews
pub mod Sheets
pub mod Onward
