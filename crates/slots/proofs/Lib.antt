pub mod Choosing
pub mod Fronts
pub mod OneFile
pub mod Parts
pub mod Saved
pub mod Tallied
pub mod Texts
