pub mod Keepers
pub mod Reading
pub mod Ready
pub mod Steps
