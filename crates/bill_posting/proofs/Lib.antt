pub mod Differences
pub mod Tallies
pub mod Groups
pub mod Once
