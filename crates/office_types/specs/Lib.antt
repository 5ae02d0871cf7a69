pub mod Commands
pub mod Entries
pub mod Fits
pub mod Kept
pub mod Reports
pub mod Tokens
