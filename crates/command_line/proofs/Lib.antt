mod Numerals
mod Options
mod Reading
pub mod Examples
pub mod Ranges
