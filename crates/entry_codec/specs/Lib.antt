pub mod Fields
pub mod Formats
pub mod Kinds
pub mod Reading
pub mod Spelling
