pub mod Names
pub mod Search
pub mod Rows
pub mod Tables
pub mod Reading
pub mod Documents
pub mod Walking
