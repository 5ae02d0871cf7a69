pub mod Bindings
pub mod Changed
mod Examples
pub mod Histories
pub mod Indexes
pub mod Ledgers
pub mod Owners
pub mod Planning
pub mod Readings
pub mod Tables
pub mod Texts
pub mod Told
