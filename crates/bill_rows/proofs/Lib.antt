pub mod Alone
pub mod Counts
pub mod Made
pub mod Order
pub mod Posted
pub mod Read
pub mod Texts
