pub mod Indexed
pub mod Queue
