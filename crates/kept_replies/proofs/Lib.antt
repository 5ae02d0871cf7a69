pub mod Anew
pub mod Indexes
