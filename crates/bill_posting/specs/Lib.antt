pub mod Bills
pub mod Differences
pub mod Laws
pub mod Posting
