pub mod Bills
pub mod Books
pub mod Causes
pub mod Memory
