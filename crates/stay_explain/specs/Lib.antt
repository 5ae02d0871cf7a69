pub mod Explaining
pub mod Ledgers
pub mod Pages
pub mod Plans
pub mod Rows
pub mod Table
