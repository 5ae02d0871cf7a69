pub mod Books
pub mod Bounds
pub mod Meters
pub mod Rows
pub mod Sums
pub mod Totals
