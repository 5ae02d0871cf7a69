pub mod Answers
pub mod Books
pub mod Months
pub mod Puts
pub mod Rows
pub mod WellMade
