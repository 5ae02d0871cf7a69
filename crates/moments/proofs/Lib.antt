mod Examples
pub mod Calendar
pub mod ReadBack
mod Texts
