pub mod Sameness
pub mod Small
