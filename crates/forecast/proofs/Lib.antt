pub mod Acting
pub mod Begun
pub mod Comes
pub mod Examples
pub mod Shown
pub mod Steps
