pub mod Bodies
pub mod Flaws
pub mod Multipart
pub mod Pairs
pub mod Puts
pub mod Ranges
pub mod Settings
