pub mod Clocks
pub mod Drafts
pub mod Draws
pub mod Generated
pub mod Places
pub mod Working
