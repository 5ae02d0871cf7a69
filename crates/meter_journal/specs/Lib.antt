pub mod Created
pub mod History
pub mod Places
pub mod Reading
pub mod Windows
