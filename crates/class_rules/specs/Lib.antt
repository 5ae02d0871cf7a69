pub mod Classes
pub mod Lines
