pub mod Laws
pub mod Spelled
pub mod Table
pub mod Targets
