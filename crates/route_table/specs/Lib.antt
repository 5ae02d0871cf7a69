pub mod Laws
pub mod Paths
pub mod Patterns
pub mod Routed
pub mod Tables
