pub mod Elements
pub mod Fields
pub mod Names
pub mod Nodes
