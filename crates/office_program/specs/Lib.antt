pub mod Carrying
pub mod Commands
pub mod Program
pub mod Survival
pub mod Workers
pub mod Worlds
