mod Beginning
mod Carried
pub mod Done
mod Obeying
pub mod Owning
pub mod Soundness
pub mod Surviving
pub mod Working
