pub mod Bodies
pub mod Combining
pub mod Parts
