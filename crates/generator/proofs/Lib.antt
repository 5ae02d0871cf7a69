pub mod Buckets
pub mod ClockLemmas
mod Examples
pub mod Made
pub mod PlaceLemmas
pub mod Progress
pub mod Rules
pub mod Standing
pub mod Works
