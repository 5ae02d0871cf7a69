pub mod Causes
pub mod Heads
pub mod Loading
pub mod Saving
pub mod Slots
pub mod Synced
