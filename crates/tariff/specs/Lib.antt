pub mod Charges
pub mod Faults
pub mod Opened
pub mod Prices
pub mod Reading
pub mod Rooms
