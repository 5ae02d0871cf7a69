pub mod Classes
pub mod RecordStays
pub mod Restorable
pub mod Snapshots
