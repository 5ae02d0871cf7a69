pub mod Counts
pub mod Faults
pub mod Hearing
pub mod Meaning
pub mod Numbers
pub mod Streams
pub mod Tells
