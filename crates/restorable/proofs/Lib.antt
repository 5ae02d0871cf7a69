pub mod Deciding
pub mod KeptTests
pub mod Lists
pub mod NameTests
pub mod QuietTests
pub mod RecordTests
pub mod Rising
pub mod SumTests
