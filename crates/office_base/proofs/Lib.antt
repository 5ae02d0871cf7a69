pub mod Sizes
pub mod InOrder
pub mod Results
pub mod Utf8
pub mod Versions
