mod Answered
mod Clear
mod Complete
pub mod Computed
mod Examples
pub mod Filled
pub mod Pieces
mod Rows
mod Sound
mod Spelled
mod Taken
mod Texts
mod Tokens
pub mod Unique
