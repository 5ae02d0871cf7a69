pub mod AskLemmas
mod Examples
pub mod FramingLemmas
pub mod HeardLemmas
pub mod NumberLemmas
mod Rules
mod TokenExamples
