pub mod BodyLemmas
mod Examples
pub mod PairLemmas
pub mod PutLemmas
