mod Examples
pub mod PieceLemmas
pub mod PrintLemmas
pub mod RefusalLemmas
pub mod SaidLemmas
pub mod StreamLemmas
pub mod TalkLemmas
