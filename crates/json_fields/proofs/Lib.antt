mod Examples
pub mod FieldLemmas
pub mod JsonLemmas
pub mod NameLemmas
pub mod NodeLemmas
pub mod NumberLemmas
pub mod Turns
pub mod WalkLemmas
