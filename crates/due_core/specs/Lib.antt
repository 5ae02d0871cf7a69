pub mod Buckets
pub mod Candidates
pub mod Choice
pub mod RuleActions
pub mod Search
