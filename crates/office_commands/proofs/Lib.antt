pub mod Answering
pub mod Billable
pub mod Billed
mod Closed
pub mod Foretellable
pub mod Foretold
pub mod MadeSo
pub mod MonthTold
mod ReadOnly
pub mod Refusing
pub mod RulesSaid
pub mod Said
