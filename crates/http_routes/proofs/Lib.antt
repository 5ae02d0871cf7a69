pub mod Computed
mod Examples
pub mod Leads
