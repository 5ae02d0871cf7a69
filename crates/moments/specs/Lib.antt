pub mod Dates
pub mod JiffCalendar
pub mod Months
pub mod Texts
pub mod Time
