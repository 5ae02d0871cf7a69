pub mod Faults
pub mod Forecasts
pub mod Laws
pub mod Lines
pub mod Telling
