pub mod Csv
pub mod Lines
pub mod Tables
