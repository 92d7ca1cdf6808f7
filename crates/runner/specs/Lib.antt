pub mod Steps
pub mod Plain
pub mod Drying
