pub mod Parses
pub mod Tables
