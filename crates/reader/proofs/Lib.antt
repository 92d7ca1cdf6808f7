pub mod Chains
pub mod Words
pub mod Clear
pub mod Finish
pub mod Tables
