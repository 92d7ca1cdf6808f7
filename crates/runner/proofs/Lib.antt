pub mod Stepped
pub mod Counted
pub mod Dried
