pub mod Walks
pub mod Copies
pub mod Sweeping
pub mod Verdicts
