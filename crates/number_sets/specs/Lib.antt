pub mod Sets
pub mod Exact
pub mod Pairs
pub mod Clamped
