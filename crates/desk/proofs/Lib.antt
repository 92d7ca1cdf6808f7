pub mod Playing
pub mod Stretching
pub mod Writing
