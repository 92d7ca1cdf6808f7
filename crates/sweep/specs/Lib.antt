pub mod Blocks
pub mod Starts
pub mod Sweeps
pub mod Sound
pub mod Exact
pub mod Ends
