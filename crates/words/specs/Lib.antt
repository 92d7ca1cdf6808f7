pub mod Cuts
pub mod Numbers
