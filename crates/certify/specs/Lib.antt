pub mod Passes
pub mod Refusals
pub mod Certifies
