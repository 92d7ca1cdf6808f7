pub mod Refusals
pub mod Answers
pub mod Stepping
pub mod Standing
pub mod Promises
pub mod Memory
