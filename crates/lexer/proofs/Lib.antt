pub mod Found
pub mod Heads
pub mod Runs
pub mod Numbers
pub mod Bytes
pub mod Lexemes
pub mod Spelling
