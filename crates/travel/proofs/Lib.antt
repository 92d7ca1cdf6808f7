pub mod Orders
pub mod Broken
pub mod Got
