pub mod Commands
pub mod Exactness
pub mod Lists
