pub mod Texts
pub mod Answers
pub mod Scripts
pub mod Stretches
pub mod Written
pub mod Serving
