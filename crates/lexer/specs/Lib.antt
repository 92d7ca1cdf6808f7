pub mod Classes
pub mod Equality
pub mod Keywords
pub mod Kinds
pub mod Parts
pub mod Lexemes
