pub mod Digits
pub mod Searches
pub mod NumberTexts
pub mod Cutting
pub mod NumberGrammar
