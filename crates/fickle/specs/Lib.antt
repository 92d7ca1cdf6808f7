pub mod Fickle
pub mod FickleLaws
