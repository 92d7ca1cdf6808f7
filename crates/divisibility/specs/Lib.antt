pub mod Multiples
pub mod Gcds
pub mod Leasts
pub mod Equations
