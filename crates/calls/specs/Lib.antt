pub mod Law
pub mod Playing
pub mod Loans
pub mod Events
