-- The lemmas that the answers cite: of plain lists first, then of a table.
pub mod Sets
pub mod Places
pub mod Readings
pub mod Nested
pub mod Found
pub mod Agreed
pub mod Written
pub mod Lookup
pub mod Growth
pub mod Taken
