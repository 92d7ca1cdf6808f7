-- The table of a program: what the next line is answered, when blocks say what the lines say, when lines
-- are written, and what a table holds.
pub mod Limits
pub mod Racks
pub mod Refusals
pub mod Agree
pub mod Written
pub mod Held
pub mod Entry
pub mod Numbers
