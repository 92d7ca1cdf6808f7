pub mod Refusals
pub mod Travels
pub mod Gantries
pub mod Beams
pub mod BeamLaw
pub mod GantryLaw
pub mod Eithers
pub mod Benches
