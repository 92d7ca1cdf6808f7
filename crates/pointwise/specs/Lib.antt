pub mod Tables
pub mod States
pub mod Tracks
pub mod StateLaws
pub mod Built
pub mod StateNothing
pub mod StateExact
pub mod StateTracks
