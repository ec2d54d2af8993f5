pub mod Labels
pub mod Routines
