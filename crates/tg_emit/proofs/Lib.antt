pub mod Appending
mod Examples
pub mod Fitting
pub mod Labels
