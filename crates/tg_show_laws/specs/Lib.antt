pub mod Fitting
pub mod Blocks
pub mod Fields
pub mod laws
