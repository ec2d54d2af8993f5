pub mod Ranges
pub mod Conditions
pub mod mirror
