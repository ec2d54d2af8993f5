pub mod Bytes
pub mod Runs
pub mod Ran
pub mod Outcomes
pub mod Changes
pub mod Preserving
pub mod Agreement
pub mod laws
