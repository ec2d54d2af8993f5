pub mod Inverse
pub mod FuelRuns
pub mod Anywhere
