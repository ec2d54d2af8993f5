pub mod Distances
pub mod Types
