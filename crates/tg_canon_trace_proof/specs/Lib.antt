pub mod Flattened
pub mod laws
