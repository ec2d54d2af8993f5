pub mod Bounds
pub mod glue
pub mod laws
