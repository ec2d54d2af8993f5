pub mod Allocating
pub mod Reduced
pub mod laws
