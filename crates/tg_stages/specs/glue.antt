pub mod Putting
pub mod Allocating
