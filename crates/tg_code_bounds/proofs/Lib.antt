mod Functions
mod Lines
mod Allocating
mod Programs
mod Examples
pub mod Enough
