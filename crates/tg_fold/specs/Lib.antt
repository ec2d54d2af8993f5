pub mod Sides
pub mod Copies
pub mod Folded
pub mod glue
pub mod laws
pub mod mirror
