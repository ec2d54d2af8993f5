pub mod Block
pub mod Shapes
pub mod Meaning
pub mod glue
pub mod laws
pub mod mirror
