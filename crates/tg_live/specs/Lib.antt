pub mod Flow
pub mod Live
pub mod Interference
pub mod glue
pub mod laws
pub mod mirror
