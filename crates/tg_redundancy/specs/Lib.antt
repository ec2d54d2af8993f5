pub mod laws
pub mod mirror
pub mod glue
