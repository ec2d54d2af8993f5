pub mod glue
pub mod mirror
