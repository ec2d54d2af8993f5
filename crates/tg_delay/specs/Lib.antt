pub mod Filling
pub mod glue
pub mod mirror
