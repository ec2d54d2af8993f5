pub mod Prepared
pub mod Compiling
pub mod Slots
pub mod glue
pub mod laws
