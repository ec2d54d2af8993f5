pub mod Interference
pub mod Lists
pub mod glue
pub mod laws
