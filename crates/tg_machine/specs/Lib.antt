pub mod Machines
pub mod Ran
pub mod Fetches
pub mod glue
pub mod laws
pub mod mirror
