pub mod Types
pub mod Standards
pub mod Lookups
pub mod Synthesis
pub mod Facts
pub mod Finding
pub mod glue
