pub mod Numbering
pub mod glue
pub mod laws
