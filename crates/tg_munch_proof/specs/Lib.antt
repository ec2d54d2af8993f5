pub mod Words
pub mod glue
pub mod laws
