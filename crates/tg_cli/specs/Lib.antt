pub mod Ends
pub mod glue
