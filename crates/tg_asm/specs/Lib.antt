pub mod Images
pub mod glue
