pub mod glue
