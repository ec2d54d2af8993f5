pub mod Answers
pub mod Depth
pub mod glue
