pub mod Answers
pub mod Buffers
pub mod Stops
pub mod Looks
pub mod glue
