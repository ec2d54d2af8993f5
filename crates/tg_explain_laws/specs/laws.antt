pub mod Spans
pub mod Seen
pub mod First
pub mod Asked
pub mod Told
