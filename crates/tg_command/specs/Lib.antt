pub mod Counts
pub mod Modes
pub mod Arguments
pub mod Simple
pub mod Flagged
pub mod Sizes
pub mod Commands
pub mod glue
