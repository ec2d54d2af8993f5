pub mod Names
pub mod Rows
pub mod Table
pub mod Effects
pub mod Runs
pub mod ImageRuns
pub mod laws
