pub mod Counting
pub mod Drawing
pub mod Draws
mod Examples
pub mod Keeping
pub mod Kept
pub mod MarkingLaws
pub mod Naming
pub mod NamingCode
pub mod NamingLaws
pub mod Passing
mod ProductRuns
mod Needs
pub mod Scopes
mod Shifts
mod Temporaries
pub mod Walking
pub mod Whole
pub mod Writing
