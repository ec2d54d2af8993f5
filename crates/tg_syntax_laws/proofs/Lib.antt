-- laws that crates above use: of the descent, of trees and of places
pub mod Complete
pub mod Sound
pub mod ValidJobs
pub mod ThroughProgram
pub mod NamesKnown
pub mod Begun
pub mod Standing
pub mod Orders
-- this crate's own
mod Runs
mod Exact
mod NoEnd
mod Covers
