mod Examples
mod Places
pub mod Changes
pub mod Joining
pub mod Runs
pub mod Members
pub mod Moves
pub mod Vectors
pub mod Partitions
